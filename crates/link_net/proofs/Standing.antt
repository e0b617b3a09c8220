-- Where the nodes and ports of a network's tree stand among its nodes, and what may happen there.
use Rattle.std.proofs.Common.{◌≡◌, ◌-◌, List, [], ◌∷◌, map, length, refl, sym, ap, subst, ◌∙◌, arith}
use Rattle.std.specs.Prelude.{◌<◌, ◌≤◌, ◌^◌, Bool, slice_get, Some, ◌&&◌}
use Rattle.std.specs.List.{AllByRecursion, list_all}
use Rattle.std.proofs.lemmas.Option.{slice_get_within}
use Rattle.srp_base.proofs.Lists.{each_of}
use Rattle.srp_base.specs.declared.{numbers.EgressPort.EgressPort, numbers.NodeNo.NodeNo}
use Rattle.tree_topology.specs.declared.graph.NodeKind.{NodeKind}
use Rattle.tree_topology.specs.declared.graph.NodeKind.TheVariants.{Station}
use Rattle.tree_topology.specs.{Topology.HasNode, Topology.HasPort, Ports.peer_of}
use Rattle.attribute_propagation.specs.Ports.{place_of}
use Rattle.link_net.specs.{NodeMeaning, HasNodeLaws, next_of, NetState, IsStation, StandsAt, IsKeptNet}
use Rattle.link_net.proofs.{Nodes.node_of, Keeping.PortsLaw, Keeping.fits_of}

module _ {Name Step Reply Request Pdu : Type 0} (node : NodeMeaning Name Step Reply Request Pdu) where
  -- a port of the tree stands at its node
  pub stands : (w : NetState node.State) → IsKeptNet node w → (p : EgressPort) → HasPort w.tree p → StandsAt node p w.nodes
  stands w kept p has =
      let there = node_of node w (fits_of node w kept) p has in
      let first = has.1 in
      let within = slice_get_within w.nodes (p.node.0 - 1) there.state there.is in
      let some = has.0.0 in
      record {
        some = some;
        few = omega (arith, within, some);
        port = λ s is.
            let same : there.state ≡ s = (let e = there.is in cc) in
            let below : place_of p.port < node.ports_of s = subst (λ (t : node.State). place_of p.port < node.ports_of t) same there.below in
            record { some = first; within = omega (arith, first, below) };
      }

  -- so does its peer
  pub peer_stands : (w : NetState node.State) → IsKeptNet node w → PortsLaw → (p : EgressPort) → HasPort w.tree p → StandsAt node (peer_of w.tree.links p) w.nodes
  peer_stands w kept ports p has = stands w kept (peer_of w.tree.links p) ((ports w.tree kept.tree).peer_port p has)

  -- a node of the tree is among the nodes
  pub node_there : (w : NetState node.State) → IsKeptNet node w → (n : NodeNo) → HasNode w.tree n.0 → n.0 ≤ length w.nodes
  node_there w kept n has =
      let few = has.1 in
      let many = kept.many in
      omega (arith, few, many)

  -- a station may ask
  pub may_ask : HasNodeLaws node → (w : NetState node.State) → IsKeptNet node w → (n : NodeNo) (request : Request) → IsStation w.tree n
      → (s : node.State) → slice_get w.nodes (n.0 - 1) ≡ Some s → node.CanAsk request s
  may_ask laws w kept n request station s is =
      let f = kept.nodes (n.0 - 1) s is in
      let same : f.kind ≡ Station = kind_is f.kind (sym f.kind_is ∙ station.1) in
      laws.keeps.can_ask w.clock request s (subst (λ (k : NodeKind). node.IsKept k w.clock s) same f.kept)
    where
      kind_is : (k : NodeKind) → Some k ≡ Some Station → k ≡ Station
      kind_is k e = cc

  -- every clock may go on
  pub may_tick : HasNodeLaws node → (w : NetState node.State) → IsKeptNet node w → w.clock.0 < 2 ^ 61 → AllByRecursion (node.CanTick (next_of w.clock)) w.nodes
  may_tick laws w kept few = each_of (node.CanTick (next_of w.clock)) w.nodes (λ x s is. let f = kept.nodes x s is in laws.keeps.can_tick f.kind w.clock s few f.kept)

-- a test of each state is one of each node
pub all_mapped : {X Y : Type 0} (test : Y → Bool) (f : X → Y) (xs : List X) → list_all test (map f xs) ≡ list_all (λ x. test (f x)) xs
all_mapped test f [] = refl
all_mapped test f (x ∷ xs) = ap (λ b. test (f x) && b) (all_mapped test f xs)
