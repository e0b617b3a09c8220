-- A network of new nodes keeps what every network keeps.
use Rattle.std.proofs.Common.{◌≡◌, ◌-◌, List, [], ◌++◌, sym, subst, ◌∙◌, arith}
use Rattle.srp_base.specs.declared.{numbers.EgressPort.EgressPort}
use Rattle.tree_topology.specs.{Topology.Topology, Topology.HasPort, Ports.peer_of}
use Rattle.attribute_propagation.specs.Ports.{place_of}
use Rattle.link_net.specs.{NodeMeaning, HasNodeLaws, NetState, net_with, inbox, outbox, AreDutiesMet, IsKeptNet, AreNew}
use Rattle.link_net.proofs.{Nodes.Fits, Nodes.node_of, Nodes.inbox_is, Nodes.outbox_is, Nodes.part_is, Keeping.PortsLaw}

module _ {Name Step Reply Request Pdu : Type 0} (node : NodeMeaning Name Step Reply Request Pdu) (laws : HasNodeLaws node) (ports : PortsLaw)
    (tree : Topology) (nodes : List node.State) (new : AreNew node tree nodes) where
  abbrev start : NetState node.State
  start = net_with tree (record { 0 = 0 }) nodes

  fits : Fits node start
  fits =
      record {
        many = new.many;
        nodes = λ x s get.
            let f = new.new x s get in
            record { kind = f.kind; kind_is = f.kind_is; ports = f.ports; kept = laws.starts.keeps f.kind s f.new };
      }

  no_inbox : (p : EgressPort) → HasPort tree p → inbox node p start ≡ []
  no_inbox p has =
      let here = node_of node start fits p has in
      let f = new.new (p.node.0 - 1) here.state here.is in
      inbox_is node p start here.state here.is ∙ laws.starts.inbox f.kind (place_of p.port) here.state f.new

  no_outbox : (p : EgressPort) → HasPort tree p → outbox node p start ≡ []
  no_outbox p has =
      let here = node_of node start fits p has in
      let f = new.new (p.node.0 - 1) here.state here.is in
      outbox_is node p start here.state here.is ∙ laws.starts.outbox f.kind (place_of p.port) here.state f.new

  met : (n : Name) → AreDutiesMet node n start
  met n p has near far a b =
      let q = peer_of tree.links p in
      let law = ports tree new.sound in
      let has_q = law.peer_port p has in
      let here = node_of node start fits p has in
      let there = node_of node start fits q has_q in
      let f = new.new (p.node.0 - 1) here.state here.is in
      let g = new.new (q.node.0 - 1) there.state there.is in
      let none : node.duties n near far ([] ++ []) ([] ++ [])
      = laws.starts.duties f.kind g.kind n (place_of p.port) (place_of q.port) here.state there.state near far f.new g.new
      (sym (part_is node n p start here.state here.is) ∙ a) (sym (part_is node n q start there.state there.is) ∙ b) in
      subst (λ (ws : List Pdu). node.duties n near far (ws ++ outbox node p start) (inbox node (peer_of tree.links q) start ++ outbox node q start)) (sym (no_inbox q has_q))
      (subst (λ (ws : List Pdu). node.duties n near far ([] ++ ws) (inbox node (peer_of tree.links q) start ++ outbox node q start)) (sym (no_outbox p has))
      (subst (λ (ws : List Pdu). node.duties n near far ([] ++ []) (ws ++ outbox node q start)) (sym (no_inbox (peer_of tree.links q) (law.peer_port q has_q)))
      (subst (λ (ws : List Pdu). node.duties n near far ([] ++ []) ([] ++ ws)) (sym (no_outbox q has_q)) none)))

  pub begins : IsKeptNet node start
  begins = record { tree = new.sound; many = new.many; nodes = fits.nodes; clock = omega arith; duties = met }
