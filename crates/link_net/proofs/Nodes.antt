-- A node of a network becomes another: which nodes there are then, and what is at the ports.
use Rattle.std.proofs.Common.{◌≡◌, ◌≢◌, ◌⊎◌, inl, inr, ℕ, zero, suc, ◌+◌, ◌-◌, ◌<◌, List, [], ◌∷◌, length, map, refl, sym, ap, ◌∙◌, arith}
use Rattle.std.specs.Prelude.{slice_get, slice_set, Option, Some, None, option_map}
use Rattle.std.specs.Option.{option_map_or, option_and_then}
use Rattle.std.proofs.Math.ListN.{length-set}
use Rattle.srp_base.proofs.{Arithmetic.decide, Lists.get_set, Lists.get_set_other, Lists.within}
use Rattle.srp_base.specs.declared.{numbers.NodeNo.NodeNo, numbers.EgressPort.EgressPort}
use Rattle.tree_topology.specs.{Topology.HasPort, Ports.neighbours}
use Rattle.attribute_propagation.specs.Ports.{place_of}
use Rattle.attribute_propagation.proofs.Lists.{set_each}
use Rattle.link_net.specs.{NodeMeaning, IsSameAt, NetState, node_at, nodes_with, with_changed, part_at, inbox, outbox, FitsTree}

-- ---- the nodes

-- where each has become another
pub get_mapped : {X Y : Type 0} (f : X → Y) (xs : List X) (i : ℕ) → slice_get (map f xs) i ≡ option_map f (slice_get xs i)
get_mapped f [] i = refl
get_mapped f (x ∷ xs) zero = refl
get_mapped f (x ∷ xs) (suc i) = get_mapped f xs i

module _ {State : Type 0} (n : NodeNo) (change : State → State) (w : NetState State) where
  -- the node itself, and the others
  pub node_same : node_at n (with_changed n change w) ≡ option_map change (node_at n w)
  node_same = by (node_at n w) refl
    where
      by : (o : Option State) → node_at n w ≡ o → slice_get (option_map_or (λ s. slice_set w.nodes (n.0 - 1) (change s)) o w.nodes) (n.0 - 1) ≡ option_map change o
      by None is = is
      by (Some s) is = get_set w.nodes (n.0 - 1) s (change s) is

  pub place_other : (k : ℕ) → n.0 - 1 ≢ k → slice_get (nodes_with n change w.nodes) k ≡ slice_get w.nodes k
  place_other k ne = by (node_at n w)
    where
      by : (o : Option State) → slice_get (option_map_or (λ s. slice_set w.nodes (n.0 - 1) (change s)) o w.nodes) k ≡ slice_get w.nodes k
      by None = refl
      by (Some s) = get_set_other w.nodes (n.0 - 1) k (change s) ne

  pub node_other : (m : NodeNo) → n.0 - 1 ≢ m.0 - 1 → node_at m (with_changed n change w) ≡ node_at m w
  node_other m ne = place_other (m.0 - 1) ne

  -- what holds of each node at its place holds after the change, if it holds of the changed one
  pub each_changed : (P : ℕ → State → Type 0) → ((s : State) → node_at n w ≡ Some s → P (n.0 - 1) s → P (n.0 - 1) (change s))
      → ((x : ℕ) (s : State) → slice_get w.nodes x ≡ Some s → P x s)
      → (x : ℕ) (s : State) → slice_get (nodes_with n change w.nodes) x ≡ Some s → P x s
  each_changed P keeps all = by (node_at n w) refl
    where
      by : (o : Option State) → node_at n w ≡ o → (x : ℕ) (s : State) → slice_get (option_map_or (λ s. slice_set w.nodes (n.0 - 1) (change s)) o w.nodes) x ≡ Some s → P x s
      by None is = all
      by (Some s) is = set_each P w.nodes (n.0 - 1) (change s) (keeps s is (all (n.0 - 1) s is)) all

  pub many_changed : length (nodes_with n change w.nodes) ≡ length w.nodes
  many_changed = by (node_at n w)
    where
      by : (o : Option State) → length (option_map_or (λ s. slice_set w.nodes (n.0 - 1) (change s)) o w.nodes) ≡ length w.nodes
      by None = refl
      by (Some s) = length-set w.nodes (n.0 - 1) (change s)

-- ---- what is at a port

module _ {Name Step Reply Request Pdu : Type 0} (node : NodeMeaning Name Step Reply Request Pdu) where
  -- two networks have the same there
  pub record IsSameAtPort (p : EgressPort) (w u : NetState node.State) : Type 0 where
    pub part : (n : Name) → part_at node n p u ≡ part_at node n p w
    pub inbox : inbox node p u ≡ inbox node p w
    pub outbox : outbox node p u ≡ outbox node p w

  inbox_in : EgressPort → Option node.State → List Pdu
  inbox_in p o = option_map_or (node.inbox (place_of p.port)) o []

  outbox_in : EgressPort → Option node.State → List Pdu
  outbox_in p o = option_map_or (node.outbox (place_of p.port)) o []

  part_in : (n : Name) → EgressPort → Option node.State → Option (node.Part n)
  part_in n p o = option_and_then (node.part_at n (place_of p.port)) o

  -- it is what the state of the port's node has at the port's place
  pub inbox_is : (p : EgressPort) (w : NetState node.State) (s : node.State) → node_at p.node w ≡ Some s → inbox node p w ≡ node.inbox (place_of p.port) s
  unfolding inbox_in
  inbox_is p w s is = ap (inbox_in p) is

  pub outbox_is : (p : EgressPort) (w : NetState node.State) (s : node.State) → node_at p.node w ≡ Some s → outbox node p w ≡ node.outbox (place_of p.port) s
  unfolding outbox_in
  outbox_is p w s is = ap (outbox_in p) is

  pub part_is : (n : Name) (p : EgressPort) (w : NetState node.State) (s : node.State) → node_at p.node w ≡ Some s → part_at node n p w ≡ node.part_at n (place_of p.port) s
  unfolding part_in
  part_is n p w s is = ap (part_in n p) is

  pub same_then : (p : EgressPort) (u m w : NetState node.State) → IsSameAtPort p u m → IsSameAtPort p m w → IsSameAtPort p u w
  same_then p u m w a b = record { part = λ n. b.part n ∙ a.part n; inbox = b.inbox ∙ a.inbox; outbox = b.outbox ∙ a.outbox }

  -- where the node is the same
  pub by_node : (p : EgressPort) (w u : NetState node.State) → node_at p.node u ≡ node_at p.node w → IsSameAtPort p w u
  unfolding part_in inbox_in outbox_in
  by_node p w u e = record { part = λ n. ap (part_in n p) e; inbox = ap (inbox_in p) e; outbox = ap (outbox_in p) e }

  -- where its states have the same at the place
  pub by_states : (p : EgressPort) (w u : NetState node.State) (s t : node.State) → node_at p.node w ≡ Some s → node_at p.node u ≡ Some t
      → IsSameAt node (place_of p.port) s t → IsSameAtPort p w u
  by_states p w u s t is become same =
      record {
        part = λ n. part_is n p u t become ∙ (same.part n ∙ sym (part_is n p w s is));
        inbox = inbox_is p u t become ∙ (same.inbox ∙ sym (inbox_is p w s is));
        outbox = outbox_is p u t become ∙ (same.outbox ∙ sym (outbox_is p w s is));
      }

  -- a node becomes another that has the same at the place of a port, where it is the port's
  pub same_port : (n : NodeNo) (change : node.State → node.State) (w : NetState node.State) (p : EgressPort)
      → ((s : node.State) → node_at n w ≡ Some s → n.0 - 1 ≡ p.node.0 - 1 → IsSameAt node (place_of p.port) s (change s)) → IsSameAtPort p w (with_changed n change w)
  same_port n change w p same = by (decide (n.0 - 1) (p.node.0 - 1))
    where
      by : (n.0 - 1 ≡ p.node.0 - 1) ⊎ (n.0 - 1 ≢ p.node.0 - 1) → IsSameAtPort p w (with_changed n change w)
      by (inr ne) = by_node p w (with_changed n change w) (node_other n change w p.node ne)
      by (inl e) = at (node_at n w) refl
        where
          new : node_at p.node (with_changed n change w) ≡ option_map change (node_at n w)
          new = ap (λ k. slice_get (with_changed n change w).nodes k) (sym e) ∙ node_same n change w

          old : node_at p.node w ≡ node_at n w
          old = ap (λ k. slice_get w.nodes k) (sym e)

          at : (o : Option node.State) → node_at n w ≡ o → IsSameAtPort p w (with_changed n change w)
          at None is = by_node p w (with_changed n change w) (new ∙ (ap (option_map change) is ∙ (sym is ∙ sym old)))
          at (Some s) is = by_states p w (with_changed n change w) s (change s) (old ∙ is) (new ∙ ap (option_map change) is) (same s is e)

  -- ---- the ports of the tree

  -- a network over a tree has the nodes of the tree, each at its place
  pub record Fits (w : NetState node.State) : Type 0 where
    pub many : length w.nodes ≡ length w.tree.kinds
    pub nodes : (x : ℕ) (s : node.State) → slice_get w.nodes x ≡ Some s → FitsTree node w.tree w.clock x s

  -- the node of a port of the tree
  pub record NodeOf (p : EgressPort) (w : NetState node.State) : Type 0 where
    pub state : node.State
    pub is : node_at p.node w ≡ Some state
    pub fits : FitsTree node w.tree w.clock (p.node.0 - 1) state
    pub below : place_of p.port < node.ports_of state

  pub node_of : (w : NetState node.State) → Fits w → (p : EgressPort) → HasPort w.tree p → NodeOf p w
  node_of w fits p has =
      let some = has.0.0 in
      let few = has.0.1 in
      let there = within w.nodes (p.node.0 - 1) (omega (arith, some, few, fits.many)) in
      let here = fits.nodes (p.node.0 - 1) there.0 there.1 in
      let count = here.ports in
      let first = has.1 in
      let last = has.2 in
      let number : p.node.0 - 1 + 1 ≡ p.node.0 = omega (arith, some) in
      let links = ap (λ (x : ℕ). length (neighbours w.tree.links x)) number in
      record { state = there.0; is = there.1; fits = here; below = omega (arith, count, first, last, links) }
