-- A node of a network becomes another: which nodes there are then, and what every network keeps of them.
use Rattle.std.proofs.Common.{◌≡◌, ◌≢◌, ◌⊎◌, inl, inr, ℕ, zero, suc, ◌+◌, ◌-◌, ◌<◌, List, [], ◌∷◌, length, map, refl, sym, ap, ◌∙◌, arith}
use Rattle.std.specs.Prelude.{slice_get, slice_set, Option, Some, None, option_map}
use Rattle.std.specs.Option.{option_map_or, option_and_then}
use Rattle.std.proofs.Math.ListN.{length-set}
use Rattle.srp_base.proofs.{Arithmetic.decide, Lists.get_set, Lists.get_set_other, Lists.within}
use Rattle.srp_base.specs.declared.{numbers.NodeNo.NodeNo, numbers.EgressPort.EgressPort}
use Rattle.tree_topology.specs.{Topology.HasPort, Topology.IsSound, Ports.neighbours}
use Rattle.mrp_participant.specs.State.{State}
use Rattle.attribute_propagation.specs.Ports.{place_of}
use Rattle.attribute_propagation.proofs.Lists.{set_each}
use Rattle.node_core.specs.declared.{types.Wire.Wire, types.NodeEvent.NodeEvent}
use Rattle.node_core.specs.{State.NodeState, State.box_at, State.ports_of, Proper.IsProperNode, Step.node_step}
use Rattle.node_core.specs.declared.types.NodeEvent.TheVariants as node_events
use Rattle.world_core.specs.declared.events.WorldReply.TheVariants.{Missed}
use Rattle.world_core.specs.{WorldState, node_at, with_changed, after_step, step_of_node, inbox, outbox, part_at, FitsTree}
use Rattle.world_core.proofs.Views.{AppView}

module _ (n : NodeNo) (change : NodeState → NodeState) (w : WorldState) where
  -- the node itself, and the others
  pub node_same : node_at n (with_changed n change w) ≡ option_map change (node_at n w)
  node_same = by (node_at n w) refl
    where
      by : (o : Option NodeState) → node_at n w ≡ o → node_at n (option_map_or (λ s. record w { nodes = slice_set w.nodes (n.0 - 1) (change s) }) o w) ≡ option_map change o
      by None is = is
      by (Some s) is = get_set w.nodes (n.0 - 1) s (change s) is

  pub node_other : (m : NodeNo) → n.0 - 1 ≢ m.0 - 1 → node_at m (with_changed n change w) ≡ node_at m w
  node_other m ne = by (node_at n w)
    where
      by : (o : Option NodeState) → node_at m (option_map_or (λ s. record w { nodes = slice_set w.nodes (n.0 - 1) (change s) }) o w) ≡ node_at m w
      by None = refl
      by (Some s) = get_set_other w.nodes (n.0 - 1) (m.0 - 1) (change s) ne

  pub same_tree : (with_changed n change w).tree ≡ w.tree
  same_tree = by (node_at n w)
    where
      by : (o : Option NodeState) → (option_map_or (λ s. record w { nodes = slice_set w.nodes (n.0 - 1) (change s) }) o w).tree ≡ w.tree
      by None = refl
      by (Some s) = refl

  pub same_marks : (with_changed n change w).marks ≡ w.marks
  same_marks = by (node_at n w)
    where
      by : (o : Option NodeState) → (option_map_or (λ s. record w { nodes = slice_set w.nodes (n.0 - 1) (change s) }) o w).marks ≡ w.marks
      by None = refl
      by (Some s) = refl

-- a node's step is its change in the network
pub stepped_is : (n : NodeNo) (event : NodeEvent) (w : WorldState) → with_changed n (λ s. (node_step event s).0) w ≡ (step_of_node n event w).0
stepped_is n event w = by (node_at n w)
  where
    by : (o : Option NodeState) → option_map_or (λ s. record w { nodes = slice_set w.nodes (n.0 - 1) (node_step event s).0 }) o w
        ≡ (option_map_or (λ s. after_step n (node_step event s) w) o (w, Missed)).0
    by None = refl
    by (Some s) = refl

pub ticked_get : (xs : List NodeState) (x : ℕ) (t : NodeState) → slice_get (map (λ s. (node_step node_events.Clock s).0) xs) x ≡ Some t
    → (s : NodeState) × (slice_get xs x ≡ Some s) × ((node_step node_events.Clock s).0 ≡ t)
ticked_get [] x t get = cc
ticked_get (s ∷ xs) zero t get = (s, refl, cc)
ticked_get (s ∷ xs) (suc x) t get = ticked_get xs x t get

pub ticked_length : (xs : List NodeState) → length (map (λ s. (node_step node_events.Clock s).0) xs) ≡ length xs
ticked_length [] = refl
ticked_length (s ∷ xs) = ap suc (ticked_length xs)

pub ticked_at : (xs : List NodeState) (x : ℕ) → slice_get (map (λ s. (node_step node_events.Clock s).0) xs) x ≡ option_map (λ s. (node_step node_events.Clock s).0) (slice_get xs x)
ticked_at [] x = refl
ticked_at (s ∷ xs) zero = refl
ticked_at (s ∷ xs) (suc x) = ticked_at xs x

-- ---- what every network keeps but for the duties

pub record Base (w : WorldState) : Type 0 where
  pub tree : IsSound w.tree
  pub many : length w.nodes ≡ length w.tree.kinds
  pub nodes : (x : ℕ) (s : NodeState) → slice_get w.nodes x ≡ Some s → FitsTree w.tree x s
  pub clock : (x y : ℕ) (s t : NodeState) → slice_get w.nodes x ≡ Some s → slice_get w.nodes y ≡ Some t → s.clock ≡ t.clock

-- the node stays one of its place in the tree
pub record IsOfSamePlace (s t : NodeState) : Type 0 where
  pub kind : t.kind ≡ s.kind
  pub ports : ports_of t ≡ ports_of s
  pub clock : t.clock ≡ s.clock
  pub proper : IsProperNode t

pub base_changed : (n : NodeNo) (change : NodeState → NodeState) (w : WorldState) → Base w
    → ((s : NodeState) → node_at n w ≡ Some s → IsOfSamePlace s (change s)) → Base (with_changed n change w)
base_changed n change w base stays = by (node_at n w) refl
  where
    by : (o : Option NodeState) → node_at n w ≡ o → Base (option_map_or (λ s. record w { nodes = slice_set w.nodes (n.0 - 1) (change s) }) o w)
    by None is = base
    by (Some s) is =
        let fits = base.nodes (n.0 - 1) s is in
        let st = stays s is in
        let one_clock : (x : ℕ) (t : NodeState) → slice_get (slice_set w.nodes (n.0 - 1) (change s)) x ≡ Some t → t.clock ≡ s.clock
        = set_each (λ x t. t.clock ≡ s.clock) w.nodes (n.0 - 1) (change s) st.clock (λ x t get. base.clock x (n.0 - 1) t s get is) in
        record {
          tree = base.tree;
          many = length-set w.nodes (n.0 - 1) (change s) ∙ base.many;
          nodes = set_each (FitsTree w.tree) w.nodes (n.0 - 1) (change s)
              (record { kind = fits.kind ∙ ap Some (sym st.kind); ports = st.ports ∙ fits.ports; kept = st.proper }) base.nodes;
          clock = λ x y s t gs gt. one_clock x s gs ∙ sym (one_clock y t gt);
        }

-- each port of the tree is a port of a node that there is
pub node_there : (w : WorldState) → Base w → (p : EgressPort) → HasPort w.tree p → (s : NodeState) × (node_at p.node w ≡ Some s)
node_there w base p has =
    let some = has.0.0 in
    let few = has.0.1 in
    within w.nodes (p.node.0 - 1) (omega (arith, some, few, base.many))

-- the place of a port is one of its node's
pub place_within : (w : WorldState) → Base w → (p : EgressPort) → HasPort w.tree p → (s : NodeState) → node_at p.node w ≡ Some s → place_of p.port < ports_of s
place_within w base p has s is =
    let fits = (base.nodes (p.node.0 - 1) s is).ports in
    let some = has.0.0 in
    let first = has.1 in
    let last = has.2 in
    let number : p.node.0 - 1 + 1 ≡ p.node.0 = omega (arith, some) in
    let count = ap (λ (x : ℕ). length (neighbours w.tree.links x)) number in
    omega (arith, fits, first, last, count)

-- a node that is in the network is one that every node is
pub proper_at : (w : WorldState) → Base w → (n : NodeNo) (s : NodeState) → node_at n w ≡ Some s → IsProperNode s
proper_at w base n s is = (base.nodes (n.0 - 1) s is).kept

-- there is a box at each place
pub inbox_there : (s : NodeState) → IsProperNode s → (at : ℕ) → at < ports_of s → (ws : List Wire) × (slice_get s.inboxes at ≡ Some ws)
inbox_there s proper at below = let boxes = proper.kept.inboxes in within s.inboxes at (omega (arith, below, boxes))

pub outbox_there : (s : NodeState) → IsProperNode s → (at : ℕ) → at < ports_of s → (ws : List Wire) × (slice_get s.outboxes at ≡ Some ws)
outbox_there s proper at below = let boxes = proper.kept.outboxes in within s.outboxes at (omega (arith, below, boxes))

-- ---- what stands at a place of a node, and at a port

-- the boxes there
pub record SameBoxes (k : ℕ) (s t : NodeState) : Type 0 where
  pub inbox : box_at k t.inboxes ≡ box_at k s.inboxes
  pub outbox : box_at k t.outboxes ≡ box_at k s.outboxes

-- what is at a port, by the node
inbox_in : EgressPort → Option NodeState → List Wire
inbox_in p o = option_map_or (λ s. box_at (place_of p.port) s.inboxes) o []

outbox_in : EgressPort → Option NodeState → List Wire
outbox_in p o = option_map_or (λ s. box_at (place_of p.port) s.outboxes) o []

-- what is at a port, by the state of its node
pub inbox_is : (p : EgressPort) (w : WorldState) (s : NodeState) → node_at p.node w ≡ Some s → inbox p w ≡ box_at (place_of p.port) s.inboxes
unfolding inbox_in
inbox_is p w s is = ap (inbox_in p) is

pub outbox_is : (p : EgressPort) (w : WorldState) (s : NodeState) → node_at p.node w ≡ Some s → outbox p w ≡ box_at (place_of p.port) s.outboxes
unfolding outbox_in
outbox_is p w s is = ap (outbox_in p) is

-- and the participant of an application
module _ {K C : Type 0} (v : AppView K C) where
  pub record SameAt (k : ℕ) (s t : NodeState) : Type 0 where
    pub part : v.part k t ≡ v.part k s
    pub boxes : SameBoxes k s t

  pub record SameAtPort (p : EgressPort) (w u : WorldState) : Type 0 where
    pub part : part_at v.part p u ≡ part_at v.part p w
    pub inbox : inbox p u ≡ inbox p w
    pub outbox : outbox p u ≡ outbox p w

  pub same_then : (p : EgressPort) (u m w : WorldState) → SameAtPort p u m → SameAtPort p m w → SameAtPort p u w
  same_then p u m w a b = record { part = b.part ∙ a.part; inbox = b.inbox ∙ a.inbox; outbox = b.outbox ∙ a.outbox }

  part_in : EgressPort → Option NodeState → Option (State K C)
  part_in p o = option_and_then (λ s. v.part (place_of p.port) s) o

  pub part_is : (p : EgressPort) (w : WorldState) (s : NodeState) → node_at p.node w ≡ Some s → part_at v.part p w ≡ v.part (place_of p.port) s
  unfolding part_in
  part_is p w s is = ap (part_in p) is

  pub by_node : (p : EgressPort) (w u : WorldState) → node_at p.node u ≡ node_at p.node w → SameAtPort p w u
  unfolding part_in inbox_in outbox_in
  by_node p w u e = record { part = ap (part_in p) e; inbox = ap (inbox_in p) e; outbox = ap (outbox_in p) e }

  pub by_states : (p : EgressPort) (w u : WorldState) (s t : NodeState) → node_at p.node w ≡ Some s → node_at p.node u ≡ Some t → SameAt (place_of p.port) s t → SameAtPort p w u
  by_states p w u s t is become same =
      record {
        part = part_is p u t become ∙ (same.part ∙ sym (part_is p w s is));
        inbox = inbox_is p u t become ∙ (same.boxes.inbox ∙ sym (inbox_is p w s is));
        outbox = outbox_is p u t become ∙ (same.boxes.outbox ∙ sym (outbox_is p w s is));
      }

  -- a node becomes another that has the same at the place of a port, where it is the port's
  pub same_port : (n : NodeNo) (change : NodeState → NodeState) (w : WorldState) (p : EgressPort)
      → ((s : NodeState) → node_at n w ≡ Some s → n.0 - 1 ≡ p.node.0 - 1 → SameAt (place_of p.port) s (change s)) → SameAtPort p w (with_changed n change w)
  same_port n change w p same = by (decide (n.0 - 1) (p.node.0 - 1))
    where
      by : (n.0 - 1 ≡ p.node.0 - 1) ⊎ (n.0 - 1 ≢ p.node.0 - 1) → SameAtPort p w (with_changed n change w)
      by (inr ne) = by_node p w (with_changed n change w) (node_other n change w p.node ne)
      by (inl e) = at (node_at n w) refl
        where
          new : node_at p.node (with_changed n change w) ≡ option_map change (node_at n w)
          new = ap (λ k. slice_get (with_changed n change w).nodes k) (sym e) ∙ node_same n change w

          old : node_at p.node w ≡ node_at n w
          old = ap (λ k. slice_get w.nodes k) (sym e)

          at : (o : Option NodeState) → node_at n w ≡ o → SameAtPort p w (with_changed n change w)
          at None is = by_node p w (with_changed n change w) (new ∙ (ap (option_map change) is ∙ (sym is ∙ sym old)))
          at (Some s) is = by_states p w (with_changed n change w) s (change s) (old ∙ is) (new ∙ ap (option_map change) is) (same s is e)

  -- each port has a participant
  pub part_there : ((at : ℕ) (s : NodeState) → IsProperNode s → at < ports_of s → (x : State K C) × (v.part at s ≡ Some x))
      → (w : WorldState) → Base w → (p : EgressPort) → HasPort w.tree p → (s : NodeState) → node_at p.node w ≡ Some s
      → (x : State K C) × (v.part (place_of p.port) s ≡ Some x)
  part_there there w base p has s is = there (place_of p.port) s (proper_at w base p.node s is) (place_within w base p has s is)
