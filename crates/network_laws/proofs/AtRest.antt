-- What rest says of each node and link, of any application: no PDU waits or is in flight, every participant is at rest and
-- sound, no key awaits; so a port has registered what its peer declares.
use Rattle.std.proofs.Common.{◌≡◌, ℕ, zero, suc, ◌+◌, ◌-◌, ◌<◌, true, ◌&&◌, ◌||◌, List, [], ◌∷◌, ◌++◌, length, subst, ap, ◌∙◌, arith}
use Rattle.std.specs.Prelude.{slice_get, filter_map, Option, Some, ◌==◌}
use Rattle.std.specs.{declared.cmp.Ordering.Ordering, List.list_all, Option.option_map_or}
use Rattle.std.proofs.lemmas.Bool.{and_parts}
use Rattle.srp_base.proofs.Lists.{within as get-some, get-all}
use Rattle.srp_base.specs.declared.{numbers.NodeNo.NodeNo, numbers.EgressPort.EgressPort, mrp.App.App, mrp.App.TheVariants.Mvrp, mrp.App.TheVariants.Msrp}
use Rattle.tree_topology.specs.{Topology.HasPort, Ports.peer_of, PortLaws.HasPortLaws}
use Rattle.mrp_participant.specs.{MarkedLink.MarkedLink, MarkedLink.AreMarkedDutiesMet, MarkedLink.seen_link, State.State, State.Messages, State.is_still, State.registered_at, State.declared_at}
use Rattle.msrp_codec.specs.declared.pdu.MsrpKey.{MsrpKey}
use Rattle.mvrp.specs.Part.{Part}
use Rattle.attribute_propagation.specs.Ports.{place_of}
use Rattle.flat_side.specs.Side.{are_still}
use Rattle.msrp.specs.{PortState.PortState, Side.are_still as streams_are_still}
use Rattle.node_core.specs.declared.types.Wire.{Wire}
use Rattle.node_core.specs.State.{NodeState, box_at, are_empty, is_still_node, ports_of}
use Rattle.world_core.specs.{World.WorldState, World.node_at, World.inbox, World.outbox, World.is_sound_in, World.are_ports_sound, World.are_nodes_sound, Marks.MarksState, Marks.mark_at, Duty.in_flight, Duty.part_at, Duty.marked_link, Duty.AreDutiesMetIn, Kept.IsKeptWorld}
use Rattle.network_laws.specs.{IsAtRest}
use Rattle.network_laws.proofs.Places.{empty-box}

-- what a still link registers at its near end
abbrev pub StillLink : (K C : Type 0) → (K → K → Ordering) → Type 0
StillLink K C cmp = (l : MarkedLink K C) → AreMarkedDutiesMet cmp l → l.link.sent ≡ [] → l.link.coming ≡ []
    → is_still l.link.near ≡ true → is_still l.link.far ≡ true → (seen_link l).far.sound ≡ true
    → (k : K) → registered_at cmp k l.link.near ≡ declared_at cmp k l.link.far

-- what rest says of a node
pub record IsStillNode (s : NodeState) : Type 0 where
  pub inboxes : are_empty s.inboxes ≡ true
  pub outboxes : are_empty s.outboxes ≡ true
  pub vlans : list_all is_still s.vlans.parts ≡ true
  pub no_vids : list_all (λ (vids : List ℕ). length vids == 0) s.vlans.awaiting ≡ true
  pub streams : list_all (λ (p : PortState). is_still p.part) s.streams.ports ≡ true
  pub no_keys : list_all (λ (keys : List MsrpKey). length keys == 0) s.streams.awaiting ≡ true

-- ---- each port is sound, where all are

-- both applications at a port are
abbrev pub AreSoundAt : EgressPort → NodeState → MarksState → Type 0
AreSoundAt p s m = (is_sound_in Mvrp p s m ≡ true) × (is_sound_in Msrp p s m ≡ true)

ports-sound : (n : NodeNo) (s : NodeState) (m : MarksState) (from count : ℕ) → are_ports_sound n s m from count ≡ true → (k : ℕ) → k < count
    → AreSoundAt (record { node = n; port = record { 0 = from + k } }) s m
ports-sound n s m from zero all k below = absurd (omega (arith, below))
ports-sound n s m from (suc count) all zero below =
    let p : EgressPort = record { node = n; port = record { 0 = from } } in
    let parts = and_parts (is_sound_in Mvrp p s m && is_sound_in Msrp p s m) (are_ports_sound n s m (from + 1) count) all in
    subst (λ (i : ℕ). AreSoundAt (record { node = n; port = record { 0 = i } }) s m) (let same : from ≡ from + 0 = omega arith in same)
    (and_parts (is_sound_in Mvrp p s m) (is_sound_in Msrp p s m) parts.0)
ports-sound n s m from (suc count) all (suc k) below =
    let p : EgressPort = record { node = n; port = record { 0 = from } } in
    let parts = and_parts (is_sound_in Mvrp p s m && is_sound_in Msrp p s m) (are_ports_sound n s m (from + 1) count) all in
    subst (λ (i : ℕ). AreSoundAt (record { node = n; port = record { 0 = i } }) s m) (let same : (from + 1) + k ≡ from + suc k = omega arith in same)
    (ports-sound n s m (from + 1) count parts.1 k (omega (arith, below)))

nodes-sound : (x : ℕ) (nodes : List NodeState) (m : MarksState) → are_nodes_sound x nodes m ≡ true → (i : ℕ) (s : NodeState) → slice_get nodes i ≡ Some s
    → are_ports_sound (record { 0 = x + i }) s m 1 (ports_of s) ≡ true
nodes-sound x [] m all i s e = cc
nodes-sound x (t ∷ nodes) m all zero s e =
    let parts = and_parts (are_ports_sound (record { 0 = x }) t m 1 (ports_of t)) (are_nodes_sound (x + 1) nodes m) all in
    let same : t ≡ s = cc in
    subst (λ (u : NodeState). are_ports_sound (record { 0 = x + 0 }) u m 1 (ports_of u) ≡ true) same
    (subst (λ (i : ℕ). are_ports_sound (record { 0 = i }) t m 1 (ports_of t) ≡ true) (let number : x ≡ x + 0 = omega arith in number) parts.0)
nodes-sound x (t ∷ nodes) m all (suc i) s e =
    let parts = and_parts (are_ports_sound (record { 0 = x }) t m 1 (ports_of t)) (are_nodes_sound (x + 1) nodes m) all in
    subst (λ (i : ℕ). are_ports_sound (record { 0 = i }) s m 1 (ports_of s) ≡ true) (let number : (x + 1) + i ≡ x + suc i = omega arith in number)
    (nodes-sound (x + 1) nodes m parts.1 i s e)

module _ (w : WorldState) (rest : IsAtRest w) where
  -- each port that a node has is sound
  pub sound-at : (p : EgressPort) → HasPort w.tree p → (s : NodeState) → node_at p.node w ≡ Some s → place_of p.port < ports_of s → AreSoundAt p s w.marks
  sound-at p h s e below =
      let some = h.0.0 in
      let first = h.1 in
      let node : 1 + (p.node.0 - 1) ≡ p.node.0 = omega (arith, some) in
      let port : 1 + (p.port.0 - 1) ≡ p.port.0 = omega (arith, first) in
      subst (λ (k : ℕ). AreSoundAt (record { node = p.node; port = record { 0 = k } }) s w.marks) port
      (subst (λ (x : ℕ). AreSoundAt (record { node = record { 0 = x }; port = record { 0 = 1 + place_of p.port } }) s w.marks) node
      (ports-sound (record { 0 = 1 + (p.node.0 - 1) }) s w.marks 1 (ports_of s) (nodes-sound 1 w.nodes w.marks rest.in_step (p.node.0 - 1) s e) (place_of p.port) below))

  pub still-at : (x : ℕ) (s : NodeState) → slice_get w.nodes x ≡ Some s → IsStillNode s
  still-at x s e =
      let all = and_parts (are_empty s.inboxes && are_empty s.outboxes && are_still s.vlans) (streams_are_still s.streams) (get-all is_still_node w.nodes x s rest.quiet e) in
      let first = and_parts (are_empty s.inboxes && are_empty s.outboxes) (are_still s.vlans) all.0 in
      let boxes = and_parts (are_empty s.inboxes) (are_empty s.outboxes) first.0 in
      let vlans = and_parts (list_all is_still s.vlans.parts) (list_all (λ (vids : List ℕ). length vids == 0) s.vlans.awaiting) first.1 in
      let streams = and_parts (list_all (λ (p : PortState). is_still p.part) s.streams.ports) (list_all (λ (keys : List MsrpKey). length keys == 0) s.streams.awaiting) all.1 in
      record {
        inboxes = boxes.0;
        outboxes = boxes.1;
        vlans = vlans.0;
        no_vids = vlans.1;
        streams = streams.0;
        no_keys = streams.1;
      }

  module _ (kept : IsKeptWorld w) (laws : HasPortLaws w.tree) where
    -- the node of a port
    pub node-at : (p : EgressPort) → HasPort w.tree p → (s : NodeState) × (node_at p.node w ≡ Some s)
    node-at p h = let lt : p.node.0 - 1 < length w.nodes = omega (arith, h.0.0, h.0.1, kept.many) in get-some w.nodes (p.node.0 - 1) lt

    inbox-empty : (p : EgressPort) → HasPort w.tree p → inbox p w ≡ []
    inbox-empty p h =
        let n = node-at p h in
        ap (λ o. option_map_or (λ (s : NodeState). box_at (place_of p.port) s.inboxes) o []) n.1
        ∙ empty-box n.0.inboxes (place_of p.port) (still-at (p.node.0 - 1) n.0 n.1).inboxes

    outbox-empty : (p : EgressPort) → HasPort w.tree p → outbox p w ≡ []
    outbox-empty p h =
        let n = node-at p h in
        ap (λ o. option_map_or (λ (s : NodeState). box_at (place_of p.port) s.outboxes) o []) n.1
        ∙ empty-box n.0.outboxes (place_of p.port) (still-at (p.node.0 - 1) n.0 n.1).outboxes

    -- nothing is in flight
    pub none-in-flight : (p : EgressPort) → HasPort w.tree p → in_flight p w ≡ []
    none-in-flight p h =
        ap (λ (xs : List Wire). xs ++ outbox p w) (inbox-empty (peer_of w.tree.links p) (laws.peer_port p h)) ∙ outbox-empty p h

    -- in an application whose duties are met, a port has registered what its peer declares, where both are still and the
    -- peer is sound
    pub registers-declared : {K C : Type 0} (cmp : K → K → Ordering) (part : ℕ → NodeState → Option (State K C)) (said : Wire → Option (Messages K C)) (app : App)
        → AreDutiesMetIn cmp part said app w → StillLink K C cmp
        → (p : EgressPort) → HasPort w.tree p → (near far : State K C)
        → part_at part p w ≡ Some near → part_at part (peer_of w.tree.links p) w ≡ Some far
        → is_still near ≡ true → is_still far ≡ true → ((mark_at app (peer_of w.tree.links p) w.marks).assured || far.sound) ≡ true
        → (k : K) → registered_at cmp k near ≡ declared_at cmp k far
    registers-declared cmp part said app duties still p h near far a b near-still far-still far-sound k =
        still (marked_link said near far (in_flight p w) (in_flight (peer_of w.tree.links p) w) (mark_at app p w.marks, mark_at app (peer_of w.tree.links p) w.marks)) (duties p h near far a b).duties
        (ap (filter_map said) (none-in-flight p h)) (ap (filter_map said) (none-in-flight (peer_of w.tree.links p) (laws.peer_port p h)))
        near-still far-still far-sound k
