-- Each event of a network keeps its tree, its nodes as those of the tree, and one clock.
use Rattle.std.proofs.Common.{◌≡◌, ◌+◌, ◌-◌, ℕ, zero, suc, Bool, true, false, List, [], ◌∷◌, length, refl, sym, ap, subst, ◌∙◌, arith}
use Rattle.std.specs.Prelude.{slice_get, Option, Some, None}
use Rattle.std.specs.List.{AllByRecursion}
use Rattle.std.proofs.Math.ListN.{length-set}
use Rattle.srp_base.proofs.Options.{one_some}
use Rattle.srp_base.specs.declared.{numbers.Cs.Cs, numbers.NodeNo.NodeNo, numbers.PortNo.PortNo, numbers.EgressPort.EgressPort, mrp.App.App, mrp.App.TheVariants.Mvrp, mrp.App.TheVariants.Msrp}
use Rattle.tree_topology.specs.{Topology.HasPort, Ports.peer_of}
use Rattle.mrpdu_codec.specs.Octets.{AreOctets}
use Rattle.mvrp.specs.Part.{Part}
use Rattle.attribute_propagation.specs.Ports.{IsLinkPort, place_of}
use Rattle.flat_side.specs.Side.{with_part, with_part_at}
use Rattle.node_core.specs.declared.{types.Wire.Wire, types.AppRequest.AppRequest, types.NodeEvent.NodeEvent, types.PortStep.PortStep}
use Rattle.node_core.specs.declared.types.NodeEvent.TheVariants as node_events
use Rattle.node_core.specs.{Wires.IsShort, Wires.AreShort, State.NodeState, State.box_at, State.ports_of, Step.CanStep, Step.node_step, Links.with_outbox, Links.with_carried, Links.lost_at, Links.repeated_at, Links.forged_at, Links.spoilt_at, Proper.IsProperNode, Proper.IsProperWire, Proper.IsInRange, Proper.AreProperWires}
use Rattle.world_core.specs.{WorldEvent, Request, Port, Lose, Repeat, Forge, Carry, Clock, MarksState, WorldState, node_at, with_changed, outbox, app_of, reaches, with_unsound_ends, with_loss, after_repeat, with_forgery, world_step, CanHappen, IsEventInRange, step_of_node, FitsTree}
use Rattle.world_core.proofs.Nodes.{Base, IsOfSamePlace, base_changed, stepped_is, ticked_get, ticked_length, node_there, place_within, proper_at, outbox_is}

-- the laws of a node, as its public laws say them
pub record NodeLaws : Type 0 where
  pub step : (event : NodeEvent) (s : NodeState) → CanStep event s → IsInRange event → IsProperNode s → IsProperNode (node_step event s).0
  pub kind : (event : NodeEvent) (s : NodeState) → (node_step event s).0.kind ≡ s.kind
  pub ports : (event : NodeEvent) (s : NodeState) → ports_of (node_step event s).0 ≡ ports_of s
  pub clock : (port : PortNo) (step : PortStep) (s : NodeState) → (node_step (node_events.Port port step) s).0.clock ≡ s.clock
  pub asked : (request : AppRequest) (s : NodeState) → (node_step (node_events.Request request) s).0.clock ≡ s.clock
  pub taken : (at : ℕ) (s : NodeState) → IsProperNode s → IsProperNode (with_outbox at [] s)
  pub carried : (at : ℕ) (wires : List Wire) (s : NodeState) → AreShort wires → AreProperWires wires → IsProperNode s → IsProperNode (with_carried at wires s)
  pub lost : (at index : ℕ) (s : NodeState) → IsProperNode s → IsProperNode (lost_at at index s)
  pub repeated : (at index : ℕ) (s : NodeState) → IsProperNode s → IsProperNode (repeated_at at index s)
  pub says : (wire : Wire) → AreOctets wire.octets → IsProperWire wire
  pub forged : (at index : ℕ) (wire : Wire) (s : NodeState) → IsShort wire → IsProperWire wire → IsProperNode s → IsProperNode (forged_at at index wire s)
  pub spoilt : (app : App) (at : ℕ) (s : NodeState) → IsProperNode s → IsProperNode (spoilt_at app at s)

-- what holds of the PDUs of each box holds of those of one
box_has : (P : List Wire → Type 0) → P [] → (boxes : List (List Wire)) (i : ℕ) → AllByRecursion P boxes → P (box_at i boxes)
box_has P none [] i hs = none
box_has P none (b ∷ boxes) zero hs = hs.0
box_has P none (b ∷ boxes) (suc i) hs = box_has P none boxes i hs.1

-- the marks are nothing to it
any_marks : (w : WorldState) (m : MarksState) → Base w → Base (record w { marks = m })
any_marks w m base = record { tree = base.tree; many = base.many; nodes = base.nodes; clock = base.clock }

module _ (nodes : NodeLaws) where
  base_request : (n : NodeNo) (request : AppRequest) (w : WorldState) → CanHappen (Request n request) w → IsEventInRange (Request n request) → Base w → Base (world_step (Request n request) w).0
  base_request n request w can named base =
      let event : NodeEvent = node_events.Request request in
      subst Base (stepped_is n event w)
      (base_changed n (λ s. (node_step event s).0) w base (λ s is.
      let station = subst (λ (t : NodeState). t.kind ≡ _) (one_some (node_at n w) can.1.0 s can.1.1 is) can.1.2 in
      record {
        kind = nodes.kind event s;
        ports = nodes.ports event s;
        clock = nodes.asked request s;
        proper = nodes.step event s station named (proper_at w base n s is);
      }))

  base_port : (e : EgressPort) (step : PortStep) (w : WorldState) → HasPort w.tree e → Base w → Base (step_of_node e.node (node_events.Port e.port step) w).0
  base_port e step w has base =
      let event : NodeEvent = node_events.Port e.port step in
      subst Base (stepped_is e.node event w)
      (base_changed e.node (λ s. (node_step event s).0) w base (λ s is.
      let first = has.1 in
      let below = place_within w base e has s is in
      let can : IsLinkPort e.port (ports_of s) = record { some = first; within = omega (arith, first, below) } in
      record {
        kind = nodes.kind event s;
        ports = nodes.ports event s;
        clock = nodes.clock e.port step s;
        proper = nodes.step event s can tt (proper_at w base e.node s is);
      }))

  base_repeat : (e : EgressPort) (index : ℕ) (o : Option App) (w : WorldState) → Base w → Base (after_repeat e index o w).0
  base_repeat e index None w base = base
  base_repeat e index (Some app) w base =
      base_changed e.node (repeated_at (place_of e.port) index) w base
      (λ s is. record { kind = refl; ports = refl; clock = refl; proper = nodes.repeated (place_of e.port) index s (proper_at w base e.node s is) })

  spoilt_stays : (app : App) (at : ℕ) (s : NodeState) → IsProperNode s → IsOfSamePlace s (spoilt_at app at s)
  spoilt_stays Mvrp at s proper = record { kind = refl; ports = by (slice_get s.vlans.parts at); clock = refl; proper = nodes.spoilt Mvrp at s proper }
    where
      by : (o : Option Part) → length (with_part o (λ p. with_part_at at (record p { sound = false }) s.vlans) s.vlans).parts ≡ length s.vlans.parts
      by None = refl
      by (Some p) = length-set s.vlans.parts at (record p { sound = false })
  spoilt_stays Msrp at s proper = record { kind = refl; ports = refl; clock = refl; proper = nodes.spoilt Msrp at s proper }

  base_spoilt : (app : App) (n : NodeNo) (at : ℕ) (w : WorldState) → Base w → Base (with_changed n (spoilt_at app at) w)
  base_spoilt app n at w base = base_changed n (spoilt_at app at) w base (λ s is. spoilt_stays app at s (proper_at w base n s is))

  base_ends : (app : App) (e : EgressPort) (w : WorldState) → Base w → Base (with_unsound_ends app e w)
  base_ends app e w base =
      let q = peer_of w.tree.links e in
      base_spoilt app q.node (place_of q.port) (with_changed e.node (spoilt_at app (place_of e.port)) w) (base_spoilt app e.node (place_of e.port) w base)

  base_lose : (e : EgressPort) (index : ℕ) (o : Option App) (w : WorldState) → Base w → Base (with_loss e index o w).0
  base_lose e index None w base = base
  base_lose e index (Some app) w base =
      base_ends app e (with_changed e.node (lost_at (place_of e.port) index) w)
      (base_changed e.node (lost_at (place_of e.port) index) w base
      (λ s is. record { kind = refl; ports = refl; clock = refl; proper = nodes.lost (place_of e.port) index s (proper_at w base e.node s is) }))

  base_forge : (e : EgressPort) (index : ℕ) (wire : Wire) (b : Bool) (w : WorldState) → IsShort wire → AreOctets wire.octets → Base w → Base (with_forgery e index wire b w).0
  base_forge e index wire false w short octets base = base
  base_forge e index wire true w short octets base =
      base_ends wire.app e (with_changed e.node (forged_at (place_of e.port) index wire) w)
      (base_changed e.node (forged_at (place_of e.port) index wire) w base
      (λ s is. record { kind = refl; ports = refl; clock = refl; proper = nodes.forged (place_of e.port) index wire s short (nodes.says wire octets) (proper_at w base e.node s is) }))

  base_carry : (e : EgressPort) (w : WorldState) → HasPort w.tree e → Base w → Base (world_step (Carry e) w).0
  base_carry e w has base =
      let q = peer_of w.tree.links e in
      let there = node_there w base e has in
      let proper = proper_at w base e.node there.0 there.1 in
      let out = sym (outbox_is e w there.0 there.1) in
      let short : AreShort (outbox e w) = subst AreShort out (box_has AreShort tt there.0.outboxes (place_of e.port) proper.kept.short_out) in
      let fits : AreProperWires (outbox e w) = subst AreProperWires out (box_has AreProperWires tt there.0.outboxes (place_of e.port) proper.readable_out) in
      let emptied = with_changed e.node (with_outbox (place_of e.port) []) w in
      let fewer : Base emptied = base_changed e.node (with_outbox (place_of e.port) []) w base
      (λ s is. record { kind = refl; ports = refl; clock = refl; proper = nodes.taken (place_of e.port) s (proper_at w base e.node s is) }) in
      base_changed q.node (with_carried (place_of q.port) (outbox e w)) emptied fewer
      (λ s is. record { kind = refl; ports = refl; clock = refl; proper = nodes.carried (place_of q.port) (outbox e w) s short fits (proper_at emptied fewer q.node s is) })

  base_clock : (w : WorldState) → CanHappen Clock w → Base w → Base (world_step Clock w).0
  base_clock w can base =
      record {
        tree = base.tree;
        many = ticked_length w.nodes ∙ base.many;
        nodes = λ x t get. fits x t (ticked_get w.nodes x t get);
        clock = λ x y s t gs gt. alike x y s t (ticked_get w.nodes x s gs) (ticked_get w.nodes y t gt);
      }
    where
      fits : (x : ℕ) (t : NodeState) → (s : NodeState) × (slice_get w.nodes x ≡ Some s) × ((node_step node_events.Clock s).0 ≡ t) → FitsTree w.tree x t
      fits x t (s, is, become) =
          let old = base.nodes x s is in
          let number : x + 1 - 1 ≡ x = omega arith in
          let below = can (record { 0 = x + 1 }) s (ap (λ k. slice_get w.nodes k) number ∙ is) in
          subst (FitsTree w.tree x) become (record { kind = old.kind; ports = old.ports; kept = nodes.step node_events.Clock s below tt old.kept })

      alike : (x y : ℕ) (a b : NodeState) → (s : NodeState) × (slice_get w.nodes x ≡ Some s) × ((node_step node_events.Clock s).0 ≡ a)
          → (s : NodeState) × (slice_get w.nodes y ≡ Some s) × ((node_step node_events.Clock s).0 ≡ b) → a.clock ≡ b.clock
      alike x y a b (s, is, ea) (t, it, eb) =
          ap (λ (r : NodeState). r.clock) (sym ea)
          ∙ (ap (λ (c : Cs). let d : Cs = record { 0 = c.0 + 1 } in d) (base.clock x y s t is it)
          ∙ ap (λ (r : NodeState). r.clock) eb)

  pub base_event : (event : WorldEvent) (w : WorldState) → CanHappen event w → IsEventInRange event → Base w → Base (world_step event w).0
  base_event (Request n request) w can named base = base_request n request w can named base
  base_event (Port n port step) w can named base = any_marks _ _ (base_port (record { node = n; port = port }) step w can base)
  base_event (Lose p index) w can named base = any_marks _ _ (base_lose p index (app_of p index w) w base)
  base_event (Repeat p index) w can named base = any_marks _ _ (base_repeat p index (app_of p index w) w base)
  base_event (Forge p index wire) w can named base = any_marks _ _ (base_forge p index wire (reaches p index w) w can.1 named base)
  base_event (Carry p) w can named base = base_carry p w can base
  base_event Clock w can named base = base_clock w can base
