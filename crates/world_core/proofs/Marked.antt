-- What the code does to the marks after an event is what the event does to them; and what the marks count is on its way.
use Rattle.std.proofs.Common.{◌≡◌, ℕ, zero, suc, ◌+◌, ◌<◌, ◌≤◌, Bool, true, false, ◌&&◌, if◌then◌else◌, List, [], ◌∷◌, ◌++◌, length, length-append, refl, sym, ap, subst, ◌∙◌, arith}
use Rattle.std.specs.Prelude.{slice_get, Option, Some, None, IfSome, option_map, ◌^◌}
use Rattle.std.specs.Option.{option_map_or}
use Rattle.srp_base.proofs.Lists.{within}
use Rattle.srp_base.specs.declared.{numbers.EgressPort.EgressPort, mrp.App.App, mrp.App.TheVariants.Mvrp, mrp.App.TheVariants.Msrp}
use Rattle.tree_topology.specs.{Topology.Topology, Topology.HasPort, Ports.peer_of, PortLaws.HasPortLaws}
use Rattle.mrp_participant.specs.State.{State}
use Rattle.msrp.specs.PortState.{PortState}
use Rattle.attribute_propagation.specs.Ports.{place_of}
use Rattle.node_core.specs.declared.{types.Wire.Wire, types.PortStep.PortStep}
use Rattle.node_core.specs.declared.types.NodeEvent.TheVariants as node_events
use Rattle.node_core.specs.{Leaving.has_leave_all, Leaving.is_leave_all_at, Proper.IsProperNode, State.NodeState, State.ports_of}
use Rattle.world_core.specs.declared.events.WorldEvent.TheVariants as events
use Rattle.world_core.specs.{WorldReply, IsKeptWorld, is_done, MarksState, is_same_app, mark_at, count_of, with_both, both_took, WorldState, Happened, node_at, has_leave_all_next, inbox, outbox, app_of, step_of_node, after_port, marks_taking, marks_stepping, marks_losing, marks_copying, marks_forging, with_loss, after_repeat, with_forgery, with_marks, reaches, world_step}
use Rattle.world_core.proofs.{Counts.app_same, Counts.count_append, Keeping.base_kept, Nodes.node_there, Nodes.part_there, Nodes.part_is, StreamSteps.stream_view, Views.AppView, Views.AreMet, VlanSteps.vlan_view}

abbrev world : Topology → List NodeState → MarksState → WorldState
world tree nodes m = record { tree = tree; nodes = nodes; marks = m }

-- ---- the marks follow

pub stepped_with : (at : EgressPort) (step : PortStep) (tree : Topology) (m m' : MarksState) (nodes new : List NodeState) (reply : WorldReply)
    → step_of_node at.node (node_events.Port at.port step) (world tree nodes m) ≡ (world tree new m, reply)
    → m' ≡ marks_stepping at step reply (world tree nodes m)
    → world_step (events.Port at.node at.port step) (world tree nodes m) ≡ (world tree new m', reply)
stepped_with at step tree m m' nodes new reply e f =
    ap (λ (h : Happened). after_port at step h (world tree nodes m)) e ∙ ap (λ (x : MarksState). (world tree new x, reply)) (sym f)

pub lost_with : (at : EgressPort) (index : ℕ) (tree : Topology) (m m' : MarksState) (nodes new : List NodeState) (reply : WorldReply) (o : Option App)
    → o ≡ app_of at index (world tree nodes m)
    → with_loss at index (app_of at index (world tree nodes m)) (world tree nodes m) ≡ (world tree new m, reply)
    → m' ≡ marks_losing at o m → world_step (events.Lose at index) (world tree nodes m) ≡ (world tree new m', reply)
lost_with at index tree m m' nodes new reply o is e f =
    ap (λ (h : Happened). with_marks (marks_losing at (app_of at index (world tree nodes m)) m) h) e
    ∙ ap (λ (x : MarksState). (world tree new x, reply)) (ap (λ (a : Option App). marks_losing at a m) (sym is) ∙ sym f)

pub copied_with : (at : EgressPort) (index : ℕ) (tree : Topology) (m m' : MarksState) (nodes new : List NodeState) (reply : WorldReply) (o : Option App)
    → o ≡ app_of at index (world tree nodes m)
    → after_repeat at index (app_of at index (world tree nodes m)) (world tree nodes m) ≡ (world tree new m, reply)
    → m' ≡ marks_copying at o m → world_step (events.Repeat at index) (world tree nodes m) ≡ (world tree new m', reply)
copied_with at index tree m m' nodes new reply o is e f =
    ap (λ (h : Happened). with_marks (marks_copying at (app_of at index (world tree nodes m)) m) h) e
    ∙ ap (λ (x : MarksState). (world tree new x, reply)) (ap (λ (a : Option App). marks_copying at a m) (sym is) ∙ sym f)

forged_with_by : (at : EgressPort) (index : ℕ) (wire : Wire) (w u : WorldState) (reply : WorldReply) (b : Bool)
    → with_forgery at index wire b w ≡ (u, reply) → is_done reply ≡ b
forged_with_by at index wire w u reply true e = sym (ap (λ (h : Happened). is_done h.1) e)
forged_with_by at index wire w u reply false e = sym (ap (λ (h : Happened). is_done h.1) e)

pub forged_with : (at : EgressPort) (index : ℕ) (wire : Wire) (tree : Topology) (m m' : MarksState) (nodes new : List NodeState) (reply : WorldReply)
    → with_forgery at index wire (reaches at index (world tree nodes m)) (world tree nodes m) ≡ (world tree new m, reply)
    → m' ≡ marks_forging at wire.app (is_done reply) m → world_step (events.Forge at index wire) (world tree nodes m) ≡ (world tree new m', reply)
forged_with at index wire tree m m' nodes new reply e f =
    let done : is_done reply ≡ reaches at index (world tree nodes m) = forged_with_by at index wire (world tree nodes m) (world tree new m) reply (reaches at index (world tree nodes m)) e in
    ap (λ (h : Happened). with_marks (marks_forging at wire.app (reaches at index (world tree nodes m)) m) h) e
    ∙ ap (λ (x : MarksState). (world tree new x, reply)) (ap (λ (b : Bool). marks_forging at wire.app b m) (sym done) ∙ sym f)

-- ---- what the marks count

pub count_length : (app : App) (ws : List Wire) → count_of app ws ≤ length ws
count_length app [] = omega arith
count_length app (w ∷ ws) = by (is_same_app app w.app) (count_length app ws)
  where
    by : (b : Bool) → count_of app ws ≤ length ws → (if b then 1 else 0) + count_of app ws ≤ suc (length ws)
    by true h = omega (arith, h)
    by false h = omega (arith, h)

module _ {K C : Type 0} (v : AppView K C) (there : (at : ℕ) (s : NodeState) → IsProperNode s → at < ports_of s → (x : State K C) × (v.part at s ≡ Some x))
    (w : WorldState) (kept : IsKeptWorld w) (laws : HasPortLaws w.tree) (met : AreMet v w) (e : EgressPort) (has : HasPort w.tree e) where
  counted_here : (mark_at v.app e w.marks).flying ≡ count_of v.app (inbox (peer_of w.tree.links e) w ++ outbox e w)
  counted_here =
      let base = base_kept w kept in
      let q = peer_of w.tree.links e in
      let hq = laws.peer_port e has in
      let ne = node_there w base e has in
      let nq = node_there w base q hq in
      let xe = part_there v there w base e has ne.0 ne.1 in
      let xq = part_there v there w base q hq nq.0 nq.1 in
      (met e has xe.0 xq.0 (part_is v e w ne.0 ne.1 ∙ xe.1) (part_is v q w nq.0 nq.1 ∙ xq.1)).near_flying

vlans_there : (at : ℕ) (s : NodeState) → IsProperNode s → at < ports_of s → (x : _) × (vlan_view.part at s ≡ Some x)
vlans_there at s proper below = within s.vlans.parts at below

streams_there : (at : ℕ) (s : NodeState) → IsProperNode s → at < ports_of s → (x : _) × (stream_view.part at s ≡ Some x)
streams_there at s proper below =
    let ports = proper.kept.same_ports in
    let port = within s.streams.ports at (omega (arith, below, ports)) in
    (port.0.part, ap (option_map (λ (p : PortState). p.part)) port.1)

-- the PDUs from a port, and those to it
pub counted_from : (w : WorldState) → IsKeptWorld w → HasPortLaws w.tree → (app : App) (e : EgressPort) → HasPort w.tree e
    → (mark_at app e w.marks).flying ≡ count_of app (inbox (peer_of w.tree.links e) w ++ outbox e w)
counted_from w kept laws Mvrp e has = counted_here vlan_view vlans_there w kept laws kept.duties e has
counted_from w kept laws Msrp e has = counted_here stream_view streams_there w kept laws kept.streams e has

pub counted_to : (w : WorldState) → IsKeptWorld w → HasPortLaws w.tree → (app : App) (e : EgressPort) → HasPort w.tree e
    → (mark_at app (peer_of w.tree.links e) w.marks).flying ≡ count_of app (inbox e w ++ outbox (peer_of w.tree.links e) w)
counted_to w kept laws app e has =
    let q = peer_of w.tree.links e in
    counted_from w kept laws app q (laws.peer_port e has)
    ∙ ap (λ (r : EgressPort). count_of app (inbox r w ++ outbox q w)) (laws.peer_twice e has)

-- one that waits is counted
pub one_counted : (w : WorldState) → IsKeptWorld w → HasPortLaws w.tree → (app : App) (e : EgressPort) → HasPort w.tree e → (index : ℕ)
    → app_of e index w ≡ Some app → 1 ≤ (mark_at app (peer_of w.tree.links e) w.marks).flying
one_counted w kept laws app e has index is =
    let all = counted_to w kept laws app e has in
    let parts = count_append app (inbox e w) (outbox (peer_of w.tree.links e) w) in
    let some : 1 ≤ count_of app (inbox e w) = at_least (inbox e w) index is in
    omega (arith, all, parts, some)
  where
    at_least : (ws : List Wire) (i : ℕ) → option_map (λ (x : Wire). x.app) (slice_get ws i) ≡ Some app → 1 ≤ count_of app ws
    at_least [] i e = cc
    at_least (x ∷ ws) zero e = by (is_same_app app x.app) (let own : x.app ≡ app = cc in ap (is_same_app app) own ∙ app_same app)
      where
        by : (b : Bool) → b ≡ true → 1 ≤ (if b then 1 else 0) + count_of app ws
        by true h = omega arith
        by false h = cc
    at_least (x ∷ ws) (suc i) e = let later = at_least ws i e in omega (arith, later)

-- few are on their way where few wait at both ends
pub few_counted : (w : WorldState) → IsKeptWorld w → HasPortLaws w.tree → (app : App) (e : EgressPort) → HasPort w.tree e
    → length (inbox (peer_of w.tree.links e) w) < 2 ^ 64 → length (outbox e w) < 2 ^ 64 → (mark_at app e w.marks).flying < 2 ^ 100
few_counted w kept laws app e has ins outs =
    let all = counted_from w kept laws app e has in
    let less = count_length app (inbox (peer_of w.tree.links e) w ++ outbox e w) in
    let parts = length-append (inbox (peer_of w.tree.links e) w) (outbox e w) in
    omega (arith, all, less, parts, ins, outs)

-- ---- in the words of the code

-- the port is one of the marks' tree
pub port_of_marks : (w : WorldState) → IsKeptWorld w → (e : EgressPort) → HasPort w.tree e → HasPort w.marks.tree e
port_of_marks w kept e has = subst (λ (t : Topology). HasPort t e) (sym kept.marks_of) has

-- the PDU of an index, if there is one, is counted
pub if_counted : (w : WorldState) → IsKeptWorld w → HasPortLaws w.tree → (e : EgressPort) → HasPort w.tree e → (index : ℕ) (o : Option App)
    → o ≡ app_of e index w → IfSome o (λ app. 1 ≤ (mark_at app (peer_of w.marks.tree.links e) w.marks).flying)
if_counted w kept laws e has index None is = tt
if_counted w kept laws e has index (Some app) is =
    subst (λ (t : Topology). 1 ≤ (mark_at app (peer_of t.links e) w.marks).flying) (sym kept.marks_of) (one_counted w kept laws app e has index (sym is))

-- few are on their way from the peer of a port
pub few_from_peer : (w : WorldState) → IsKeptWorld w → (e : EgressPort) → ((app : App) → (mark_at app (peer_of w.tree.links e) w.marks).flying < 2 ^ 100)
    → (app : App) → (mark_at app (peer_of w.marks.tree.links e) w.marks).flying < 2 ^ 100
few_from_peer w kept e few app = subst (λ (t : Topology). (mark_at app (peer_of t.links e) w.marks).flying < 2 ^ 100) (sym kept.marks_of) (few app)

-- ---- the PDU that is taken next

none_first : (e : EgressPort) (m : MarksState) (o : Option Wire) → option_map (λ (x : Wire). x.app) o ≡ None → m ≡ marks_taking e o m
none_first e m None is = refl
none_first e m (Some wire) is = cc

pub takes_nothing : (e : EgressPort) (w : WorldState) → None ≡ app_of e 0 w → w.marks ≡ marks_taking e (slice_get (inbox e w) 0) w.marks
takes_nothing e w is = none_first e w.marks (slice_get (inbox e w) 0) (sym is)

-- the next PDU of an application, by the port's node
next_in : App → EgressPort → Option NodeState → Bool
next_in app p o = option_map_or (λ s. is_leave_all_at app (place_of p.port) s) o false

pub next_is : (app : App) (p : EgressPort) (w : WorldState) (s : NodeState) → node_at p.node w ≡ Some s → is_leave_all_at app (place_of p.port) s ≡ has_leave_all_next app p w
unfolding next_in
next_is app p w s is = sym (ap (next_in app p) is)

counted_first : (e : EgressPort) (m : MarksState) (app : App) (l : Bool) (o : Option Wire) → option_map (λ (x : Wire). x.app) o ≡ Some app
    → l ≡ ((mark_at app e m).clear && option_map_or has_leave_all o false) → with_both app e (both_took l) m ≡ marks_taking e o m
counted_first e m app l None is leaves = cc
counted_first e m app l (Some wire) is leaves =
    let own : app ≡ wire.app = cc in
    ap (λ (b : Bool). with_both app e (both_took b) m) leaves
    ∙ ap (λ (a : App). with_both a e (both_took ((mark_at a e m).clear && has_leave_all wire)) m) own

pub takes_counted : (e : EgressPort) (w : WorldState) (app : App) (l : Bool) → Some app ≡ app_of e 0 w
    → l ≡ ((mark_at app e w.marks).clear && option_map_or has_leave_all (slice_get (inbox e w) 0) false)
    → with_both app e (both_took l) w.marks ≡ marks_taking e (slice_get (inbox e w) 0) w.marks
takes_counted e w app l is leaves = counted_first e w.marks app l (slice_get (inbox e w) 0) (sym is) leaves

-- the PDU that is taken is on its way
pub can_take : (w : WorldState) → IsKeptWorld w → HasPortLaws w.tree → (e : EgressPort) → HasPort w.tree e → (app : App) → Some app ≡ app_of e 0 w
    → 1 ≤ (mark_at app (peer_of w.marks.tree.links e) w.marks).flying
can_take w kept laws e has app is = subst (λ (t : Topology). 1 ≤ (mark_at app (peer_of t.links e) w.marks).flying) (sym kept.marks_of) (one_counted w kept laws app e has 0 (sym is))
