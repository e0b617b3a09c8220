-- Only a Send puts a PDU in an outbox, and the carrying of all ports empties each.
use Rattle.std.proofs.Common.{◌≡◌, ◌⊎◌, inl, inr, ℕ, zero, suc, ◌+◌, ◌-◌, ◌<◌, Bool, true, false, List, [], ◌∷◌, ◌++◌, length, map, refl, sym, ap, subst, ◌∙◌, arith}
use Rattle.std.specs.Prelude.{slice_get, slice_set, slice_index_or, Option, Some, None, option_map, ◌==◌, if◌then◌else◌, IfSome}
use Rattle.std.specs.{Option.option_map_or, List.AllByRecursion, List.flat_map, List.list_any}
use Rattle.std.proofs.lemmas.Bool.{or_parts as neither}
use Rattle.srp_base.proofs.Lists.{get_set, each_append}
use Rattle.srp_base.specs.declared.{numbers.NodeNo.NodeNo, numbers.EgressPort.EgressPort, ports.PortSetup.PortSetup, mrp.App.App, mrp.App.TheVariants.Mvrp, mrp.App.TheVariants.Msrp}
use Rattle.tree_topology.specs.declared.graph.Link.{Link}
use Rattle.tree_topology.specs.{Graph.Joined, Topology.Topology, Topology.HasPort, Topology.IsSound, Topology.link_ports, Ports.port_to, Ports.peer_of, PortLaws.HasPortLaws}
use Rattle.topology_file.specs.declared.{entries.NodeEntry.NodeEntry, entries.StreamEntry.StreamEntry, entries.EventEntry.EventEntry, entries.EventKind.EventKind}
use Rattle.topology_file.specs.declared.entries.EventKind.TheVariants as kinds
use Rattle.topology_file.specs.Plan.{Plan}
use Rattle.attribute_propagation.specs.Ports.{place_of}
use Rattle.node_core.specs.declared.{types.NodeStep.NodeStep, types.NodeKey.TheVariants.Vlan, types.NodeKey.TheVariants.Srp, types.PortStep.PortStep, types.Wire.Wire}
use Rattle.node_core.specs.declared.types.NodeEvent.TheVariants as node_events
use Rattle.node_core.specs.declared.types.PortStep.TheVariants.{Work, LeaveNow, LeaveAllNow, PeriodicNow, Due, Settle, Send}
use Rattle.node_core.specs.{State.NodeState, State.box_at, Step.node_step, Step.port_step, Step.after_work, Step.worked_app, Links.with_outbox, Links.with_carried, Links.lost_at, Links.repeated_at, Links.forged_at, Links.spoilt_at}
use Rattle.world_core.specs.{WorldEvent, Request, Port, Lose, Repeat, Forge, Carry, Clock, NodeSteps, Tick, WorldState, node_at, with_node, with_changed, outbox, app_of, reaches, with_unsound_ends, with_loss, after_repeat, with_forgery, after_carrying, world_step, world_after, world_of, nodes_from, event_of, stream_at, with_event, scripted_from, script_at, step_events, closing_events, tick_events, after_script, after_steps, is_send, IsDuring, NothingWaits, has_send}
use Rattle.world_core.proofs.{Nodes.stepped_is, StepBoxes.asked_boxes, StepBoxes.spoilt_boxes, Reservations.read_map, Happenings.carried_none, Runs.after_append, Runs.trees_stay, Boxes.box_none}

-- ---- at a node

-- to empty a box leaves each empty box empty, and its own is empty then
box_stays : (boxes : List (List Wire)) (i k : ℕ) → box_at k boxes ≡ [] → box_at k (slice_set boxes i []) ≡ []
box_stays [] i k none = none
box_stays (b ∷ boxes) zero zero none = refl
box_stays (b ∷ boxes) zero (suc k) none = none
box_stays (b ∷ boxes) (suc i) zero none = none
box_stays (b ∷ boxes) (suc i) (suc k) none = box_stays boxes i k none

-- all boxes are empty where a node is new
pub box_new : (ports : List PortSetup) (k : ℕ) → box_at k (map (λ _. []) ports) ≡ []
box_new [] k = refl
box_new (p ∷ ports) zero = refl
box_new (p ∷ ports) (suc k) = box_new ports k

-- a step other than Send leaves the outboxes
worked_out : (app : App) (at k : ℕ) (octets : List ℕ) (s : NodeState) → box_at k (worked_app app at octets s).0.outboxes ≡ box_at k s.outboxes
worked_out Mvrp at k octets s = refl
worked_out Msrp at k octets s = refl

taken_out : (at k : ℕ) (wires : List Wire) (s : NodeState) → box_at k (after_work at wires s).0.outboxes ≡ box_at k s.outboxes
taken_out at k [] s = refl
taken_out at k (wire ∷ wires) s = worked_out wire.app at k wire.octets (record s { inboxes = slice_set s.inboxes at wires })

step_out : (step : PortStep) (at k : ℕ) (s : NodeState) → is_send step ≡ false → box_at k (port_step step at s).0.outboxes ≡ box_at k s.outboxes
step_out Work at k s isnt = taken_out at k (box_at at s.inboxes) s
step_out (LeaveNow (Vlan vid)) at k s isnt = refl
step_out (LeaveNow (Srp key)) at k s isnt = refl
step_out (LeaveAllNow Mvrp) at k s isnt = refl
step_out (LeaveAllNow Msrp) at k s isnt = refl
step_out (PeriodicNow Mvrp) at k s isnt = refl
step_out (PeriodicNow Msrp) at k s isnt = refl
step_out Due at k s isnt = refl
step_out Settle at k s isnt = refl
step_out (Send app) at k s isnt = cc

-- ---- an outbox that is empty stays so

set_stays : (k : ℕ) (nodes : List NodeState) (i j : ℕ) (s t : NodeState) → slice_get nodes i ≡ Some s → (box_at k s.outboxes ≡ [] → box_at k t.outboxes ≡ [])
    → option_map_or (λ (r : NodeState). box_at k r.outboxes) (slice_get nodes j) [] ≡ [] → option_map_or (λ (r : NodeState). box_at k r.outboxes) (slice_get (slice_set nodes i t) j) [] ≡ []
set_stays k [] i j s t is keeps none = none
set_stays k (u ∷ nodes) zero zero s t is keeps none =
    let same : u ≡ s = cc in
    keeps (subst (λ (r : NodeState). box_at k r.outboxes ≡ []) same none)
set_stays k (u ∷ nodes) zero (suc j) s t is keeps none = none
set_stays k (u ∷ nodes) (suc i) zero s t is keeps none = none
set_stays k (u ∷ nodes) (suc i) (suc j) s t is keeps none = set_stays k nodes i j s t is keeps none

changed_stays : (n : NodeNo) (change : NodeState → NodeState) (p : EgressPort)
    → ((s : NodeState) → box_at (place_of p.port) s.outboxes ≡ [] → box_at (place_of p.port) (change s).outboxes ≡ []) → (w : WorldState)
    → outbox p w ≡ [] → outbox p (with_changed n change w) ≡ []
changed_stays n change p keeps w none = by (node_at n w) refl
  where
    by : (o : Option NodeState) → node_at n w ≡ o → outbox p (option_map_or (λ s. with_node n (change s) w) o w) ≡ []
    by None is = none
    by (Some s) is = set_stays (place_of p.port) w.nodes (n.0 - 1) (p.node.0 - 1) s (change s) is (keeps s) none

-- an event that is no Send
abbrev SendsNothing : WorldEvent → Type 0
SendsNothing (Request n request) = Unit {0}
SendsNothing (Port n port step) = is_send step ≡ false
SendsNothing (Lose p index) = Unit {0}
SendsNothing (Repeat p index) = Unit {0}
SendsNothing (Forge p index wire) = Unit {0}
SendsNothing (Carry p) = Unit {0}
SendsNothing Clock = Unit {0}

carry_stays : (q p : EgressPort) (w : WorldState) → outbox p w ≡ [] → outbox p (after_carrying q w) ≡ []
carry_stays q p w none =
    let r = peer_of w.tree.links q in
    let taken = with_changed q.node (with_outbox (place_of q.port) []) w in
    changed_stays r.node (with_carried (place_of r.port) (outbox q w)) p (λ s h. h) taken
    (changed_stays q.node (with_outbox (place_of q.port) []) p (λ s h. box_stays s.outboxes (place_of q.port) (place_of p.port) h) w none)

-- spoiling both ends of a link
spoilt_stays : (app : App) (q p : EgressPort) (w : WorldState) → outbox p w ≡ [] → outbox p (with_unsound_ends app q w) ≡ []
spoilt_stays app q p w none =
    let r = peer_of w.tree.links q in
    let own = with_changed q.node (spoilt_at app (place_of q.port)) w in
    changed_stays r.node (spoilt_at app (place_of r.port)) p (λ s h. (spoilt_boxes app (place_of r.port) (place_of p.port) s).outbox ∙ h) own
    (changed_stays q.node (spoilt_at app (place_of q.port)) p (λ s h. (spoilt_boxes app (place_of q.port) (place_of p.port) s).outbox ∙ h) w none)

loss_stays : (q : EgressPort) (index : ℕ) (o : Option App) (p : EgressPort) (w : WorldState) → outbox p w ≡ [] → outbox p (with_loss q index o w).0 ≡ []
loss_stays q index None p w none = none
loss_stays q index (Some app) p w none =
    spoilt_stays app q p (with_changed q.node (lost_at (place_of q.port) index) w) (changed_stays q.node (lost_at (place_of q.port) index) p (λ s h. h) w none)

forgery_stays : (q : EgressPort) (index : ℕ) (wire : Wire) (b : Bool) (p : EgressPort) (w : WorldState) → outbox p w ≡ [] → outbox p (with_forgery q index wire b w).0 ≡ []
forgery_stays q index wire false p w none = none
forgery_stays q index wire true p w none =
    spoilt_stays wire.app q p (with_changed q.node (forged_at (place_of q.port) index wire) w) (changed_stays q.node (forged_at (place_of q.port) index wire) p (λ s h. h) w none)

repeat_stays : (q : EgressPort) (index : ℕ) (o : Option App) (p : EgressPort) (w : WorldState) → outbox p w ≡ [] → outbox p (after_repeat q index o w).0 ≡ []
repeat_stays q index None p w none = none
repeat_stays q index (Some app) p w none = changed_stays q.node (repeated_at (place_of q.port) index) p (λ s h. h) w none

event_stays : (e : WorldEvent) (p : EgressPort) (w : WorldState) → SendsNothing e → outbox p w ≡ [] → outbox p (world_step e w).0 ≡ []
event_stays (Request n request) p w isnt none =
    let event = node_events.Request request in
    subst (λ (v : WorldState). outbox p v ≡ []) (stepped_is n event w)
    (changed_stays n (λ s. (node_step event s).0) p (λ s h. (asked_boxes request (place_of p.port) s).outbox ∙ h) w none)
event_stays (Port n port step) p w isnt none =
    let event = node_events.Port port step in
    subst (λ (v : WorldState). outbox p v ≡ []) (stepped_is n event w)
    (changed_stays n (λ s. (node_step event s).0) p (λ s h. step_out step (place_of port) (place_of p.port) s isnt ∙ h) w none)
event_stays (Lose q index) p w isnt none = loss_stays q index (app_of q index w) p w none
event_stays (Repeat q index) p w isnt none = repeat_stays q index (app_of q index w) p w none
event_stays (Forge q index wire) p w isnt none = forgery_stays q index wire (reaches q index w) p w none
event_stays (Carry q) p w isnt none = carry_stays q p w none
event_stays Clock p w isnt none =
    let k = place_of p.port in
    read_map (λ (s : NodeState). box_at k s.outboxes) [] (λ s. (node_step node_events.Clock s).0) (λ s. refl) w.nodes (p.node.0 - 1) ∙ none

events_stay : (es : List WorldEvent) (p : EgressPort) (w : WorldState) → AllByRecursion SendsNothing es → outbox p w ≡ [] → outbox p (world_after es w) ≡ []
events_stay [] p w isnt none = none
events_stay (e ∷ es) p w isnt none = events_stay es p (world_step e w).0 isnt.1 (event_stays e p w isnt.0 none)

carries_stay : (ports : List EgressPort) (p : EgressPort) (w : WorldState) → outbox p w ≡ [] → outbox p (world_after (map Carry ports) w) ≡ []
carries_stay [] p w none = none
carries_stay (q ∷ ports) p w none = carries_stay ports p (after_carrying q w) (carry_stays q p w none)

-- ---- what a tick has before the carrying

-- the events of a file send nothing
asked_sends_none : (o : Option StreamEntry) (asked : StreamEntry → WorldEvent) → ((e : StreamEntry) → SendsNothing (asked e)) → IfSome (option_map asked o) SendsNothing
asked_sends_none None asked h = tt
asked_sends_none (Some e) asked h = h e

kind_sends_none : (links : List Link) (streams : List StreamEntry) (kind : EventKind) → IfSome (event_of links streams kind) SendsNothing
kind_sends_none links streams (kinds.Declare station vid) = tt
kind_sends_none links streams (kinds.Withdraw station vid) = tt
kind_sends_none links streams (kinds.Talk stream) = asked_sends_none (stream_at streams stream) _ (λ e. tt)
kind_sends_none links streams (kinds.Hush stream) = asked_sends_none (stream_at streams stream) _ (λ e. tt)
kind_sends_none links streams (kinds.Listen station stream) = asked_sends_none (stream_at streams stream) _ (λ e. tt)
kind_sends_none links streams (kinds.Unlisten station stream) = asked_sends_none (stream_at streams stream) _ (λ e. tt)
kind_sends_none links streams (kinds.Lose from to index) = tt
kind_sends_none links streams (kinds.Repeat from to index) = tt
kind_sends_none links streams (kinds.Forge from to index app octets) = tt

with_sends_none : (n : ℕ) (o : Option WorldEvent) (later : List (ℕ × WorldEvent)) → IfSome o SendsNothing
    → AllByRecursion SendsNothing (map (λ (e : ℕ × WorldEvent). e.1) later) → AllByRecursion SendsNothing (map (λ (e : ℕ × WorldEvent). e.1) (with_event n o later))
with_sends_none n None later here rest = rest
with_sends_none n (Some event) later here rest = (here, rest)

script_sends_none : (links : List Link) (streams : List StreamEntry) (t n : ℕ) (entries : List EventEntry)
    → AllByRecursion SendsNothing (map (λ (e : ℕ × WorldEvent). e.1) (scripted_from links streams t n entries))
script_sends_none links streams t n [] = tt
script_sends_none links streams t n (e ∷ entries) = by (e.tick == t) (script_sends_none links streams t (n + 1) entries)
  where
    later : List (ℕ × WorldEvent)
    later = scripted_from links streams t (n + 1) entries

    by : (b : Bool) → AllByRecursion SendsNothing (map (λ (e : ℕ × WorldEvent). e.1) (scripted_from links streams t (n + 1) entries))
        → AllByRecursion SendsNothing (map (λ (e : ℕ × WorldEvent). e.1)
        (if b then with_event n (event_of links streams e.kind) (scripted_from links streams t (n + 1) entries) else scripted_from links streams t (n + 1) entries))
    by true rest = with_sends_none n (event_of links streams e.kind) (scripted_from links streams t (n + 1) entries) (kind_sends_none links streams e.kind) rest
    by false rest = rest

made_send_none : (n : NodeNo) (made : List NodeStep) → list_any (λ (st : NodeStep). is_send st.step) made ≡ false → AllByRecursion SendsNothing (map (λ (st : NodeStep). Port n st.port st.step) made)
made_send_none n [] isnt = tt
made_send_none n (st ∷ made) isnt =
    let both = neither (is_send st.step) (list_any (λ (st : NodeStep). is_send st.step) made) isnt in
    (both.0, made_send_none n made both.1)

steps_send_none : (steps : List NodeSteps) → has_send steps ≡ false → AllByRecursion SendsNothing (step_events steps)
steps_send_none [] isnt = tt
steps_send_none (ns ∷ steps) isnt =
    let both = neither (list_any (λ (st : NodeStep). is_send st.step) ns.steps) (has_send steps) isnt in
    each_append SendsNothing (map (λ (st : NodeStep). Port ns.node st.port st.step) ns.steps) (step_events steps) (made_send_none ns.node ns.steps both.0) (steps_send_none steps both.1)

-- ---- the carrying of all ports

-- it empties the outbox of each
own_emptied : (p : EgressPort) (w : WorldState) → outbox p (after_carrying p w) ≡ []
own_emptied p w =
    let r = peer_of w.tree.links p in
    changed_stays r.node (with_carried (place_of r.port) (outbox p w)) p (λ s h. h) (with_changed p.node (with_outbox (place_of p.port) []) w) (by (node_at p.node w) refl)
  where
    by : (o : Option NodeState) → node_at p.node w ≡ o → outbox p (option_map_or (λ s. with_node p.node (with_outbox (place_of p.port) [] s) w) o w) ≡ []
    by None is = ap (λ (o : Option NodeState). option_map_or (λ s. box_at (place_of p.port) s.outboxes) o []) is
    by (Some s) is =
        let k = place_of p.port in
        ap (λ (o : Option NodeState). option_map_or (λ r. box_at k r.outboxes) o []) (get_set w.nodes (p.node.0 - 1) s (with_outbox k [] s) is) ∙ box_none s.outboxes k

abbrev no_link : Link
no_link = record { a = record { 0 = 0 }; b = record { 0 = 0 } }

ends_emptied : (links ls : List Link) (i : ℕ) (p : EgressPort) (w : WorldState) → i < length ls
    → (p ≡ port_to links (slice_index_or ls i no_link).a.0 (slice_index_or ls i no_link).b.0) ⊎ (p ≡ port_to links (slice_index_or ls i no_link).b.0 (slice_index_or ls i no_link).a.0)
    → outbox p (world_after (map Carry (flat_map (λ l. port_to links l.a.0 l.b.0 ∷ port_to links l.b.0 l.a.0 ∷ []) ls)) w) ≡ []
ends_emptied links [] i p w lt is = absurd (omega (arith, lt))
ends_emptied links (l ∷ ls) zero p w lt (inl is) =
    let a = port_to links l.a.0 l.b.0 in
    let b = port_to links l.b.0 l.a.0 in
    carries_stay (flat_map (λ l. port_to links l.a.0 l.b.0 ∷ port_to links l.b.0 l.a.0 ∷ []) ls) p (after_carrying b (after_carrying a w))
    (carry_stays b p (after_carrying a w) (subst (λ (q : EgressPort). outbox p (after_carrying q w) ≡ []) is (own_emptied p w)))
ends_emptied links (l ∷ ls) zero p w lt (inr is) =
    let a = port_to links l.a.0 l.b.0 in
    let b = port_to links l.b.0 l.a.0 in
    carries_stay (flat_map (λ l. port_to links l.a.0 l.b.0 ∷ port_to links l.b.0 l.a.0 ∷ []) ls) p (after_carrying b (after_carrying a w))
    (subst (λ (q : EgressPort). outbox p (after_carrying q (after_carrying a w)) ≡ []) is (own_emptied p (after_carrying a w)))
ends_emptied links (l ∷ ls) (suc i) p w lt is =
    ends_emptied links ls i p (after_carrying (port_to links l.b.0 l.a.0) (after_carrying (port_to links l.a.0 l.b.0) w)) (omega (arith, lt)) is

-- and does nothing where each is empty
carries_none : (ports : List EgressPort) (w : WorldState) → AllByRecursion (λ p. outbox p w ≡ []) ports → world_after (map Carry ports) w ≡ w
carries_none [] w none = refl
carries_none (p ∷ ports) w none = ap (λ (v : WorldState). world_after (map Carry ports) v) (carried_none p w none.0) ∙ carries_none ports w none.1

each_end : (tree : Topology) → HasPortLaws tree → (P : EgressPort → Type 0) → ((p : EgressPort) → HasPort tree p → P p) → (ls : List Link) → ((x y : ℕ) → Joined ls x y → Joined tree.links x y)
    → AllByRecursion P (flat_map (λ (l : Link). port_to tree.links l.a.0 l.b.0 ∷ port_to tree.links l.b.0 l.a.0 ∷ []) ls)
each_end tree laws P each [] inside = tt
each_end tree laws P each (l ∷ ls) inside = (
  each (port_to tree.links l.a.0 l.b.0) (laws.joined_port l.a.0 l.b.0 (inside l.a.0 l.b.0 (inl (inl (refl, refl))))),
  (each (port_to tree.links l.b.0 l.a.0) (laws.joined_port l.b.0 l.a.0 (inside l.b.0 l.a.0 (inl (inr (refl, refl))))), each_end tree laws P each ls (λ x y j. inside x y (inr j))),
)

-- ---- a tick

entries_wait_none : (plan : Plan) (x : ℕ) (entries : List NodeEntry) (i k : ℕ) → option_map_or (λ (s : NodeState). box_at k s.outboxes) (slice_get (nodes_from plan x entries) i) [] ≡ []
entries_wait_none plan x [] i k = refl
entries_wait_none plan x (n ∷ entries) zero k = box_new _ k
entries_wait_none plan x (n ∷ entries) (suc i) k = entries_wait_none plan (x + 1) entries i k

-- nothing waits at the start
pub start_waits_none : (plan : Plan) → NothingWaits (world_of plan)
start_waits_none plan p has = entries_wait_none plan 1 plan.nodes (p.node.0 - 1) (place_of p.port)

module _ (ports : (tree : Topology) → IsSound tree → HasPortLaws tree) (plan : Plan) (t : ℕ) (w : WorldState) (tick : Tick) (during : IsDuring plan.tree t w) where
  sound : HasPortLaws plan.tree
  sound = ports plan.tree (subst IsSound during.tree_is during.kept.tree)

  -- where no step was Send, the carrying at the end of the tick does nothing
  pub none_carried : NothingWaits w → has_send tick.steps ≡ false → world_after (map Carry (link_ports plan.tree)) (after_steps plan t tick w) ≡ after_steps plan t tick w
  none_carried waits isnt =
      carries_none (link_ports plan.tree) (after_steps plan t tick w)
      (each_end plan.tree sound (λ p. outbox p (after_steps plan t tick w) ≡ [])
      (λ p has.
      events_stay (step_events tick.steps) p (after_script plan t w) (steps_send_none tick.steps isnt)
      (events_stay (map (λ (e : ℕ × WorldEvent). e.1) (script_at plan t)) p w (script_sends_none plan.tree.links plan.streams t 1 plan.events)
      (waits p (subst (λ (tree : Topology). HasPort tree p) (sym during.tree_is) has))))
      plan.tree.links (λ x y j. j))

  -- after a tick nothing waits
  pub all_carried : NothingWaits (world_after (tick_events plan t tick) w)
  all_carried p has =
      let u = after_steps plan t tick w in
      let before : List WorldEvent = map (λ (e : ℕ × WorldEvent). e.1) (script_at plan t) ++ step_events tick.steps in
      let carries : List WorldEvent = map Carry (link_ports plan.tree) in
      let here : HasPort plan.tree p = subst (λ (tree : Topology). HasPort tree p) (trees_stay (tick_events plan t tick) w ∙ during.tree_is) has in
      let end = sound.port_end p here in
      let first = end.1.0 in
      let last = end.1.1 in
      let emptied : outbox p (world_after carries u) ≡ [] = ends_emptied plan.tree.links plan.tree.links (end.0 - 1) p u (omega (arith, first, last)) end.2 in
      subst (λ (v : WorldState). outbox p v ≡ [])
      (ap (λ (v : WorldState). world_after (closing_events plan.tree) v) (after_append (map (λ (e : ℕ × WorldEvent). e.1) (script_at plan t)) (step_events tick.steps) w)
      ∙ after_append before (closing_events plan.tree) w)
      (subst (λ (v : WorldState). outbox p v ≡ []) (after_append carries (Clock ∷ []) u) (event_stays Clock p (world_after carries u) tt emptied))
