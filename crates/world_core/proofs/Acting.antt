-- What is in force at a port changes only where the port's node acts: where it makes a step other than Send.
use Rattle.std.proofs.Common.{◌≡◌, ◌≢◌, inl, inr, ℕ, ◌+◌, ◌-◌, ◌≤◌, Bool, true, false, List, [], ◌∷◌, map, Option, Some, None, refl, sym, ap, ◌∙◌, arith}
use Rattle.std.specs.Prelude.{filter, filter_map, slice_get, not, ◌==◌, ◌&&◌, if◌then◌else◌, option_map}
use Rattle.std.specs.{List.AllByRecursion, List.cons_option, List.list_any, Option.option_map_or, Ordering.nat_cmp}
use Rattle.std.proofs.lemmas.Bool.{cond-true, cond-false, cases_Bool, false≢true, eqb-false, not_from_false}
use Rattle.std.proofs.lemmas.Bool.{or_parts as or_both}
use Rattle.srp_base.specs.declared.{numbers.Cs.Cs, numbers.NodeNo.NodeNo, numbers.PortNo.PortNo, numbers.EgressPort.EgressPort, bandwidth.Class.TheVariants.A, bandwidth.Class.TheVariants.B, mrp.App.App, mrp.App.TheVariants.Mvrp, mrp.App.TheVariants.Msrp}
use Rattle.applicant.specs.declared.AppEvent.{AppEvent}
use Rattle.registrar.specs.Table.{is_registered_in}
use Rattle.registrar.proofs.RegistrarLemmas.{leave_all_sent-registered}
use Rattle.stream_importance.specs.declared.entry.Entry.{Entry}
use Rattle.port_ledger.specs.{Decision.booked_of, Book.Book, Book.booked_slope}
use Rattle.mrp_participant.specs.declared.row.Row.{Row}
use Rattle.mrp_participant.specs.{Lookup.key_of, Row.is_live, Row.applicant_takes, Sending.opportunity, Sending.before_opportunity, Sending.row_after, Sending.sent_row, State.is_active, State.after, State.takes, State.row_sent}
use Rattle.applicant.specs.Table.{is_observer}
use Rattle.mvrp.specs.{Part.Part, Part.base, Part.octets, Part.sent_part, Side.Vlans, Side.has_own, Side.requested_vlans, Side.sent_vlans, Side.spoilt_vlans}
use Rattle.attribute_propagation.specs.Ports.{place_of}
use Rattle.flat_side.specs.Side.{with_part_at, with_part}
use Rattle.msrp.specs.{PortState.PortState, Part.Part as SrpPart, Part.sent_part as srp_sent_part, Side.Streams, Side.requested_streams, Side.sent_streams, Side.spoilt_streams, Side.with_port, Side.with_part as with_srp_part, Side.with_port_at as streams_replaced}
use Rattle.msrp.specs.declared.asking.SrpRequest.{SrpRequest}
use Rattle.msrp.specs.declared.asking.SrpRequest.TheVariants as asks
use Rattle.tree_topology.specs.declared.graph.Link.{Link}
use Rattle.tree_topology.specs.Topology.{Topology, HasNode, HasPort}
use Rattle.topology_file.specs.declared.{entries.StreamEntry.StreamEntry, entries.EventEntry.EventEntry, entries.EventKind.EventKind}
use Rattle.topology_file.specs.declared.entries.EventKind.TheVariants as kinds
use Rattle.topology_file.specs.Plan.{Plan}
use Rattle.node_core.specs.declared.{types.Wire.Wire, types.AppRequest.AppRequest, types.NodeEvent.NodeEvent, types.NodeStep.NodeStep, types.PortStep.PortStep}
use Rattle.node_core.specs.declared.types.AppRequest.TheVariants.{Declare, Withdraw, Talk, Hush, Listen, Unlisten}
use Rattle.node_core.specs.declared.types.NodeEvent.TheVariants as node_events
use Rattle.node_core.specs.declared.types.PortStep.TheVariants.{Work, LeaveNow, LeaveAllNow, PeriodicNow, Due, Settle, Send}
use Rattle.node_core.specs.{Links.lost_at, Links.repeated_at, Links.forged_at, Links.spoilt_at, State.NodeState, State.of_part, State.of_port, Step.node_step, Step.octets_to_say, Step.sent_octets}
use Rattle.world_core.specs.{WorldEvent, Request, Port, Lose, Repeat, Forge, NodeSteps, Tick, WorldState, node_at, app_of, reaches, with_unsound_ends, with_loss, after_repeat, with_forgery, step_of_node, world_step, world_after, event_of, scripted_from, with_event, stream_at, talker_of_entry, step_events, after_script, after_steps, is_send, IsLegalTick, no_reservation, is_registered_row, registered_vids, node_force, force_at, HasPortsOf, is_act, acts_at, has_acted}
use Rattle.world_core.proofs.{Nodes.node_other, Nodes.stepped_is, Reservations.same_force, Reservations.read_set, Reservations.force_changed, Timelines.after_both, StreamSteps.asked_ports}

-- ---- a row that is sent is registered as before

-- a row has become another of its VID, or none where it wasn't registered
abbrev IsRegisteredAs : Row ℕ (Unit {0}) → Option (Row ℕ (Unit {0})) → Type 0
IsRegisteredAs r None = is_registered_row r ≡ false
IsRegisteredAs r (Some t) = (t.key ≡ r.key) × (is_registered_row t ≡ is_registered_row r)

before_as : (leave_all : Bool) (leave : Cs) (r : Row ℕ (Unit {0})) → IsRegisteredAs r (Some (before_opportunity leave_all leave r))
before_as true leave r = (refl, leave_all_sent-registered r.registrar)
before_as false leave r = (refl, refl)

after_as : (o : Option AppEvent) (r : Row ℕ (Unit {0})) → IsRegisteredAs r (row_after o r)
after_as None r = (refl, refl)
after_as (Some event) r = by (is_live t) refl
  where
    t : Row ℕ (Unit {0})
    t = applicant_takes event r

    by : (b : Bool) → is_live t ≡ b → IsRegisteredAs r (if b then Some t else None)
    by true live = (refl, refl)
    by false dead = (or_both (not (is_observer t.applicant)) (is_registered_in t.registrar) dead).1

along : (r t : Row ℕ (Unit {0})) (o : Option (Row ℕ (Unit {0}))) → IsRegisteredAs r (Some t) → IsRegisteredAs t o → IsRegisteredAs r o
along r t None first off = sym first.1 ∙ off
along r t (Some u) first later = (later.0 ∙ first.0, later.1 ∙ first.1)

sent_as : (leave_all taken : Bool) (leave : Cs) (r : Row ℕ (Unit {0})) → IsRegisteredAs r (sent_row leave_all taken leave r)
sent_as leave_all taken leave r =
    let t = before_opportunity leave_all leave r in
    along r t (row_after (opportunity leave_all taken r) t) (before_as leave_all leave r) (after_as (opportunity leave_all taken r) t)

-- so the same VIDs are registered of all rows
vids_as : (f : Row ℕ (Unit {0}) → Option (Row ℕ (Unit {0}))) → ((r : Row ℕ (Unit {0})) → IsRegisteredAs r (f r)) → (rows : List (Row ℕ (Unit {0})))
    → registered_vids (filter_map f rows) ≡ registered_vids rows
vids_as f as_before [] = refl
vids_as f as_before (r ∷ rows) = by (f r) (as_before r) (vids_as f as_before rows)
  where
    now : List (Row ℕ (Unit {0}))
    now = filter is_registered_row (filter_map f rows)

    was : List (Row ℕ (Unit {0}))
    was = filter is_registered_row rows

    by : (o : Option (Row ℕ (Unit {0}))) → IsRegisteredAs r o → map key_of now ≡ map key_of was → registered_vids (cons_option o (filter_map f rows)) ≡ registered_vids (r ∷ rows)
    by None off same = same ∙ sym (ap (map key_of) (cond-false (is_registered_row r) (r ∷ was) was off))
    by (Some t) h same =
        elim (cases_Bool (is_registered_row r)) [
          | inl is ↦ ap (map key_of) (cond-true (is_registered_row t) (t ∷ now) now (h.1 ∙ is))
              ∙ ap (λ (k : ℕ). k ∷ map key_of now) h.0 ∙ ap (λ (ks : List ℕ). r.key ∷ ks) same
              ∙ sym (ap (map key_of) (cond-true (is_registered_row r) (r ∷ was) was is))
          | inr off ↦ ap (map key_of) (cond-false (is_registered_row t) (t ∷ now) now (h.1 ∙ off)) ∙ same
              ∙ sym (ap (map key_of) (cond-false (is_registered_row r) (r ∷ was) was off))
        ]

part_sent : (now : Cs) (s : Part) → registered_vids (sent_part now s).rows ≡ registered_vids s.rows
part_sent now s =
    vids_as (λ r. row_sent base octets nat_cmp now s r) (λ r. sent_as (is_active s.leave_all) (takes base octets nat_cmp s r) (after now s.leave_time) r) s.rows

-- ---- at a node

abbrev vids_at : ℕ → Vlans → List ℕ
vids_at k side = of_part (λ part. registered_vids part.rows) [] k side

-- a participant of MVRP has become one with the same VIDs
part_replaced : (at k : ℕ) (change : Part → Part) → ((s : Part) → registered_vids (change s).rows ≡ registered_vids s.rows) → (side : Vlans) (o : Option Part) → slice_get side.parts at ≡ o
    → vids_at k (with_part o (λ s. with_part_at at (change s) side) side) ≡ vids_at k side
part_replaced at k change same side None is = refl
part_replaced at k change same side (Some s) is = read_set (λ (part : Part). registered_vids part.rows) [] side.parts at k s (change s) is (same s)

-- a port has another participant of MSRP, and its ledger
port_replaced : {X : Type 0} (f : Book → X) (none : X) (at k : ℕ) (change : SrpPart → SrpPart) (side : Streams) (o : Option PortState) → slice_get side.ports at ≡ o
    → of_port (λ port. f port.ledger) none k (with_port o (λ p. streams_replaced at (with_srp_part (change p.part) p) side) side) ≡ of_port (λ port. f port.ledger) none k side
port_replaced f none at k change side None is = refl
port_replaced f none at k change side (Some p) is = read_set (λ (port : PortState). f port.ledger) none side.ports at k p (with_srp_part (change p.part) p) is refl

-- what is in force at a node with other streams, or with other VIDs
with_vlans : (k : ℕ) (s : NodeState) (v : Vlans) → vids_at k v ≡ vids_at k s.vlans → node_force k (record s { vlans = v }) ≡ node_force k s
with_vlans k s v same = same_force (node_force k (record s { vlans = v })) (node_force k s) refl refl refl same

with_streams : (k : ℕ) (s : NodeState) (t : Streams) → ((X : Type 0) (f : Book → X) (none : X) → of_port (λ port. f port.ledger) none k t ≡ of_port (λ port. f port.ledger) none k s.streams)
    → node_force k (record s { streams = t }) ≡ node_force k s
with_streams k s t same =
    same_force (node_force k (record s { streams = t })) (node_force k s)
    (ap (map (λ (x : Entry). x.want.stream)) (same (List Entry) (λ (b : Book). booked_of b.entries) []))
    (same ℕ (λ (b : Book). booked_slope b.entries A) 0) (same ℕ (λ (b : Book). booked_slope b.entries B) 0) refl

sent_keeps : (app : App) (at k : ℕ) (o : Option (List ℕ)) (s : NodeState) → node_force k (sent_octets app at o s).0 ≡ node_force k s
sent_keeps app at k None s = refl
sent_keeps Mvrp at k (Some octets) s = with_vlans k s (sent_vlans s.clock at s.vlans) (part_replaced at k (sent_part s.clock) (part_sent s.clock) s.vlans (slice_get s.vlans.parts at) refl)
sent_keeps Msrp at k (Some octets) s =
    with_streams k s (sent_streams s.clock at s.streams) (λ X f none. port_replaced f none at k (srp_sent_part s.clock) s.streams (slice_get s.streams.ports at) refl)

spoilt_keeps : (app : App) (at k : ℕ) (s : NodeState) → node_force k (spoilt_at app at s) ≡ node_force k s
spoilt_keeps Mvrp at k s = with_vlans k s (spoilt_vlans at s.vlans) (part_replaced at k (λ (p : Part). record p { sound = false }) (λ p. refl) s.vlans (slice_get s.vlans.parts at) refl)
spoilt_keeps Msrp at k s =
    with_streams k s (spoilt_streams at s.streams) (λ X f none. port_replaced f none at k (λ (p : SrpPart). record p { sound = false }) s.streams (slice_get s.streams.ports at) refl)

-- a request leaves the participants and the ports
parts_either : (b : Bool) (side v w : Vlans) → v.parts ≡ side.parts → w.parts ≡ side.parts → (if b then v else w).parts ≡ side.parts
parts_either true side v w e f = e
parts_either false side v w e f = f

vlans_asked : (vid : ℕ) (declared : Bool) (side : Vlans) → (requested_vlans vid declared side).parts ≡ side.parts
vlans_asked vid true side = parts_either (has_own vid side) side _ _ refl refl
vlans_asked vid false side = parts_either (has_own vid side) side _ _ refl refl

asked_vlans : (vid : ℕ) (declared : Bool) (k : ℕ) (s : NodeState) → node_force k (record s { vlans = requested_vlans vid declared s.vlans }) ≡ node_force k s
asked_vlans vid declared k s =
    with_vlans k s (requested_vlans vid declared s.vlans) (ap (λ (parts : List Part). option_map_or (λ (p : Part). registered_vids p.rows) (slice_get parts k) []) (vlans_asked vid declared s.vlans))

asked_streams : (request : SrpRequest) (k : ℕ) (s : NodeState) → node_force k (record s { streams = requested_streams request s.streams }) ≡ node_force k s
asked_streams request k s =
    with_streams k s (requested_streams request s.streams)
    (λ X f none. ap (λ (ports : List PortState). option_map_or (λ (p : PortState). f p.ledger) (slice_get ports k) none) (asked_ports request s.streams))

asked_keeps : (request : AppRequest) (k : ℕ) (s : NodeState) → node_force k (node_step (node_events.Request request) s).0 ≡ node_force k s
asked_keeps (Declare vid) k s = asked_vlans vid true k s
asked_keeps (Withdraw vid) k s = asked_vlans vid false k s
asked_keeps (Talk talker) k s = asked_streams (asks.Talk talker) k s
asked_keeps (Hush stream) k s = asked_streams (asks.Hush stream) k s
asked_keeps (Listen stream) k s = asked_streams (asks.Listen stream) k s
asked_keeps (Unlisten stream) k s = asked_streams (asks.Unlisten stream) k s

-- ---- in a network

step_keeps : (n : NodeNo) (event : NodeEvent) (p : EgressPort) → ((s : NodeState) → node_force (place_of p.port) (node_step event s).0 ≡ node_force (place_of p.port) s) → (w : WorldState)
    → force_at p (step_of_node n event w).0 ≡ force_at p w
step_keeps n event p same w = ap (force_at p) (sym (stepped_is n event w)) ∙ force_changed n (λ s. (node_step event s).0) p same w

-- an event leaves what is in force at every port
abbrev Keeps : WorldEvent → Type 0
Keeps e = (p : EgressPort) (w : WorldState) → force_at p (world_step e w).0 ≡ force_at p w

request_keeps : (n : NodeNo) (request : AppRequest) → Keeps (Request n request)
request_keeps n request p w = step_keeps n (node_events.Request request) p (asked_keeps request (place_of p.port)) w

ends_keep : (app : App) (q p : EgressPort) (w : WorldState) → force_at p (with_unsound_ends app q w) ≡ force_at p w
ends_keep app q p w =
    let k = place_of p.port in
    force_changed _ (spoilt_at app _) p (spoilt_keeps app _ k) _ ∙ force_changed q.node (spoilt_at app (place_of q.port)) p (spoilt_keeps app (place_of q.port) k) w

loss_keeps : (q : EgressPort) (index : ℕ) → Keeps (Lose q index)
loss_keeps q index p w = by (app_of q index w)
  where
    by : (o : Option App) → force_at p (with_loss q index o w).0 ≡ force_at p w
    by None = refl
    by (Some app) = ends_keep app q p _ ∙ force_changed q.node (lost_at (place_of q.port) index) p (λ s. refl) w

forgery_keeps : (q : EgressPort) (index : ℕ) (wire : Wire) → Keeps (Forge q index wire)
forgery_keeps q index wire p w = by (reaches q index w)
  where
    by : (b : Bool) → force_at p (with_forgery q index wire b w).0 ≡ force_at p w
    by false = refl
    by true = ends_keep wire.app q p _ ∙ force_changed q.node (forged_at (place_of q.port) index wire) p (λ s. refl) w

repeat_keeps : (q : EgressPort) (index : ℕ) → Keeps (Repeat q index)
repeat_keeps q index p w = by (app_of q index w)
  where
    by : (o : Option App) → force_at p (after_repeat q index o w).0 ≡ force_at p w
    by None = refl
    by (Some app) = force_changed q.node (repeated_at (place_of q.port) index) p (λ s. refl) w

-- what a scenario has happen
abbrev KeepsIfAny : Option WorldEvent → Type 0
KeepsIfAny None = Unit {0}
KeepsIfAny (Some e) = Keeps e

of_entry : (f : StreamEntry → WorldEvent) → ((e : StreamEntry) → Keeps (f e)) → (o : Option StreamEntry) → KeepsIfAny (option_map f o)
of_entry f keeps None = tt
of_entry f keeps (Some e) = keeps e

scripted_keeps : (links : List Link) (streams : List StreamEntry) (kind : EventKind) → KeepsIfAny (event_of links streams kind)
scripted_keeps links streams (kinds.Declare station vid) = request_keeps station (Declare vid)
scripted_keeps links streams (kinds.Withdraw station vid) = request_keeps station (Withdraw vid)
scripted_keeps links streams (kinds.Talk stream) = of_entry _ (λ e. request_keeps e.talker (Talk (talker_of_entry e))) (stream_at streams stream)
scripted_keeps links streams (kinds.Hush stream) = of_entry _ (λ e. request_keeps e.talker (Hush e.id)) (stream_at streams stream)
scripted_keeps links streams (kinds.Listen station stream) = of_entry _ (λ e. request_keeps station (Listen e.id)) (stream_at streams stream)
scripted_keeps links streams (kinds.Unlisten station stream) = of_entry _ (λ e. request_keeps station (Unlisten e.id)) (stream_at streams stream)
scripted_keeps links streams (kinds.Lose from to index) = loss_keeps _ index
scripted_keeps links streams (kinds.Repeat from to index) = repeat_keeps _ index
scripted_keeps links streams (kinds.Forge from to index app octets) = forgery_keeps _ index _

script_keeps : (links : List Link) (streams : List StreamEntry) (t n : ℕ) (entries : List EventEntry) (p : EgressPort) (w : WorldState)
    → force_at p (world_after (map (λ e. e.1) (scripted_from links streams t n entries)) w) ≡ force_at p w
script_keeps links streams t n [] p w = refl
script_keeps links streams t n (e ∷ entries) p w = by (e.tick == t) (script_keeps links streams t (n + 1) entries p)
  where
    later : List (ℕ × WorldEvent)
    later = scripted_from links streams t (n + 1) entries

    happen : (o : Option WorldEvent) → KeepsIfAny o → ((v : WorldState) → force_at p (world_after (map (λ x. x.1) later) v) ≡ force_at p v)
        → force_at p (world_after (map (λ x. x.1) (with_event n o later)) w) ≡ force_at p w
    happen None keeps rest = rest w
    happen (Some event) keeps rest = rest (world_step event w).0 ∙ keeps p w

    by : (b : Bool) → ((v : WorldState) → force_at p (world_after (map (λ x. x.1) later) v) ≡ force_at p v)
        → force_at p (world_after (map (λ x. x.1) (if b then with_event n (event_of links streams e.kind) later else later)) w) ≡ force_at p w
    by true rest = happen (event_of links streams e.kind) (scripted_keeps links streams e.kind) rest
    by false rest = rest w

-- ---- the steps of nodes

-- a Send
send_keeps : (n : NodeNo) (port : PortNo) (step : PortStep) → is_send step ≡ true → Keeps (Port n port step)
send_keeps n port Work is = absurd (false≢true is)
send_keeps n port (LeaveNow key) is = absurd (false≢true is)
send_keeps n port (LeaveAllNow app) is = absurd (false≢true is)
send_keeps n port (PeriodicNow app) is = absurd (false≢true is)
send_keeps n port Due is = absurd (false≢true is)
send_keeps n port Settle is = absurd (false≢true is)
send_keeps n port (Send app) is =
    λ p w. step_keeps n (node_events.Port port (Send app)) p (λ s. sent_keeps app (place_of port) (place_of p.port) (octets_to_say app (place_of port) s) s) w

-- a step of another node
other_keeps : (n : NodeNo) (port : PortNo) (step : PortStep) (p : EgressPort) (w : WorldState) → n.0 - 1 ≢ p.node.0 - 1 → force_at p (world_step (Port n port step) w).0 ≡ force_at p w
other_keeps n port step p w apart =
    let event = node_events.Port port step in
    ap (λ (o : Option NodeState). option_map_or (node_force (place_of p.port)) o no_reservation)
    (ap (node_at p.node) (sym (stepped_is n event w)) ∙ node_other n (λ (s : NodeState). (node_step event s).0) w p.node apart)

sends_keep : (n : NodeNo) (made : List NodeStep) (p : EgressPort) (w : WorldState) → list_any (λ st. not (is_send st.step)) made ≡ false
    → force_at p (world_after (map (λ st. Port n st.port st.step) made) w) ≡ force_at p w
sends_keep n [] p w none = refl
sends_keep n (st ∷ made) p w none =
    let both = or_both (not (is_send st.step)) (list_any (λ (x : NodeStep). not (is_send x.step)) made) none in
    let is : is_send st.step ≡ true = elim (cases_Bool (is_send st.step)) [ inl is ↦ is | inr nay ↦ absurd (false≢true (sym both.0 ∙ not_from_false (is_send st.step) nay)) ] in
    sends_keep n made p (world_step (Port n st.port st.step) w).0 both.1 ∙ send_keeps n st.port st.step is p w

others_keep : (n : NodeNo) (made : List NodeStep) (p : EgressPort) (w : WorldState) → n.0 - 1 ≢ p.node.0 - 1
    → force_at p (world_after (map (λ st. Port n st.port st.step) made) w) ≡ force_at p w
others_keep n [] p w apart = refl
others_keep n (st ∷ made) p w apart = others_keep n made p (world_step (Port n st.port st.step) w).0 apart ∙ other_keeps n st.port st.step p w apart

-- those of a node that doesn't act there
node_keeps : (tree : Topology) (n : NodeNo) (made : List NodeStep) (p : EgressPort) (w : WorldState) → AllByRecursion (λ st. HasPort tree (record { node = n; port = st.port })) made → 1 ≤ p.node.0
    → ((n.0 == p.node.0) && list_any (λ st. not (is_send st.step)) made) ≡ false → force_at p (world_after (map (λ st. Port n st.port st.step) made) w) ≡ force_at p w
node_keeps tree n [] p w known one none = refl
node_keeps tree n (st ∷ made) p w known one none =
    let some = known.0.0.0 in
    elim (cases_Bool (n.0 == p.node.0)) [
      | inl is ↦ sends_keep n (st ∷ made) p w (ap (λ (b : Bool). b && list_any (λ (x : NodeStep). not (is_send x.step)) (st ∷ made)) (sym is) ∙ none)
      | inr nay ↦ (
          let differ : n.0 ≡ p.node.0 → ⊥ = eqb-false n.0 p.node.0 nay in
          others_keep n (st ∷ made) p w (λ e. differ (omega (arith, some, one, e))))
    ]

nodes_keep : (tree : Topology) (nodes : List NodeSteps) (p : EgressPort) (w : WorldState) → AllByRecursion (HasPortsOf tree) nodes → 1 ≤ p.node.0 → has_acted p.node nodes ≡ false
    → force_at p (world_after (step_events nodes) w) ≡ force_at p w
nodes_keep tree [] p w known one none = refl
nodes_keep tree (made ∷ nodes) p w known one none =
    let both = or_both (acts_at p.node made) (has_acted p.node nodes) none in
    let own : List WorldEvent = map (λ st. Port made.node st.port st.step) made.steps in
    ap (force_at p) (after_both own (step_events nodes) w) ∙ nodes_keep tree nodes p (world_after own w) known.1 one both.1 ∙ node_keeps tree made.node made.steps p w known.0 one both.0

-- ---- the law

pub quiet_node_keeps : (plan : Plan) (t : ℕ) (w : WorldState) (tick : Tick) (p : EgressPort) → IsLegalTick plan t w tick → HasPort plan.tree p → has_acted p.node tick.steps ≡ false
    → force_at p (after_steps plan t tick w) ≡ force_at p w
quiet_node_keeps plan t w tick p legal has none =
    nodes_keep plan.tree tick.steps p (after_script plan t w) legal.known has.0.0 none ∙ script_keeps plan.tree.links plan.streams t 1 plan.events p w

-- a node that acts is one of the tree
pub acting_node : (tree : Topology) (made : NodeSteps) → HasPortsOf tree made → is_act made ≡ true → HasNode tree made.node.0
acting_node tree made known act = by made.steps known act
  where
    by : (steps : List NodeStep) → AllByRecursion (λ st. HasPort tree (record { node = made.node; port = st.port })) steps
        → list_any (λ st. not (is_send st.step)) steps ≡ true → HasNode tree made.node.0
    by [] known act = absurd (false≢true act)
    by (st ∷ steps) known act = known.0.0
