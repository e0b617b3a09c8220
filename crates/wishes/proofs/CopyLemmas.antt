-- A granted wish with its VLAN: what is in force on its way at a run's end, and what becomes of the copies that come there.
use Rattle.std.proofs.Common.{◌≡◌, ◌≢◌, ℕ, zero, suc, ◌+◌, ◌-◌, ◌<◌, ◌≤◌, inl, inr, Bool, true, false, List, [], ◌∷◌, ◌++◌, length, map, take, get_or, if◌then◌else◌, Option, Some, None, refl, sym, ◌∙◌, ap, subst, arith}
use Rattle.std.specs.Prelude.{All, AllPairs, not, nat_le, find, slice_get, is_some, option_map, option_and_then, ◌==◌}
use Rattle.std.specs.{Option.option_map_or, List.Contains, List.AllByRecursion, List.list_any, List.list_all, List.range_with_len, Ordering.nat_cmp, Ordering.is_eq}
use Rattle.std.proofs.lemmas.{Bool.cond-true, Bool.cond-false, Bool.cases_lt, Bool.cases_eq, Bool.le-leb, Bool.Decides.nat_tests, Option.same_Some, List.length-take, List.length-map, List.get_or-map, List.get_or_default, List.Elements.All-nil, List.Elements.All-head, List.Elements.All-tail, List.Elements.All-append, List.Elements.All-map, List.Elements.All-weaker, List.Elements.All-filter, List.Elements.All-contains, List.Elements.All-from_recursion}
use Rattle.srp_base.specs.declared.{numbers.EgressPort.EgressPort, numbers.StreamId.StreamId, ports.PortChange.PortChange}
use Rattle.credit_shaper.specs.declared.{shaper.Traffic.Traffic, port.Departure.Departure}
use Rattle.credit_shaper.specs.Departures.{sent_of}
use Rattle.stream_importance.specs.declared.entry.Entry.{Entry}
use Rattle.port_ledger.specs.{Book.entry_of, Decision.booked_of}
use Rattle.tree_topology.specs.{Topology.HasPort, PortLaws.HasPortLaws}
use Rattle.mrp_participant.specs.declared.row.Row.{Row}
use Rattle.mrp_participant.specs.{Lookup.find as row_of, Row.registered_in}
use Rattle.mvrp.specs.Part.{Part, registers}
use Rattle.msrp.specs.PortState.{PortState}
use Rattle.attribute_propagation.specs.Ports.{place_of}
use Rattle.node_core.specs.State.{NodeState, booked_at, if_booked}
use Rattle.frame_flow.specs.declared.{frame.Frame.Frame, frame.Route.Route, frame.FrameCopy.FrameCopy, place.Place.Place, result.Fate.Fate, result.PortFlow.PortFlow}
use Rattle.frame_flow.specs.declared.frame.Route.TheVariants.{Stream}
use Rattle.frame_flow.specs.declared.result.Fate.TheVariants.{Unbooked, NoVlan}
use Rattle.frame_flow.specs.{Copies.all_places, Copies.arriving, Flow.IsFlow, Flow.fate_of, Flow.force_on, Flow.is_unbooked, Flow.port_flow, Flow.port_input, Flow.sent_fate, Force.changes_at, Force.has_booked as is_booked_by, Force.has_vid, Force.is_port, Force.last_upto, Laws.AreDifferent, Laws.fate_numbers, Moments.tick_at, Origins.HasSource}
use Rattle.frame_flow.proofs.LevelLemmas.{places-are}
use Rattle.delay_flow.proofs.Sums.{contains-map}
use Rattle.topology_file.specs.declared.{entries.StreamEntry.StreamEntry, entries.FrameEntry.FrameEntry, entries.FrameRoute.FrameRoute}
use Rattle.topology_file.specs.declared.entries.FrameRoute.TheVariants as routes
use Rattle.topology_file.specs.{Plan.Plan, Scenario.KeepsRules}
use Rattle.scenario_frames.specs.{PlanFrames.copies_of, PlanFrames.copy_of, PlanFrames.frames_from, PlanFrames.plan_frames, PlanFrames.stream_way, PlanFrames.way_of, Setting.plan_rates, Setting.setting_of}
use Rattle.world_core.specs.declared.journal.Tick.{Tick}
use Rattle.world_core.specs.{Moments.events_from, Reservation.no_reservation, Reservation.registered_vids, Reservation.said_by, Start.world_of, Ticks.AreLegalTicks, Ticks.IsLegalTick, Ticks.LeadTo, Ticks.after_steps, Ticks.closing_events, Ticks.tick_events, Timeline.IsTimelineOf, Timeline.Says, Timeline.force_at, Timeline.node_force, Timeline.world_after_ticks, World.WorldState, World.node_at, World.world_after}
use Rattle.world_core.specs.Reservation.{Reservation}
use Rattle.world_core.proofs.Timelines.{after_both}
use Rattle.network_laws.specs.{Streams.has_booked, Vlans.is_registered}
use Rattle.wishes.specs.declared.wish.Answer.TheVariants.{Granted}
use Rattle.wishes.specs.{Copies.is_lost, Copies.IsAfterChanges, Copies.IsPlaceOnWay, Wishes.answer_by, Wishes.answer_to, Wishes.failure_to, Wishes.grants, Wishes.is_granted, Wishes.way_to}
use Rattle.wishes.proofs.GrantLemmas.{each_booked, granted_booked}

-- ---- elements that differ by a key

same_by_key : {X : Type 0} (key : X → ℕ) (xs : List X) (x y : X) → AllPairs (λ a b. key a ≢ key b) xs → Contains xs x → Contains xs y
    → key x ≡ key y → x ≡ y
same_by_key {X} key xs x y differ (i, below_i, at_i) (j, below_j, at_j) same =
    let x_at : (d : X) → get_or xs i d ≡ x = λ d. get_or_default xs i d x below_i ∙ at_i in
    let y_at : (d : X) → get_or xs j d ≡ y = λ d. get_or_default xs j d y below_j ∙ at_j in
    elim (cases_eq i j) [
      | inl e ↦ sym (x_at x) ∙ ap (λ (k : ℕ). get_or xs k x) e ∙ y_at x
      | inr ne ↦ absurd (elim (cases_lt i j) [
        | inl lt ↦ differ i j x lt below_j (ap key (x_at x) ∙ same ∙ sym (ap key (y_at x)))
        | inr le ↦ differ j i x (let gt : j < i = omega (arith, le, ne) in gt) below_i (ap key (y_at x) ∙ sym same ∙ sym (ap key (x_at x)))
      ])
    ]

of_numbers : {X : Type 0} (xs : List (ℕ × X)) → AllPairs (λ a b. a ≢ b) (map (λ e. e.0) xs) → AllPairs (λ a b. a.0 ≢ b.0) xs
of_numbers {X} xs differ i j d lt below same =
    let key : ℕ × X → ℕ = λ e. e.0 in
    differ i j d.0 lt (omega (arith, below, length-map xs key)) (get_or-map key xs i d d.0 (omega (arith, lt, below)) ∙ same ∙ sym (get_or-map key xs j d d.0 below))

-- ---- the frames of a stream

-- a frame that goes as one of a stream has the VID of an entry of that stream
abbrev HasVidOf : List StreamEntry → Frame → Type 0
HasVidOf streams f =
    (id : StreamId) (traffic : Traffic) → f.route ≡ Stream id traffic → (s : StreamEntry) × Contains streams s × (s.id ≡ id) × (f.vid ≡ s.vid)

contains_got : (streams : List StreamEntry) (i : ℕ) (s : StreamEntry) → slice_get streams i ≡ Some s → Contains streams s
contains_got [] i s is = absurd cc
contains_got (x ∷ streams) zero s is = (zero, omega arith, same_Some x s is)
contains_got (x ∷ streams) (suc i) s is = let rest = contains_got streams i s is in (suc rest.0, omega (arith, rest.1), rest.2)

copies_have_vid : (streams : List StreamEntry) (e : FrameEntry) (route : FrameRoute) (first : ℕ) → All (HasVidOf streams) (copies_of e (way_of streams route) first)
copies_have_vid streams e (routes.OfStream stream) first = by (slice_get streams (stream - 1)) refl
  where
    by : (o : Option StreamEntry) → slice_get streams (stream - 1) ≡ o → All (HasVidOf streams) (copies_of e (option_map stream_way o) first)
    by None is = All-nil (HasVidOf streams)
    by (Some s) is =
        All-map (HasVidOf streams) (copy_of e (stream_way s) first) (range_with_len 0 e.count)
        (λ k d below id traffic same. (s, contains_got streams (stream - 1) s is, cc, refl))
copies_have_vid streams e (routes.Between from to vid) first =
    All-map (HasVidOf streams) (copy_of e _ first) (range_with_len 0 e.count) (λ k d below id traffic same. absurd cc)

frames_have_vid : (streams : List StreamEntry) (first : ℕ) (es : List FrameEntry) → All (HasVidOf streams) (frames_from streams first es)
frames_have_vid streams first [] = All-nil (HasVidOf streams)
frames_have_vid streams first (e ∷ es) =
    All-append (HasVidOf streams) (copies_of e (way_of streams e.route) first) (frames_from streams (first + e.count) es)
    (copies_have_vid streams e e.route first) (frames_have_vid streams (first + e.count) es)

pub vid_of_frame : (plan : Plan) (e : StreamEntry) (f : Frame) (traffic : Traffic) → KeepsRules plan → Contains plan.streams e → Contains (plan_frames plan) f
    → f.route ≡ Stream e.id traffic → f.vid ≡ e.vid
vid_of_frame plan e f traffic rules listed there route =
    let of = All-contains (HasVidOf plan.streams) (plan_frames plan) f (frames_have_vid plan.streams 1 plan.frames) there e.id traffic route in
    let same : of.0 ≡ e = same_by_key (λ (s : StreamEntry). s.id.0) plan.streams of.0 e rules.stream_ids of.1 listed (ap (λ (id : StreamId). id.0) of.2) in
    of.3 ∙ ap (λ (s : StreamEntry). s.vid) same

-- ---- what a network has booked and registered is in force there

booked_entry : (stream : StreamId) (xs : List Entry) → is_some (option_and_then if_booked (entry_of xs stream)) ≡ true
    → list_any (λ (s : StreamId). s.0 == stream.0) (map (λ (x : Entry). x.want.stream) (booked_of xs)) ≡ true
booked_entry stream [] h = h
booked_entry stream (x ∷ xs) h = grind (arith, booked_entry stream xs)

booked_force : (w : WorldState) (stream : StreamId) (p : EgressPort) → has_booked w stream p ≡ true → list_any (λ (s : StreamId). s.0 == stream.0) (force_at p w).booked ≡ true
booked_force w stream p h = by (node_at p.node w) h
  where
    at : ℕ
    at = place_of p.port

    in_port : (o : Option PortState) → is_some (option_map_or (λ (port : PortState). option_and_then if_booked (entry_of port.ledger.entries stream)) o None) ≡ true
        → list_any (λ (s : StreamId). s.0 == stream.0) (map (λ (x : Entry). x.want.stream) (option_map_or (λ (port : PortState). booked_of port.ledger.entries) o [])) ≡ true
    in_port None h = h
    in_port (Some port) h = booked_entry stream port.ledger.entries h

    by : (o : Option NodeState) → option_map_or (λ (s : NodeState). is_some (booked_at stream at s)) o false ≡ true
        → list_any (λ (s : StreamId). s.0 == stream.0) (option_map_or (node_force at) o no_reservation).booked ≡ true
    by None h = h
    by (Some s) h = in_port (slice_get s.streams.ports at) h

vid_row : (vid : ℕ) (rows : List (Row ℕ (Unit {0}))) → is_some (registered_in (row_of nat_cmp vid rows)) ≡ true → list_any (λ v. v == vid) (registered_vids rows) ≡ true
vid_row vid [] h = h
vid_row vid (r ∷ rows) h =
    let same : is_eq (nat_cmp r.key vid) ≡ (r.key == vid) = grind (arith, nat_tests) in
    grind (arith, same, vid_row vid rows)

vid_force : (w : WorldState) (vid : ℕ) (p : EgressPort) → is_registered w vid p ≡ true → list_any (λ v. v == vid) (force_at p w).vids ≡ true
vid_force w vid p h = by (node_at p.node w) h
  where
    at : ℕ
    at = place_of p.port

    in_part : (o : Option Part) → option_map_or (registers vid) o false ≡ true → list_any (λ v. v == vid) (option_map_or (λ (part : Part). registered_vids part.rows) o []) ≡ true
    in_part None h = h
    in_part (Some part) h = vid_row vid part.rows h

    by : (o : Option NodeState) → option_map_or (registers vid) (option_and_then (λ (s : NodeState). slice_get s.vlans.parts at) o) false ≡ true
        → list_any (λ v. v == vid) (option_map_or (node_force at) o no_reservation).vids ≡ true
    by None h = h
    by (Some s) h = in_part (slice_get s.vlans.parts at) h

booked_said : (stream : StreamId) (f : Option PortChange) → is_booked_by stream f ≡ list_any (λ (s : StreamId). s.0 == stream.0) (said_by f).booked
booked_said stream None = refl
booked_said stream (Some c) = refl

vid_said : (vid : ℕ) (f : Option PortChange) → has_vid vid f ≡ list_any (λ v. v == vid) (said_by f).vids
vid_said vid None = refl
vid_said vid (Some c) = refl

-- ---- what is in force at a run's end

run_is : (plan : Plan) (ticks : List Tick) (t : ℕ) (w end : WorldState) → LeadTo (IsLegalTick plan) plan t w ticks plan.ticks end
    → (t + length ticks ≡ plan.ticks) × (end ≡ world_after (events_from plan t ticks) w)
run_is plan [] t w end h = let is = h.0 in (omega (arith, is), h.1)
run_is plan (tick ∷ ticks) t w end h =
    let rest = run_is plan ticks (suc t) (world_after (tick_events plan t tick) w) end h.1 in
    (let count = rest.0 in omega (arith, count), rest.1 ∙ sym (after_both (tick_events plan t tick) (events_from plan (suc t) ticks) w))

last_of : {X : Type 0} (xs : List X) (n : ℕ) → length xs ≡ suc n → (x : X) × (slice_get xs n ≡ Some x) × (xs ≡ take n xs ++ x ∷ [])
last_of [] n count = absurd (omega (arith, count))
last_of (x ∷ []) zero count = (x, refl, refl)
last_of (x ∷ []) (suc n) count = absurd (omega (arith, count))
last_of (x ∷ y ∷ xs) zero count = absurd (omega (arith, count))
last_of {X} (x ∷ y ∷ xs) (suc n) count = let rest = last_of (y ∷ xs) n (omega (arith, count)) in (rest.0, rest.1, ap (λ (zs : List X). x ∷ zs) rest.2)

-- how a tick ends: its PDUs are carried and the clock goes on, which changes nothing that is in force
pub record TickEnds (plan : Plan) : Type 0 where
  pub next : (before : List Tick) (tick : Tick)
      → world_after_ticks plan (before ++ tick ∷ []) ≡ world_after (closing_events plan.tree) (after_steps plan (length before) tick (world_after_ticks plan before))
  pub closing : (w : WorldState) (p : EgressPort) → force_at p (world_after (closing_events plan.tree) w) ≡ force_at p w

-- a legal run with its timeline, in which the wish of a station for the stream of an entry is granted
-- at the end, with the VID registered on the whole way, and a port of the way
pub record Granting (plan : Plan) (ticks : List Tick) (end : WorldState) (changes : List PortChange) (e : StreamEntry) (l n : ℕ) (place : Place) : Type 0 where
  pub rules : KeepsRules plan
  pub legal : AreLegalTicks plan ticks end
  pub timeline : IsTimelineOf plan ticks changes
  pub granted : answer_to end e l ≡ Granted n true
  pub on : IsPlaceOnWay plan end e.id l place

-- the timeline says in the last tick what is in force at the end, as what ends a tick changes nothing of it
end_says : (plan : Plan) (ticks : List Tick) (end : WorldState) (changes : List PortChange) → TickEnds plan → KeepsRules plan → AreLegalTicks plan ticks end
    → IsTimelineOf plan ticks changes → (p : EgressPort) → HasPort plan.tree p → Says (length ticks - 1) changes p (force_at p end)
end_says plan ticks end changes ends rules legal timeline p port =
    let run = run_is plan ticks 0 (world_of plan) end legal in
    let some = rules.ticks.0 in
    let count = run.0 in
    let t = length ticks - 1 in
    let last = last_of ticks t (omega (arith, some, count)) in
    let tick = last.0 in
    let before : List Tick = take t ticks in
    let w = after_steps plan t tick (world_after_ticks plan before) in
    let many : length before ≡ t = omega (arith, length-take t ticks) in
    let closed : end ≡ world_after (closing_events plan.tree) w =
    run.1 ∙ ap (λ (ts : List Tick). world_after_ticks plan ts) last.2 ∙ ends.next before tick
    ∙ ap (λ (k : ℕ). world_after (closing_events plan.tree) (after_steps plan k tick (world_after_ticks plan before))) many in
    timeline.gives t w p (record { tick = tick; at = last.1; reached = refl }) port ∙ sym (ap (force_at p) closed ∙ ends.closing w p)

-- once all changes have come, the last stays in force
upto_alike : (t u : ℕ) (newest : Option PortChange) (cs : List PortChange) → All (λ c. c.tick ≤ t) cs → All (λ c. c.tick ≤ u) cs → last_upto t newest cs ≡ last_upto u newest cs
upto_alike t u newest [] early late = refl
upto_alike t u newest (c ∷ cs) early late =
    let newer : (k : ℕ) → All (λ (c : PortChange). c.tick ≤ k) (c ∷ cs) → last_upto k newest (c ∷ cs) ≡ last_upto k (Some c) cs =
    λ k all. ap (λ (o : Option PortChange). last_upto k o cs) (cond-true (nat_le c.tick k) (Some c) newest (le-leb c.tick k (All-head (λ (d : PortChange). d.tick ≤ k) c cs all))) in
    newer t early
    ∙ upto_alike t u (Some c) cs (All-tail (λ (d : PortChange). d.tick ≤ t) c cs early) (All-tail (λ (d : PortChange). d.tick ≤ u) c cs late)
    ∙ sym (newer u late)

-- ---- on the way of a granted wish

sent_stays : (o : Option Departure) → is_lost (sent_fate o) ≡ false
sent_stays None = refl
sent_stays (Some d) = refl

registered_way : (w : WorldState) (e : StreamEntry) (l n : ℕ) → answer_to w e l ≡ Granted n true → list_all (is_registered w e.vid) (way_to w e.id l) ≡ true
registered_way w e l n h = by (is_granted w e.id l) (failure_to w e.id l) h
  where
    by : (b : Bool) (o : Option _) → (if b then Granted (length (way_to w e.id l)) (list_all (is_registered w e.vid) (way_to w e.id l)) else answer_by w e.id l o) ≡ Granted n true
        → list_all (is_registered w e.vid) (way_to w e.id l) ≡ true
    by true o h = cc
    by false None h = absurd cc
    by false (Some failure) h = absurd cc

pub port_of : (plan : Plan) → HasPortLaws plan.tree → (place : Place) → Contains (all_places plan.tree.links (plan_rates plan)) place → HasPort plan.tree place.at
port_of plan laws place listed =
    All-contains (λ (x : Place). HasPort plan.tree x.at) (all_places plan.tree.links (plan_rates plan)) place (places-are plan.tree (plan_rates plan) laws) listed

module _ (plan : Plan) (ticks : List Tick) (end : WorldState) (changes : List PortChange) (e : StreamEntry) (l n : ℕ) (place : Place)
    (ends : TickEnds plan) (laws : HasPortLaws plan.tree) (at : Granting plan ticks end changes e l n place) where
  abbrev there : List PortChange
  there = changes_at changes place.at

  abbrev way : List EgressPort
  way = way_to end e.id l

  on_way : (test : EgressPort → Bool) → AllByRecursion (λ p. test p ≡ true) way → test place.at ≡ true
  on_way test each = All-contains (λ p. test p ≡ true) way place.at (All-from_recursion (λ p. test p ≡ true) way each) at.on.on_way

  -- on a copy that comes after the last change there is in force what is at the end
  module _ (c : FrameCopy) (after : IsAfterChanges changes place c) where
    abbrev force : Option PortChange
    force = force_on place.rate there c

    force_is : said_by force ≡ force_at place.at end
    force_is =
        let t = length ticks - 1 in
        let Come : PortChange → Type 0 = λ d. d.tick ≤ t in
        let come = All-weaker (λ (d : PortChange). d.tick < length ticks) Come (λ d lt. omega (arith, lt)) changes at.timeline.are.before in
        ap said_by (upto_alike (tick_at place.rate c.bit) t None there after (All-filter (λ (d : PortChange). is_port d.at place.at) Come changes come))
        ∙ end_says plan ticks end changes ends at.rules at.legal at.timeline place.at (port_of plan laws place at.on.listed)

    booked_there : is_booked_by e.id force ≡ true
    booked_there =
        booked_said e.id force ∙ ap (λ (r : Reservation). list_any (λ (s : StreamId). s.0 == e.id.0) r.booked) force_is
        ∙ booked_force end e.id place.at (on_way (has_booked end e.id) (granted_booked end e l (ap grants at.granted)))

    vid_there : has_vid e.vid force ≡ true
    vid_there =
        vid_said e.vid force ∙ ap (λ (r : Reservation). list_any (λ v. v == e.vid) r.vids) force_is
        ∙ vid_force end e.vid place.at (on_way (is_registered end e.vid) (each_booked (is_registered end e.vid) way (registered_way end e l n at.granted)))

    pub no_copy_lost : (traffic : Traffic) (sent : List Departure) → c.frame.route ≡ Stream e.id traffic → c.frame.vid ≡ e.vid → is_lost (fate_of force sent c) ≡ false
    no_copy_lost traffic sent route vid =
        let found = find (λ (d : Departure). d.frame == c.frame.number) sent in
        let unbooked = is_unbooked c.frame.route force in
        let in_vlan = has_vid c.frame.vid force in
        ap is_lost
        (cond-false unbooked Unbooked (if in_vlan then sent_fate found else NoVlan) (ap (λ (r : Route). is_unbooked r force) route ∙ ap not booked_there)
        ∙ cond-true in_vlan (sent_fate found) NoVlan (ap (λ (v : ℕ). has_vid v force) vid ∙ vid_there))
        ∙ sent_stays found

  -- so it has no other fate in the flow, in which each number of a frame stands once at a port
  pub none_lost : (flows : List PortFlow) (c : FrameCopy) (traffic : Traffic) (fate : Fate)
      → IsFlow (setting_of plan changes) flows → All (λ x. AreDifferent (fate_numbers x)) flows
      → All (HasSource (setting_of plan changes) flows place) (arriving plan.tree.links (plan_frames plan) plan.ticks flows place)
      → Contains plan.streams e → Contains (arriving plan.tree.links (plan_frames plan) plan.ticks flows place) c
      → c.frame.route ≡ Stream e.id traffic → IsAfterChanges changes place c
      → Contains (port_flow (setting_of plan changes) flows place).fates (c.frame.number, fate) → is_lost fate ≡ false
  none_lost flows c traffic fate is once sources listed arrives route after has =
      let s = setting_of plan changes in
      let copies = arriving plan.tree.links (plan_frames plan) plan.ticks flows place in
      let sent = sent_of (port_input plan.ticks place.rate there copies) in
      let fated : FrameCopy → ℕ × Fate = λ d. (d.frame.number, fate_of (force_on place.rate there d) sent d) in
      let among : Contains flows (port_flow s flows place) =
      subst (λ (xs : List PortFlow). Contains xs (port_flow s flows place)) (sym is.each)
      (contains-map (port_flow s flows) (all_places plan.tree.links (plan_rates plan)) place at.on.listed) in
      let differ = of_numbers (map fated copies) (All-contains (λ x. AreDifferent (fate_numbers x)) flows (port_flow s flows place) once among) in
      let own = same_by_key (λ (x : ℕ × Fate). x.0) (map fated copies) (c.frame.number, fate) (fated c) differ has (contains-map fated copies c arrives) refl in
      let source = All-contains (HasSource s flows place) copies c sources arrives in
      ap (λ (x : ℕ × Fate). is_lost x.1) own ∙ no_copy_lost c after traffic sent route (vid_of_frame plan e c.frame traffic at.rules listed source.frame route)
