-- Stations talk only what the plan has them talk, since each request to talk is of an entry of the plan at its station; and entries
-- have different StreamIDs, so that no two stations talk one stream.
use Rattle.std.proofs.Common.{◌≡◌, ◌≢◌, ◌⊎◌, inl, inr, ℕ, zero, suc, ◌+◌, ◌-◌, ◌<◌, ◌≤◌, Bool, true, false, if◌then◌else◌, List, [], ◌∷◌, ◌++◌, map, get_or, refl, sym, ap, subst, ◌∙◌, arith}
use Rattle.std.specs.Prelude.{slice_get, Option, Some, None, option_map, IfSome, is_some, ◌==◌}
use Rattle.std.specs.List.{AllByRecursion}
use Rattle.std.proofs.lemmas.Option.{slice_get_within}
use Rattle.srp_base.proofs.{Lists.each_filter, Lists.all_each, Lists.at_each, Arithmetic.decide, Lists.each_append, Arithmetic.same_where_equal as same_number}
use Rattle.srp_base.specs.declared.{numbers.EgressPort.EgressPort, numbers.NodeNo.NodeNo, numbers.StreamId.StreamId, streams.Talker.Talker}
use Rattle.tree_topology.specs.Topology.{link_ports}
use Rattle.topology_file.specs.declared.{entries.StreamEntry.StreamEntry, entries.EventEntry.EventEntry, entries.EventKind.EventKind}
use Rattle.topology_file.specs.declared.entries.EventKind.TheVariants as kinds
use Rattle.topology_file.specs.{Kinds.IsStationNumber, Plan.Plan, Scenario.KeepsRules}
use Rattle.attribute_propagation.specs.Ports.{place_of}
use Rattle.msrp.specs.{Stream.talk_of, Side.Streams, Side.is_talk, Side.has_talk, Side.has_listen, Side.with_asks, Side.talks_without, Side.listens_without}
use Rattle.node_core.specs.declared.{types.AppRequest.AppRequest, types.NodeStep.NodeStep}
use Rattle.node_core.specs.declared.types.AppRequest.TheVariants.{Declare, Withdraw, Talk, Hush, Listen, Unlisten}
use Rattle.node_core.specs.declared.types.NodeEvent.TheVariants as node_events
use Rattle.node_core.specs.{State.NodeState, Step.node_step}
use Rattle.world_core.specs.{WorldEvent, Request, Port, Lose, Repeat, Forge, Carry, Clock, NodeSteps, Tick, events_from, world_of, IsTalkOfPlan, AreTalksOfPlan, HasOneTalker, talker_of_entry, stream_at, event_of, with_event, scripted_from, script_at, step_events, closing_events, tick_events, WorldState}
use Rattle.world_core.proofs.{Beginnings.new_at, EachNode.AllNodes, EachNode.IsOfSides, EachNode.KeepsOwn, Asks.stays_step, Asks.stays_spoilt}

-- ---- what is kept of a node

-- each Talker of the application of the node at a place is of the plan
abbrev pub TalksByPlan : Plan → ℕ → NodeState → Type 0
TalksByPlan plan x s = AllByRecursion (IsTalkOfPlan plan (x + 1)) s.streams.talks

-- a request to talk is of an entry of the plan at its station
abbrev pub IsPlanned : Plan → WorldEvent → Type 0
IsPlanned plan (Request n (Talk talker)) = (1 ≤ n.0) × IsTalkOfPlan plan n.0 talker
IsPlanned plan (Request n (Declare vid)) = Unit {0}
IsPlanned plan (Request n (Withdraw vid)) = Unit {0}
IsPlanned plan (Request n (Hush stream)) = Unit {0}
IsPlanned plan (Request n (Listen stream)) = Unit {0}
IsPlanned plan (Request n (Unlisten stream)) = Unit {0}
IsPlanned plan (Port n port step) = Unit {0}
IsPlanned plan (Lose p index) = Unit {0}
IsPlanned plan (Repeat p index) = Unit {0}
IsPlanned plan (Forge p index wire) = Unit {0}
IsPlanned plan (Carry p) = Unit {0}
IsPlanned plan Clock = Unit {0}

pub talks_sides : (plan : Plan) → IsOfSides (TalksByPlan plan)
talks_sides plan =
    record { boxes = λ x s ins outs h. h; marks = λ app at x s h. subst (AllByRecursion (IsTalkOfPlan plan (x + 1))) (sym (stays_spoilt app at s).talks) h }

-- a choice between sides
either_talks : (P : Talker → Type 0) (b : Bool) (v u : Streams) → AllByRecursion P v.talks → AllByRecursion P u.talks → AllByRecursion P (if b then v else u).talks
either_talks P true v u h k = h
either_talks P false v u h k = k

-- only Talk adds a Talker
talks_asked : (plan : Plan) (n : NodeNo) (request : AppRequest) (s : NodeState) → IsPlanned plan (Request n request)
    → TalksByPlan plan (n.0 - 1) s → TalksByPlan plan (n.0 - 1) (node_step (node_events.Request request) s).0
talks_asked plan n (Declare vid) s ok h = h
talks_asked plan n (Withdraw vid) s ok h = h
talks_asked plan n (Talk talker) s ok h =
    let P : Talker → Type 0 = IsTalkOfPlan plan (n.0 - 1 + 1) in
    let some = ok.0 in
    let number : n.0 ≡ n.0 - 1 + 1 = omega (arith, some) in
    let v = s.streams in
    either_talks P (is_talk (talk_of talker.stream v.talks) talker) v (with_asks talker.stream (talker ∷ talks_without talker.stream v.talks) v.listens v) h
    (subst (λ (k : ℕ). IsTalkOfPlan plan k talker) number ok.1, each_filter P _ v.talks h)
talks_asked plan n (Hush stream) s ok h =
    let P : Talker → Type 0 = IsTalkOfPlan plan (n.0 - 1 + 1) in
    let v = s.streams in
    either_talks P (has_talk stream v) (with_asks stream (talks_without stream v.talks) v.listens v) v (each_filter P _ v.talks h) h
talks_asked plan n (Listen stream) s ok h =
    let v = s.streams in
    either_talks (IsTalkOfPlan plan (n.0 - 1 + 1)) (has_listen stream v) v (with_asks stream v.talks (stream ∷ v.listens) v) h h
talks_asked plan n (Unlisten stream) s ok h =
    let v = s.streams in
    either_talks (IsTalkOfPlan plan (n.0 - 1 + 1)) (has_listen stream v) (with_asks stream v.talks (listens_without stream v.listens) v) v h h

pub talks_own : (plan : Plan) (e : WorldEvent) (w : WorldState) → IsPlanned plan e → KeepsOwn (TalksByPlan plan) e w
talks_own plan (Request n request) w ok = λ s is h. talks_asked plan n request s ok h
talks_own plan (Port n port step) w ok = λ s is h. subst (AllByRecursion (IsTalkOfPlan plan (n.0 - 1 + 1))) (sym (stays_step step (place_of port) s).talks) h
talks_own plan (Lose p index) w ok = tt
talks_own plan (Repeat p index) w ok = tt
talks_own plan (Forge p index wire) w ok = tt
talks_own plan (Carry p) w ok = tt
talks_own plan Clock w ok = λ x s is h. h

pub talks_start : (plan : Plan) → AllNodes (TalksByPlan plan) (world_of plan)
talks_start plan x s get = subst (TalksByPlan plan x) (sym (new_at plan plan.nodes 1 x s get).is) tt

-- ---- what happens in a run

-- of two numbers that differ one is below the other
apart : (i j : ℕ) → i ≢ j → (i < j) ⊎ (j < i)
apart zero zero ne = absurd (ne refl)
apart zero (suc j) ne = inl (omega arith)
apart (suc i) zero ne = inr (omega arith)
apart (suc i) (suc j) ne = later (apart i j (λ e. ne (ap suc e)))
  where
    later : (i < j) ⊎ (j < i) → (suc i < suc j) ⊎ (suc j < suc i)
    later (inl h) = inl (omega (arith, h))
    later (inr h) = inr (omega (arith, h))

module _ (plan : Plan) (rules : KeepsRules plan) where
  stream_planned : (n : ℕ) (o : Option StreamEntry) → stream_at plan.streams n ≡ o → IfSome (option_map (λ (e : StreamEntry). Request e.talker (Talk (talker_of_entry e))) o) (IsPlanned plan)
  stream_planned n None is = tt
  stream_planned n (Some e) is =
      let station = at_each (λ (s : StreamEntry). IsStationNumber plan.nodes s.talker.0) plan.streams (all_each _ plan.streams rules.talkers) (n - 1) e is in
      (station.0.0, record { place = n - 1; entry = e; at = is; station = refl; states = refl })

  -- a request that isn't to talk
  no_talk : (o : Option StreamEntry) (asked : StreamEntry → WorldEvent) → ((e : StreamEntry) → IsPlanned plan (asked e)) → IfSome (option_map asked o) (IsPlanned plan)
  no_talk None asked h = tt
  no_talk (Some e) asked h = h e

  kind_planned : (kind : EventKind) → IfSome (event_of plan.tree.links plan.streams kind) (IsPlanned plan)
  kind_planned (kinds.Declare station vid) = tt
  kind_planned (kinds.Withdraw station vid) = tt
  kind_planned (kinds.Talk stream) = stream_planned stream (stream_at plan.streams stream) refl
  kind_planned (kinds.Hush stream) = no_talk (stream_at plan.streams stream) (λ e. Request e.talker (Hush e.id)) (λ e. tt)
  kind_planned (kinds.Listen station stream) = no_talk (stream_at plan.streams stream) (λ e. Request station (Listen e.id)) (λ e. tt)
  kind_planned (kinds.Unlisten station stream) = no_talk (stream_at plan.streams stream) (λ e. Request station (Unlisten e.id)) (λ e. tt)
  kind_planned (kinds.Lose from to index) = tt
  kind_planned (kinds.Repeat from to index) = tt
  kind_planned (kinds.Forge from to index app octets) = tt

  with_planned : (n : ℕ) (o : Option WorldEvent) (later : List (ℕ × WorldEvent)) → IfSome o (IsPlanned plan)
      → AllByRecursion (IsPlanned plan) (map (λ (e : ℕ × WorldEvent). e.1) later) → AllByRecursion (IsPlanned plan) (map (λ (e : ℕ × WorldEvent). e.1) (with_event n o later))
  with_planned n None later here rest = rest
  with_planned n (Some event) later here rest = (here, rest)

  script_planned : (t n : ℕ) (entries : List EventEntry) → AllByRecursion (IsPlanned plan) (map (λ (e : ℕ × WorldEvent). e.1) (scripted_from plan.tree.links plan.streams t n entries))
  script_planned t n [] = tt
  script_planned t n (e ∷ entries) = by (e.tick == t) (script_planned t (n + 1) entries)
    where
      by : (b : Bool) → AllByRecursion (IsPlanned plan) (map (λ (e : ℕ × WorldEvent). e.1) (scripted_from plan.tree.links plan.streams t (n + 1) entries))
          → AllByRecursion (IsPlanned plan) (map (λ (e : ℕ × WorldEvent). e.1)
          (if b then with_event n (event_of plan.tree.links plan.streams e.kind) (scripted_from plan.tree.links plan.streams t (n + 1) entries)
          else scripted_from plan.tree.links plan.streams t (n + 1) entries))
      by true later = with_planned n (event_of plan.tree.links plan.streams e.kind) (scripted_from plan.tree.links plan.streams t (n + 1) entries) (kind_planned e.kind) later
      by false later = later

  made_planned : (n : NodeNo) (made : List NodeStep) → AllByRecursion (IsPlanned plan) (map (λ (st : NodeStep). Port n st.port st.step) made)
  made_planned n [] = tt
  made_planned n (st ∷ made) = (tt, made_planned n made)

  steps_planned : (nodes : List NodeSteps) → AllByRecursion (IsPlanned plan) (step_events nodes)
  steps_planned [] = tt
  steps_planned (ns ∷ nodes) = each_append (IsPlanned plan) (map (λ (st : NodeStep). Port ns.node st.port st.step) ns.steps) (step_events nodes) (made_planned ns.node ns.steps) (steps_planned nodes)

  carries_planned : (ports : List EgressPort) → AllByRecursion (IsPlanned plan) (map Carry ports ++ (Clock ∷ []))
  carries_planned [] = (tt, tt)
  carries_planned (p ∷ ports) = (tt, carries_planned ports)

  pub run_planned : (t : ℕ) (ticks : List Tick) → AllByRecursion (IsPlanned plan) (events_from plan t ticks)
  run_planned t [] = tt
  run_planned t (tick ∷ ticks) =
      each_append (IsPlanned plan) (tick_events plan t tick) (events_from plan (suc t) ticks)
      (each_append (IsPlanned plan) (map (λ e. e.1) (script_at plan t) ++ step_events tick.steps) (closing_events plan.tree)
      (each_append (IsPlanned plan) (map (λ e. e.1) (script_at plan t)) (step_events tick.steps) (script_planned t 1 plan.events) (steps_planned tick.steps))
      (carries_planned (link_ports plan.tree)))
      (run_planned (suc t) ticks)

  -- ---- one Talker of a stream

  -- a stream that is talked is that of an entry of the plan at the station
  record IsTalked (x : ℕ) (stream : StreamId) : Type 0 where
    place : ℕ
    entry : StreamEntry
    at : slice_get plan.streams place ≡ Some entry
    station : entry.talker.0 ≡ x
    id : entry.id.0 ≡ stream.0

  talked : (x : ℕ) (stream : StreamId) (talks : List Talker) → AllByRecursion (IsTalkOfPlan plan x) talks → is_some (talk_of stream talks) ≡ true → IsTalked x stream
  talked x stream [] h some = cc
  talked x stream (t ∷ talks) h some = by (t.stream.0 == stream.0) refl some (talked x stream talks h.1)
    where
      by : (b : Bool) → (t.stream.0 == stream.0) ≡ b → is_some (if b then Some t else talk_of stream talks) ≡ true → (is_some (talk_of stream talks) ≡ true → IsTalked x stream) → IsTalked x stream
      by true is some later =
          record { place = h.0.place; entry = h.0.entry; at = h.0.at; station = h.0.station; id = ap (λ (u : Talker). u.stream.0) (sym h.0.states) ∙ same_number t.stream.0 stream.0 is }
      by false is some later = later some

  -- an entry at a place is read there
  read_at : (es : List StreamEntry) (i : ℕ) (e d : StreamEntry) → slice_get es i ≡ Some e → get_or es i d ≡ e
  read_at [] i e d is = cc
  read_at (x ∷ es) zero e d is = cc
  read_at (x ∷ es) (suc i) e d is = read_at es i e d is

  not_below : (i j : ℕ) (a b : StreamEntry) → slice_get plan.streams i ≡ Some a → slice_get plan.streams j ≡ Some b → a.id.0 ≡ b.id.0 → i < j → ⊥
  not_below i j a b at_i at_j same below =
      rules.stream_ids i j a below (slice_get_within plan.streams j b at_j)
      (ap (λ (e : StreamEntry). e.id.0) (read_at plan.streams i a a at_i) ∙ (same ∙ ap (λ (e : StreamEntry). e.id.0) (sym (read_at plan.streams j b a at_j))))

  one_place : (i j : ℕ) (a b : StreamEntry) → slice_get plan.streams i ≡ Some a → slice_get plan.streams j ≡ Some b → a.id.0 ≡ b.id.0 → i ≡ j
  one_place i j a b at_i at_j same = by (decide i j)
    where
      by : (i ≡ j) ⊎ (i ≢ j) → i ≡ j
      by (inl e) = e
      by (inr ne) = other (apart i j ne)
        where
          other : (i < j) ⊎ (j < i) → i ≡ j
          other (inl below) = absurd (not_below i j a b at_i at_j same below)
          other (inr above) = absurd (not_below j i b a at_j at_i (sym same) above)

  pub one_talker : (w : WorldState) → AreTalksOfPlan plan w → HasOneTalker w
  one_talker w talks x y s t stream at_x at_y has_x has_y =
      let a = talked (x + 1) stream s.streams.talks (talks x s at_x) has_x in
      let b = talked (y + 1) stream t.streams.talks (talks y t at_y) has_y in
      let place = one_place a.place b.place a.entry b.entry a.at b.at (a.id ∙ sym b.id) in
      let both : Some a.entry ≡ Some b.entry = sym a.at ∙ (ap (λ (k : ℕ). slice_get plan.streams k) place ∙ b.at) in
      let one : a.entry ≡ b.entry = cc in
      let number = sym a.station ∙ (ap (λ (e : StreamEntry). e.talker.0) one ∙ b.station) in
      omega (arith, number)
