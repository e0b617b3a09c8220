-- The bound behind a wish is the one that `delays` prints.
use Rattle.std.proofs.Common.{◌≡◌, ℕ, Bool, true, false, if◌then◌else◌, List, [], length, Option, Some, None, refl, sym, ap, ◌∙◌}
use Rattle.std.specs.Prelude.{option_map, option_and_then, slice_get, ◌==◌}
use Rattle.std.specs.Int.{div_ceil}
use Rattle.std.proofs.lemmas.Bool.{eqb-true}
use Rattle.srp_base.specs.declared.{numbers.EgressPort.EgressPort, numbers.NodeNo.NodeNo, numbers.StreamId.StreamId}
use Rattle.tree_topology.specs.Walk.{path_between}
use Rattle.msrp.specs.Side.{has_listen}
use Rattle.node_core.specs.State.{NodeState}
use Rattle.topology_file.specs.declared.entries.StreamEntry.{StreamEntry}
use Rattle.frame_flow.specs.Copies.{flow_at}
use Rattle.scenario_frames.specs.PlanFrames.{plan_frames}
use Rattle.class_delays.specs.declared.delays.FedStream.{FedStream}
use Rattle.class_delays.proofs.Finds.{found}
use Rattle.scenario_delays.specs.declared.answers.StreamAnswer.{StreamAnswer}
use Rattle.scenario_delays.specs.Facts.{bounds_of}
use Rattle.report_words.specs.Names.{name_of}
use Rattle.delay_report.specs.{Lines.delay_line, Seen.longest_of, Seen.taken_at, Text.DelayRun, Text.last_of, Text.line_at, Text.line_on, Text.line_to, Text.reckoned_in, Text.station_delay}
use Rattle.wishes.specs.declared.wish.Wish.{Wish}
use Rattle.wishes.specs.Within.{IsPrinted, said_of, within_at, within_for, within_of, within_to}

module _ (r : DelayRun) (l : NodeNo) (a : StreamAnswer) where
  abbrev path : List EgressPort
  path = path_between r.plan.tree.links a.stream.talker.0 l.0

  -- the line with this bound
  abbrev HasLine : ℕ → Type 0
  HasLine t =
      (seen frames : ℕ) × (line_on r (name_of r.plan.nodes l) a path ≡ delay_line a.stream.id (name_of r.plan.nodes l) (length path) t seen frames)

  abbrev times : EgressPort → List ℕ
  times last = taken_at a.stream.id (plan_frames r.plan) (flow_at r.flows last)

  -- where there is a bound, it is that of the line
  given : (t : ℕ) → within_to r.plan r.facts l a ≡ Some t → HasLine t
  given t h = by-port (last_of path) refl h
    where
      by-fed : (last : EgressPort) (o : Option FedStream) → option_map (λ (f : FedStream). div_ceil f.spent 1000) o ≡ Some t
          → (seen frames : ℕ) × (line_to (name_of r.plan.nodes l) a path (times last) o ≡ delay_line a.stream.id (name_of r.plan.nodes l) (length path) t seen frames)
      by-fed last None h = absurd (let no : None ≡ Some t = h in cc)
      by-fed last (Some f) h =
          let seen : ℕ = div_ceil (longest_of (times last)) 1000 in
          let one : Some (div_ceil f.spent 1000) ≡ Some t = h in
          let same : div_ceil f.spent 1000 ≡ t = cc in
          (seen, length (times last), ap (λ (n : ℕ). delay_line a.stream.id (name_of r.plan.nodes l) (length path) n seen (length (times last))) same)

      by-port : (o : Option EgressPort) → last_of path ≡ o → option_and_then (within_at r.facts a) o ≡ Some t → HasLine t
      by-port None is h = absurd (let no : None ≡ Some t = h in cc)
      by-port (Some last) is h =
          let line = by-fed last (reckoned_in a last (bounds_of a.class r.facts)) h in
          (line.0, line.1, ap (λ (o : Option EgressPort). line_at r (name_of r.plan.nodes l) a path o) is ∙ line.2)

  -- where there is none, there is no line
  none : within_to r.plan r.facts l a ≡ None → line_on r (name_of r.plan.nodes l) a path ≡ []
  none h = by-port (last_of path) refl h
    where
      by-fed : (last : EgressPort) (o : Option FedStream) → option_map (λ (f : FedStream). div_ceil f.spent 1000) o ≡ None
          → line_to (name_of r.plan.nodes l) a path (times last) o ≡ []
      by-fed last None h = refl
      by-fed last (Some f) h = absurd (let no : Some (div_ceil f.spent 1000) ≡ None = h in cc)

      by-port : (o : Option EgressPort) → last_of path ≡ o → option_and_then (within_at r.facts a) o ≡ None → line_on r (name_of r.plan.nodes l) a path ≡ []
      by-port None is h = ap (λ (o : Option EgressPort). line_at r (name_of r.plan.nodes l) a path o) is
      by-port (Some last) is h =
          ap (λ (o : Option EgressPort). line_at r (name_of r.plan.nodes l) a path o) is
          ∙ by-fed last (reckoned_in a last (bounds_of a.class r.facts)) h

  -- a station that listens has the line, another has none
  listening : (state : NodeState) → has_listen a.stream.id state.streams ≡ true
      → station_delay r a l state ≡ line_on r (name_of r.plan.nodes l) a path
  listening state h = ap (λ (b : Bool). if b then line_on r (name_of r.plan.nodes l) a path else []) h

  either : (state : NodeState) → line_on r (name_of r.plan.nodes l) a path ≡ [] → station_delay r a l state ≡ []
  either state h = by (has_listen a.stream.id state.streams)
    where
      by : (b : Bool) → (if b then line_on r (name_of r.plan.nodes l) a path else []) ≡ []
      by true = h
      by false = refl

abbrev stream_numbered : ℕ → StreamId
stream_numbered n = record { 0 = n }

-- the bound behind a wish for the stream of an entry
for-entry : (r : DelayRun) (wish : Wish) (e : StreamEntry) → slice_get r.plan.streams wish.stream ≡ Some e
    → within_of r.plan r.facts wish ≡ within_for r.plan r.facts wish.station e
for-entry r wish e h = ap (λ (o : Option StreamEntry). option_and_then (within_for r.plan r.facts wish.station) o) h

pub printed : (r : DelayRun) (wish : Wish) (e : StreamEntry) (state : NodeState) (t : ℕ)
    → slice_get r.plan.streams wish.stream ≡ Some e → has_listen e.id state.streams ≡ true
    → within_of r.plan r.facts wish ≡ Some t → IsPrinted r e.id wish.station state t
printed r wish e state t at listens h = by (said_of e.id r.facts.answers) refl (sym (for-entry r wish e at) ∙ h)
  where
    by : (o : Option StreamAnswer) → said_of e.id r.facts.answers ≡ o → option_and_then (within_to r.plan r.facts wish.station) o ≡ Some t
        → IsPrinted r e.id wish.station state t
    by None is h = absurd (let no : None ≡ Some t = h in cc)
    by (Some a) is h =
        let pick = found (λ (s : StreamAnswer). s.stream.id.0 == e.id.0) r.facts.answers a is in
        let same : a.stream.id ≡ e.id = ap (λ (n : ℕ). stream_numbered n) (eqb-true a.stream.id.0 e.id.0 pick.0) in
        let line = given r wish.station a t h in
        record {
          said = a;
          listed = pick.1;
          stream_is = same;
          seen = line.0;
          frames = line.1;
          line = listening r wish.station a state (ap (λ (s : StreamId). has_listen s state.streams) same ∙ listens)
              ∙ (line.2
              ∙ ap (λ (s : StreamId). delay_line s (name_of r.plan.nodes wish.station) (length (path r wish.station a)) t line.0 line.1) same);
        }

pub missing : (r : DelayRun) (wish : Wish) (e : StreamEntry) (state : NodeState) (said : StreamAnswer)
    → slice_get r.plan.streams wish.stream ≡ Some e → said_of e.id r.facts.answers ≡ Some said
    → within_of r.plan r.facts wish ≡ None → station_delay r said wish.station state ≡ []
missing r wish e state said at is h =
    either r wish.station said state
    (none r wish.station said
    (sym (ap (λ (o : Option StreamAnswer). option_and_then (within_to r.plan r.facts wish.station) o) is)
    ∙ (sym (for-entry r wish e at) ∙ h)))
