-- What is kept of a run while it goes on is what its ends say.
use Rattle.std.proofs.Common.{◌≡◌, ℕ, suc, ◌+◌, ◌≤◌, ◌==◌, Bool, true, false, ◌&&◌, if◌then◌else◌, List, [], ◌∷◌, ◌++◌, length, map, Option, Some, None, refl, sym, ap, subst, ◌∙◌, append_assoc, append-nil, arith}
use Rattle.std.specs.Prelude.{option_map, slice_get}
use Rattle.std.specs.{List.list_all, Option.option_map_or}
use Rattle.srp_base.proofs.Lists.{get-all, mapped_length, paired}
use Rattle.topology_file.specs.declared.entries.StreamEntry.{StreamEntry}
use Rattle.topology_file.specs.{Plan.Plan, Scenario.KeepsRules}
use Rattle.node_core.specs.State.{NodeState}
use Rattle.world_core.specs.declared.journal.Tick.{Tick}
use Rattle.world_core.specs.{World.WorldState, World.world_after, Start.world_of, Ticks.tick_events, Ticks.after_script, Ticks.AreCanonicalTicks, Ticks.IsCanonicalTick, Ticks.IsLegalTick, Ticks.LeadTo}
use Rattle.srp_schedule.specs.Watch.{ends_from, ends_of, having_seen}
use Rattle.wishes.specs.declared.{moments.Moments.Moments, moments.Span.Span, standing.Standing.Standing}
use Rattle.wishes.specs.RunMoments.{are_same_standings, calm_spans, is_calm, joined, moments_of, one_tick, settled_in, standing_at, standings_of, stands_so}
use Rattle.wishes.specs.Watching.{Watched, after_end, all_rest, ended, events_to, going_on, is_disturbed, is_idle, resting, rests_at, settled_seen, standings_seen, standings_since, undisturbed, unwatched}
use Rattle.wishes.proofs.{RestLemmas.StepLaws, RestLemmas.IsClocked, RestLemmas.count-events, RestLemmas.get-mapped, RestLemmas.node-same, RestLemmas.streams_at, RestLemmas.tick-streams, ScriptLemmas.AreToCome, ScriptLemmas.all-to-come, ScriptLemmas.do-not-fall, ScriptLemmas.next-to-come, ScriptLemmas.rests-parts, ScriptLemmas.script-leaves, ScriptLemmas.undisturbed-length, SinceLemmas.same-standings, SinceLemmas.standings-exact, SinceLemmas.standings-fresh, StandingLemmas.standings_itself, StandingLemmas.standings_same}

-- ---- since when nothing changes

module _ (streams : List StreamEntry) where
  -- what is kept of the moment since when nothing changes
  abbrev pub since : List Standing → ℕ → List (ℕ × WorldState) → ℕ
  since standings settled [] = settled
  since standings settled (end ∷ later) =
      since (standings_of streams end.1) (if are_same_standings standings (standings_of streams end.1) then settled else end.0) later

  -- while all stands so, that moment stays
  pub since_is : (standings : List Standing) (settled : ℕ) (ends : List (ℕ × WorldState))
      → since standings settled ends ≡ (if list_all (stands_so streams standings) ends then settled else settled_in streams ends)
  since_is standings settled [] = refl
  since_is standings settled (end ∷ later) =
      by (are_same_standings standings (standings_of streams end.1)) refl (since_is (standings_of streams end.1) settled later) (since_is (standings_of streams end.1) end.0 later)
    where
      new : List Standing
      new = standings_of streams end.1

      inner : (c : Bool) → (if c then settled else settled_in streams later) ≡ (if c then settled else (if c then end.0 else settled_in streams later))
      inner true = refl
      inner false = refl

      by : (b : Bool) → are_same_standings standings new ≡ b
          → since new settled later ≡ (if list_all (stands_so streams new) later then settled else settled_in streams later)
          → since new end.0 later ≡ (if list_all (stands_so streams new) later then end.0 else settled_in streams later)
          → since new (if b then settled else end.0) later
          ≡ (if b && list_all (stands_so streams standings) later then settled else settled_in streams (end ∷ later))
      by true is kept changed =
          let same : standings ≡ new = standings_same standings new is in
          kept
          ∙ (inner (list_all (stands_so streams new) later)
          ∙ ap (λ (ms : List Standing). if list_all (stands_so streams ms) later then settled else settled_in streams (end ∷ later)) (sym same))
      by false is kept changed = changed

-- ---- the stretches

-- the ticks of some ends follow one another, from tick t on
abbrev pub AreFrom : ℕ → List (ℕ × WorldState) → Type 0
AreFrom t [] = Unit {0}
AreFrom t (end ∷ later) = (end.0 ≡ t) × AreFrom (suc t) later

pub ends_are_from : (plan : Plan) (t : ℕ) (w : WorldState) (ticks : List Tick) → AreFrom t (ends_from plan t w ticks)
ends_are_from plan t w [] = tt
ends_are_from plan t w (tick ∷ ticks) = (refl, ends_are_from plan (suc t) (world_after (tick_events plan t tick) w) ticks)

-- no stretch begins before tick t
abbrev BeginFrom : ℕ → List Span → Type 0
BeginFrom t [] = Unit {0}
BeginFrom t (span ∷ spans) = t ≤ span.from

begin_later : (t : ℕ) (spans : List Span) → BeginFrom (suc t) spans → BeginFrom t spans
begin_later t [] h = tt
begin_later t (span ∷ spans) h = omega (arith, h)

joined_from : (t : ℕ) (spans : List Span) → BeginFrom t (joined (one_tick t) spans)
joined_from t [] = omega arith
joined_from t (next ∷ spans) = by (next.from == t + 1)
  where
    by : (b : Bool) → BeginFrom t (if b then (record { from = t; to = next.to }) ∷ spans else one_tick t ∷ next ∷ spans)
    by true = omega arith
    by false = omega arith

spans_from : (t : ℕ) (ends : List (ℕ × WorldState)) → AreFrom t ends → BeginFrom t (calm_spans ends)
spans_from t [] h = tt
spans_from t (end ∷ later) h = by (is_calm end.1) (spans_from (suc t) later h.1)
  where
    by : (b : Bool) → BeginFrom (suc t) (calm_spans later) → BeginFrom t (if b then joined (one_tick end.0) (calm_spans later) else calm_spans later)
    by true from = subst (λ (k : ℕ). BeginFrom t (joined (one_tick k) (calm_spans later))) (sym h.0) (joined_from t (calm_spans later))
    by false from = begin_later t (calm_spans later) from

-- a stretch that ended two ticks before others or more stays by itself
apart : (span : Span) (t : ℕ) (spans : List Span) → span.to + 1 ≡ t → BeginFrom (suc t) spans → joined span spans ≡ span ∷ spans
apart span t [] is from = refl
apart span t (next ∷ spans) is from = grind (arith, is, from)

-- one tick more belongs to the stretch before it
joined_twice : (span : Span) (t : ℕ) (spans : List Span) → span.to + 1 ≡ t
    → joined span (joined (one_tick t) spans) ≡ joined (record { from = span.from; to = t }) spans
joined_twice span t [] is = grind (arith, is)
joined_twice span t (next ∷ spans) is = by (next.from == t + 1) refl
  where
    by : (b : Bool) → (next.from == t + 1) ≡ b
        → joined span (if b then (record { from = t; to = next.to }) ∷ spans else one_tick t ∷ next ∷ spans)
        ≡ (if b then (record { from = span.from; to = next.to }) ∷ spans else (record { from = span.from; to = t }) ∷ next ∷ spans)
    by true e = grind (arith, is)
    by false e = grind (arith, is)

-- the stretch that goes on, before others
abbrev before_others : Option Span → List Span → List Span
before_others None spans = spans
before_others (Some span) spans = joined span spans

-- it goes on up to the tick before this one
abbrev GoesOnTo : ℕ → Option Span → Type 0
GoesOnTo t None = Unit {0}
GoesOnTo t (Some span) = span.to + 1 ≡ t

-- what is kept of the stretches
abbrev pub kept_spans : List Span → Option Span → List (ℕ × WorldState) → List Span
kept_spans past latest [] = ended past latest
kept_spans past latest (end ∷ later) =
    kept_spans (if is_calm end.1 then past else ended past latest) (if is_calm end.1 then Some (going_on end.0 latest) else None) later

kept_are : (t : ℕ) (past : List Span) (latest : Option Span) (ends : List (ℕ × WorldState)) → AreFrom t ends → GoesOnTo t latest
    → kept_spans past latest ends ≡ past ++ before_others latest (calm_spans ends)
kept_are t past None [] h g = sym (append-nil past)
kept_are t past (Some span) [] h g = refl
kept_are t past latest (end ∷ later) h g = by (is_calm end.1) (λ p o k. kept_are (suc t) p o later h.1 k)
  where
    number : end.0 ≡ t
    number = h.0

    later_calm : (o : Option Span) → GoesOnTo t o
        → past ++ joined (going_on end.0 o) (calm_spans later) ≡ past ++ before_others o (joined (one_tick end.0) (calm_spans later))
    later_calm None k = refl
    later_calm (Some span) k =
        ap (λ (ss : List Span). past ++ ss) (sym (joined_twice span end.0 (calm_spans later) (k ∙ sym number)))

    goes_on : (o : Option Span) → (going_on end.0 o).to + 1 ≡ suc t
    goes_on None = omega (arith, number)
    goes_on (Some span) = omega (arith, number)

    later_not : (o : Option Span) → GoesOnTo t o → ended past o ++ calm_spans later ≡ past ++ before_others o (calm_spans later)
    later_not None k = refl
    later_not (Some span) k =
        append_assoc past (span ∷ []) (calm_spans later)
        ∙ ap (λ (ss : List Span). past ++ ss) (sym (apart span t (calm_spans later) k (spans_from (suc t) later h.1)))

    by : (b : Bool) → ((p : List Span) (o : Option Span) → GoesOnTo (suc t) o → kept_spans p o later ≡ p ++ before_others o (calm_spans later))
        → kept_spans (if b then past else ended past latest) (if b then Some (going_on end.0 latest) else None) later
        ≡ past ++ before_others latest (if b then joined (one_tick end.0) (calm_spans later) else calm_spans later)
    by true rest = rest past (Some (going_on end.0 latest)) (goes_on latest) ∙ later_calm latest g
    by false rest = rest (ended past latest) None tt ∙ later_not latest g

-- ---- both, over all ends

-- before a tick nothing is known, or which nodes are idle and what stands
pub data Knows (s : Watched) (v : WorldState) : Type 0 where
  nothing : s.idle ≡ [] → Knows s v
  before : s.idle ≡ map is_idle v.nodes → s.standings ≡ standings_of s.streams v → Knows s v

-- what is seen at the end of a tick is what stands, and since when
abbrev pub Seen : Watched → ℕ → WorldState → Type 0
Seen s t w =
    (standings_seen s t w ≡ standings_of s.streams w)
    × (settled_seen s t w ≡ (if are_same_standings s.standings (standings_of s.streams w) then s.settled else t))

module _ (s : Watched) (t : ℕ) (w : WorldState) where
  abbrev standings_by : List Bool → List Standing
  standings_by rests = if all_rest rests then s.standings else standings_since s.streams rests s.standings 0 w.nodes

  abbrev settled_by : List Bool → ℕ
  settled_by rests =
      if all_rest rests then s.settled
      else if are_same_standings s.standings (standings_since s.streams rests s.standings 0 w.nodes) then s.settled
      else t

  -- where no node is known to rest
  fresh_seen : resting s t ≡ [] → Seen s t w
  fresh_seen h =
      let now : standings_since s.streams [] s.standings 0 w.nodes ≡ standings_of s.streams w = standings-fresh s.streams s.standings 0 w.nodes in
      (ap standings_by h ∙ now, ap settled_by h ∙ ap (λ (ms : List Standing). if are_same_standings s.standings ms then s.settled else t) now)

  -- where some are
  known_seen : standings_since s.streams (resting s t) s.standings 0 w.nodes ≡ standings_of s.streams w
      → (all_rest (resting s t) ≡ true → s.standings ≡ standings_of s.streams w) → Seen s t w
  known_seen now same = by (all_rest (resting s t)) refl
    where
      by : (b : Bool) → all_rest (resting s t) ≡ b → Seen s t w
      by true e =
          let is : s.standings ≡ standings_of s.streams w = same e in
          let first : standings_by (resting s t) ≡ s.standings = ap (λ (b : Bool). if b then s.standings else standings_since s.streams (resting s t) s.standings 0 w.nodes) e in
          let second : settled_by (resting s t) ≡ s.settled =
          ap (λ (b : Bool). if b then s.settled else if are_same_standings s.standings (standings_since s.streams (resting s t) s.standings 0 w.nodes) then s.settled else t) e
          in
          let alike : are_same_standings s.standings (standings_of s.streams w) ≡ true = ap (λ (ms : List Standing). are_same_standings s.standings ms) (sym is) ∙ standings_itself s.standings in
          (first ∙ is, second ∙ sym (ap (λ (b : Bool). if b then s.settled else t) alike))
      by false e =
          let first : standings_by (resting s t) ≡ standings_since s.streams (resting s t) s.standings 0 w.nodes =
          ap (λ (b : Bool). if b then s.standings else standings_since s.streams (resting s t) s.standings 0 w.nodes) e
          in
          let second : settled_by (resting s t) ≡ (if are_same_standings s.standings (standings_since s.streams (resting s t) s.standings 0 w.nodes) then s.settled else t) =
          ap (λ (b : Bool). if b then s.settled else if are_same_standings s.standings (standings_since s.streams (resting s t) s.standings 0 w.nodes) then s.settled else t) e
          in
          (first ∙ now, second ∙ ap (λ (ms : List Standing). if are_same_standings s.standings ms then s.settled else t) now)

-- where all rest each does
each_rests : (rests : List Bool) → all_rest rests ≡ true → list_all (λ b. b) rests ≡ true
each_rests rests h = by (length rests == 0) h
  where
    by : (none : Bool) → (if none then false else list_all (λ b. b) rests) ≡ true → list_all (λ b. b) rests ≡ true
    by true h = absurd (let no : false ≡ true = h in cc)
    by false h = h

-- the flag of an idle node
idle_flag : (nodes : List NodeState) (x : ℕ) (s : NodeState) → slice_get nodes x ≡ Some s → rests_at (map is_idle nodes) x ≡ is_idle s
idle_flag nodes x s h = ap (λ (o : Option Bool). option_map_or (λ b. b) o false) (get-mapped is_idle nodes x ∙ ap (option_map is_idle) h)

-- a node that is known to rest in a tick is idle, and the events of the tick leave it
abbrev Rests : Plan → ℕ → WorldState → List Bool → Type 0
Rests plan t v rests =
    (x : ℕ) (s : NodeState) → slice_get v.nodes x ≡ Some s → rests_at rests x ≡ true
    → (is_idle s ≡ true) × (slice_get (after_script plan t v).nodes x ≡ Some s)

module _ (laws : StepLaws) (plan : Plan) (t : ℕ) (v : WorldState) (tick : Tick) (legal : IsLegalTick plan t v tick) (rests : List Bool) (rest : Rests plan t v rests) (streams : List StreamEntry) where
  abbrev w : WorldState
  w = world_after (tick_events plan t tick) v

  few : length w.nodes ≡ length v.nodes
  few = count-events (tick_events plan t tick) v

  clocked : (x : ℕ) (s : NodeState) → slice_get v.nodes x ≡ Some s → rests_at rests x ≡ true → IsClocked (streams_at x w) s.streams
  clocked x s h r = let known = rest x s h r in tick-streams laws x s known.0 plan t v tick legal known.1

  stood : (x : ℕ) (s u : NodeState) → slice_get v.nodes x ≡ Some s → slice_get w.nodes x ≡ Some u → rests_at rests x ≡ true → standing_at streams s ≡ standing_at streams u
  stood x s u h k r = node-same streams x w s u (clocked x s h r) k

  by_rests : standings_since streams rests (standings_of streams v) 0 w.nodes ≡ standings_of streams w
  by_rests = standings-exact streams rests (standings_of streams v) 0 w.nodes (λ i k u is at r.
      let place : k ≡ i = omega (arith, is) in
      let here : slice_get w.nodes k ≡ Some u = ap (slice_get w.nodes) place ∙ at in
      let was = paired v.nodes w.nodes k u (sym few) here in
      get-mapped (standing_at streams) v.nodes k ∙ (ap (option_map (standing_at streams)) was.1 ∙ ap (λ (s : Standing). Some s) (stood k was.0 u was.1 here r)))

  all_idle : length rests ≡ length v.nodes → all_rest rests ≡ true → standings_of streams v ≡ standings_of streams w
  all_idle many all = same-standings streams v.nodes w.nodes (sym few) (λ x s u at_s at_u.
      let flag = paired rests v.nodes x s many at_s in
      let up : flag.0 ≡ true = get-all (λ (b : Bool). b) rests x flag.0 (each_rests rests all) flag.1 in
      stood x s u at_s at_u (ap (λ (o : Option Bool). option_map_or (λ b. b) o false) flag.1 ∙ up))

module _ (laws : StepLaws) (plan : Plan) where
  tick_seen : (t : ℕ) (v : WorldState) (tick : Tick) (s : Watched) → IsLegalTick plan t v tick → s.streams ≡ plan.streams → AreToCome plan t s.script → Knows s v
      → Seen s t (world_after (tick_events plan t tick) v)
  tick_seen t v tick s legal streams come (nothing idle) =
      fresh_seen s t (world_after (tick_events plan t tick) v) (ap (λ (flags : List Bool). undisturbed s.streams (events_to t s.script) 0 flags) idle)
  tick_seen t v tick s legal streams come (before idle is) =
      let w' : WorldState = world_after (tick_events plan t tick) v in
      let many : length (resting s t) ≡ length v.nodes =
      undisturbed-length s.streams (events_to t s.script) 0 s.idle ∙ (ap (λ (flags : List Bool). length flags) idle ∙ mapped_length is_idle v.nodes)
      in
      known_seen s t w'
      (ap (λ (old : List Standing). standings_since s.streams (resting s t) old 0 w'.nodes) is ∙ by_rests laws plan t v tick legal (resting s t) rest s.streams)
      (λ all. is ∙ all_idle laws plan t v tick legal (resting s t) rest s.streams many all)
    where
      rest : Rests plan t v (resting s t)
      rest x u h r =
          let parts = rests-parts s.streams (events_to t s.script) 0 x x s.idle (omega arith) r in
          let flag : is_idle u ≡ true = sym (idle_flag v.nodes x u h) ∙ (ap (λ (flags : List Bool). rests_at flags x) (sym idle) ∙ parts.0) in
          let none : is_disturbed plan.streams (events_to t s.script) x ≡ false =
          ap (λ (es : List StreamEntry). is_disturbed es (events_to t s.script) x) (sym streams) ∙ parts.1
          in
          (flag, script-leaves plan t s.script x v come none ∙ h)

  pub seen_settled : (ticks : List Tick) (t : ℕ) (v : WorldState) (last : ℕ) (end : WorldState) (s : Watched) → LeadTo (IsCanonicalTick plan) plan t v ticks last end
      → s.streams ≡ plan.streams → AreToCome plan t s.script → Knows s v
      → (having_seen after_end s (ends_from plan t v ticks)).settled ≡ since s.streams s.standings s.settled (ends_from plan t v ticks)
  seen_settled [] t v last end s lead streams come knows = refl
  seen_settled (tick ∷ ticks) t v last end s lead streams come knows =
      let v' : WorldState = world_after (tick_events plan t tick) v in
      let seen : Seen s t v' = tick_seen t v tick s lead.0.legal streams come knows in
      seen_settled ticks (suc t) v' last end (after_end s t v') lead.1 streams (next-to-come plan t s.script come) (before refl seen.0)
      ∙ (ap (λ (ms : List Standing). since s.streams ms (settled_seen s t v') (ends_from plan (suc t) v' ticks)) seen.0
      ∙ ap (λ (n : ℕ). since s.streams (standings_of s.streams v') n (ends_from plan (suc t) v' ticks)) seen.1)

pub seen_spans : (s : Watched) (ends : List (ℕ × WorldState))
    → ended (having_seen after_end s ends).past (having_seen after_end s ends).latest ≡ kept_spans s.past s.latest ends
seen_spans s [] = refl
seen_spans s (end ∷ later) = seen_spans (after_end s end.0 end.1) later

-- before the first tick nothing stands; what is kept since then is since when nothing changes
pub settled_is : (streams : List StreamEntry) (plan : Plan) (w : WorldState) (ticks : List Tick)
    → since streams [] 0 (ends_from plan 0 w ticks) ≡ settled_in streams (ends_from plan 0 w ticks)
settled_is streams plan w [] = refl
settled_is streams plan w (tick ∷ ticks) = since_is streams [] 0 ((0, v) ∷ later) ∙ by (are_same_standings [] (standings_of streams v)) refl
  where
    v : WorldState
    v = world_after (tick_events plan 0 tick) w

    later : List (ℕ × WorldState)
    later = ends_from plan 1 v ticks

    by : (b : Bool) → are_same_standings [] (standings_of streams v) ≡ b
        → (if b && list_all (stands_so streams []) later then 0 else settled_in streams ((0, v) ∷ later)) ≡ settled_in streams ((0, v) ∷ later)
    by true is =
        subst (λ (ms : List Standing). (if list_all (stands_so streams ms) later then 0 else settled_in streams ((0, v) ∷ later)) ≡ settled_in streams ((0, v) ∷ later))
        (sym (standings_same [] (standings_of streams v) is)) (inner (list_all (stands_so streams (standings_of streams v)) later))
      where
        inner : (c : Bool) → (if c then 0 else (if c then 0 else settled_in streams later)) ≡ (if c then 0 else settled_in streams later)
        inner true = refl
        inner false = refl
    by false is = refl

pub spans_are : (plan : Plan) (w : WorldState) (ticks : List Tick) → kept_spans [] None (ends_from plan 0 w ticks) ≡ calm_spans (ends_from plan 0 w ticks)
spans_are plan w ticks = kept_are 0 [] None (ends_from plan 0 w ticks) (ends_are_from plan 0 w ticks) tt

abbrev moments_with : ℕ → List Span → Moments
moments_with settled quiet = record { settled = settled; quiet = quiet }

-- what one says who has seen all ends is what they say
pub moments_are : StepLaws → (plan : Plan) (ticks : List Tick) (last : WorldState) (start end : Watched) (m : Moments) → KeepsRules plan → AreCanonicalTicks plan ticks last
    → start ≡ unwatched plan.streams plan.events → end ≡ having_seen after_end start (ends_of plan ticks)
    → m.settled ≡ end.settled → m.quiet ≡ ended end.past end.latest → m ≡ moments_of plan ticks
moments_are laws plan ticks last start end m rules lead begins sees settled quiet =
    let ends : List (ℕ × WorldState) = ends_of plan ticks in
    let first : Watched = unwatched plan.streams plan.events in
    let all : end ≡ having_seen after_end first ends = sees ∙ ap (λ (s : Watched). having_seen after_end s ends) begins in
    let come = all-to-come plan (do-not-fall plan.events rules.events_order) in
    let one : m.settled ≡ settled_in plan.streams ends =
    settled
    ∙ (ap (λ (s : Watched). s.settled) all
    ∙ (seen_settled laws plan ticks 0 (world_of plan) plan.ticks last first lead refl come (nothing refl) ∙ settled_is plan.streams plan (world_of plan) ticks))
    in
    let two : m.quiet ≡ calm_spans ends =
    quiet ∙ (ap (λ (s : Watched). ended s.past s.latest) all ∙ (seen_spans first ends ∙ spans_are plan (world_of plan) ticks))
    in
    ap (λ (k : ℕ). moments_with k m.quiet) one ∙ ap (λ (ss : List Span). moments_with (settled_in plan.streams ends) ss) two
