-- A node that no event of a tick may change is left by the events of the tick.
use Rattle.std.proofs.Common.{◌≡◌, ◌≢◌, ◌⊎◌, inl, inr, ℕ, zero, suc, ◌+◌, ◌-◌, ◌<◌, ◌≤◌, ◌==◌, Bool, true, false, not, ◌&&◌, if◌then◌else◌, List, [], ◌∷◌, ◌++◌, length, map, take, drop, get_or, refl, sym, ap, subst, ◌∙◌, append_assoc, arith}
use Rattle.std.specs.Prelude.{nat_le, slice_get, Option, Some, None, IfSome, option_map}
use Rattle.std.specs.{Option.option_map_or, List.AllByRecursion, List.Sorted.IsNonDecreasing}
use Rattle.std.proofs.lemmas.{Bool.eqb-false, Bool.or_parts, Bool.Decides.nat_tests, Option.slice_get_within, List.length-map}
use Rattle.srp_base.proofs.{Arithmetic.decide, Arithmetic.same_where_equal, Lists.each_append, Lists.each_more, Lists.each_of, Lists.get_set_other}
use Rattle.srp_base.specs.declared.numbers.NodeNo.{NodeNo}
use Rattle.tree_topology.specs.declared.graph.Link.{Link}
use Rattle.topology_file.specs.declared.{entries.EventEntry.EventEntry, entries.EventKind.EventKind, entries.StreamEntry.StreamEntry}
use Rattle.topology_file.specs.declared.entries.EventKind.TheVariants as kinds
use Rattle.topology_file.specs.{Events.event_ticks, Plan.Plan}
use Rattle.node_core.specs.declared.{types.AppRequest.AppRequest, types.NodeEvent.NodeEvent}
use Rattle.node_core.specs.declared.types.AppRequest.TheVariants as asks
use Rattle.node_core.specs.declared.types.NodeEvent.TheVariants as node_events
use Rattle.node_core.specs.{State.NodeState, Step.node_step}
use Rattle.world_core.specs.declared.{events.WorldEvent.WorldEvent, events.WorldReply.TheVariants.Missed}
use Rattle.world_core.specs.declared.events.WorldEvent.TheVariants.{Request, Port, Lose, Repeat, Forge, Carry, Clock}
use Rattle.world_core.specs.{Ticks.after_script, Ticks.event_of, Ticks.script_at, Ticks.scripted_from, Ticks.stream_at, Ticks.talker_of_entry, Ticks.with_event, World.WorldState, World.after_step, World.node_at, World.world_after, World.world_step}
use Rattle.wishes.specs.Watching.{count_to, disturbs, events_past, events_to, is_at_place, is_disturbed, rests_at, undisturbed}

-- ---- an event that asks nothing of a node

-- an event asks something of another node than that at a place
abbrev pub Spares : ℕ → WorldEvent → Type 0
Spares x (Request n request) = n.0 - 1 ≢ x
Spares x (Port n port step) = ⊥
Spares x (Lose p index) = ⊥
Spares x (Repeat p index) = ⊥
Spares x (Forge p index wire) = ⊥
Spares x (Carry p) = ⊥
Spares x Clock = ⊥

request-spares : (x : ℕ) (n : NodeNo) (request : AppRequest) (w : WorldState) → n.0 - 1 ≢ x
    → slice_get (world_step (Request n request) w).0.nodes x ≡ slice_get w.nodes x
request-spares x n request w ne = by (node_at n w)
  where
    event : NodeEvent
    event = node_events.Request request

    by : (o : Option NodeState) → slice_get (option_map_or (λ (s : NodeState). after_step n (node_step (node_events.Request request) s) w) o (w, Missed)).0.nodes x ≡ slice_get w.nodes x
    by None = refl
    by (Some s) = get_set_other w.nodes (n.0 - 1) x (node_step (node_events.Request request) s).0 ne

spared : (x : ℕ) (e : WorldEvent) (w : WorldState) → Spares x e → slice_get (world_step e w).0.nodes x ≡ slice_get w.nodes x
spared x (Request n request) w h = request-spares x n request w h
spared x (Port n port step) w h = absurd h
spared x (Lose p index) w h = absurd h
spared x (Repeat p index) w h = absurd h
spared x (Forge p index wire) w h = absurd h
spared x (Carry p) w h = absurd h
spared x Clock w h = absurd h

all-spared : (x : ℕ) (es : List (ℕ × WorldEvent)) (w : WorldState) → AllByRecursion (λ (e : ℕ × WorldEvent). Spares x e.1) es
    → slice_get (world_after (map (λ (e : ℕ × WorldEvent). e.1) es) w).nodes x ≡ slice_get w.nodes x
all-spared x [] w h = refl
all-spared x (e ∷ es) w h = all-spared x es (world_step e.1 w).0 h.1 ∙ spared x e.1 w h.0

-- ---- the events of a tick

module _ (links : List Link) (streams : List StreamEntry) (x t : ℕ) where
  -- where an entry is of this tick, its event spares the node
  abbrev SparesNow : EventEntry → Type 0
  SparesNow e = e.tick ≡ t → IfSome (event_of links streams e.kind) (Spares x)

  with-spared : (n : ℕ) (o : Option WorldEvent) (later : List (ℕ × WorldEvent)) → IfSome o (Spares x) → AllByRecursion (λ (e : ℕ × WorldEvent). Spares x e.1) later
      → AllByRecursion (λ (e : ℕ × WorldEvent). Spares x e.1) (with_event n o later)
  with-spared n None later here rest = rest
  with-spared n (Some event) later here rest = (here, rest)

  scripted-spared : (n : ℕ) (entries : List EventEntry) → AllByRecursion SparesNow entries → AllByRecursion (λ (e : ℕ × WorldEvent). Spares x e.1) (scripted_from links streams t n entries)
  scripted-spared n [] h = tt
  scripted-spared n (e ∷ entries) h = by (decide e.tick t) (scripted-spared (n + 1) entries h.1)
    where
      choose : (b : Bool) → (b ≡ true → IfSome (event_of links streams e.kind) (Spares x)) → AllByRecursion (λ (f : ℕ × WorldEvent). Spares x f.1) (scripted_from links streams t (n + 1) entries)
          → AllByRecursion (λ (f : ℕ × WorldEvent). Spares x f.1) (if b then with_event n (event_of links streams e.kind) (scripted_from links streams t (n + 1) entries) else scripted_from links streams t (n + 1) entries)
      choose true so rest = with-spared n (event_of links streams e.kind) (scripted_from links streams t (n + 1) entries) (so refl) rest
      choose false so rest = rest

      by : (e.tick ≡ t) ⊎ (e.tick ≢ t) → AllByRecursion (λ (f : ℕ × WorldEvent). Spares x f.1) (scripted_from links streams t (n + 1) entries) → AllByRecursion (λ (f : ℕ × WorldEvent). Spares x f.1) (scripted_from links streams t n (e ∷ entries))
      by (inl is) rest = choose (e.tick == t) (λ up. h.0 is) rest
      by (inr ne) rest = choose (e.tick == t) (λ up. absurd (ne (same_where_equal e.tick t up))) rest

  other-place : (n : NodeNo) → is_at_place x n ≡ false → n.0 - 1 ≢ x
  other-place n h e = eqb-false (n.0 - 1) x h e

  of-talker : (o : Option StreamEntry) (asked : StreamEntry → AppRequest) → option_map_or (λ (e : StreamEntry). is_at_place x e.talker) o false ≡ false
      → IfSome (option_map (λ (e : StreamEntry). Request e.talker (asked e)) o) (Spares x)
  of-talker None asked h = tt
  of-talker (Some e) asked h = other-place e.talker h

  of-station : (o : Option StreamEntry) (n : NodeNo) (asked : StreamEntry → AppRequest) → is_at_place x n ≡ false
      → IfSome (option_map (λ (e : StreamEntry). Request n (asked e)) o) (Spares x)
  of-station None n asked h = tt
  of-station (Some e) n asked h = other-place n h

  -- an event that doesn't disturb the node spares it
  kind-spares : (kind : EventKind) → disturbs streams x kind ≡ false → IfSome (event_of links streams kind) (Spares x)
  kind-spares (kinds.Declare station vid) h = other-place station h
  kind-spares (kinds.Withdraw station vid) h = other-place station h
  kind-spares (kinds.Talk stream) h = of-talker (stream_at streams stream) (λ e. asks.Talk (talker_of_entry e)) h
  kind-spares (kinds.Hush stream) h = of-talker (stream_at streams stream) (λ e. asks.Hush e.id) h
  kind-spares (kinds.Listen station stream) h = of-station (stream_at streams stream) station (λ e. asks.Listen e.id) h
  kind-spares (kinds.Unlisten station stream) h = of-station (stream_at streams stream) station (λ e. asks.Unlisten e.id) h
  kind-spares (kinds.Lose from to index) h = absurd (let no : true ≡ false = h in cc)
  kind-spares (kinds.Repeat from to index) h = absurd (let no : true ≡ false = h in cc)
  kind-spares (kinds.Forge from to index app octets) h = absurd (let no : true ≡ false = h in cc)

  now-spares : (events : List EventEntry) → is_disturbed streams events x ≡ false → AllByRecursion SparesNow events
  now-spares [] h = tt
  now-spares (e ∷ events) h =
      let parts = or_parts (disturbs streams x e.kind) (is_disturbed streams events x) h in
      ((λ is. kind-spares e.kind parts.0), now-spares events parts.1)

-- ---- the events that are still to come

-- the ticks of events don't fall
abbrev pub DoNotFall : List EventEntry → Type 0
DoNotFall [] = Unit {0}
DoNotFall (e ∷ events) = AllByRecursion (λ (f : EventEntry). e.tick ≤ f.tick) events × DoNotFall events

tick-at : (events : List EventEntry) (i : ℕ) (e : EventEntry) → slice_get events i ≡ Some e → get_or (event_ticks events) i 0 ≡ e.tick
tick-at [] i e h = cc
tick-at (f ∷ events) zero e h = let is : f ≡ e = cc in ap (λ (y : EventEntry). y.tick) is
tick-at (f ∷ events) (suc i) e h = tick-at events i e h

pub do-not-fall : (events : List EventEntry) → IsNonDecreasing (event_ticks events) → DoNotFall events
do-not-fall [] order = tt
do-not-fall (e ∷ events) order = (
  each_of (λ (f : EventEntry). e.tick ≤ f.tick) events
      (λ i f h.
      let below : i < length events = slice_get_within events i f h in
      let many : length (event_ticks events) ≡ length events = length-map events (λ (y : EventEntry). y.tick) in
      let first : get_or (event_ticks (e ∷ events)) 0 0 ≤ get_or (event_ticks (e ∷ events)) (suc i) 0 = order 0 (suc i) 0 (omega arith) (omega (arith, below, many)) in
      subst (λ (n : ℕ). e.tick ≤ n) (tick-at events i f h) first),
  do-not-fall events (λ i k d le below. order (suc i) (suc k) d (omega (arith, le)) (omega (arith, below))),
)

-- those up to a tick, and those behind
front-back : {X : Type 0} (n : ℕ) (xs : List X) → take n xs ++ drop n xs ≡ xs
front-back zero xs = refl
front-back (suc n) [] = refl
front-back {X} (suc n) (x ∷ xs) = ap (λ (ys : List X). x ∷ ys) (front-back n xs)

up-to : (t : ℕ) (events : List EventEntry) → AllByRecursion (λ (e : EventEntry). e.tick ≤ t) (events_to t events)
up-to t [] = tt
up-to t (e ∷ events) = by (nat_le e.tick t) refl (up-to t events)
  where
    by : (b : Bool) → nat_le e.tick t ≡ b → AllByRecursion (λ (f : EventEntry). f.tick ≤ t) (events_to t events)
        → AllByRecursion (λ (f : EventEntry). f.tick ≤ t) (take (if b then 1 + count_to t events else 0) (e ∷ events))
    by true is rest =
        let more : 1 + count_to t events ≡ suc (count_to t events) = omega arith in
        let low : e.tick ≤ t = grind (arith, nat_tests, is) in
        subst (λ (n : ℕ). AllByRecursion (λ (f : EventEntry). f.tick ≤ t) (take n (e ∷ events))) (sym more) (low, rest)
    by false is rest = tt

behind-are-later : (t : ℕ) (events : List EventEntry) → DoNotFall events → AllByRecursion (λ (e : EventEntry). t < e.tick) (events_past t events)
behind-are-later t [] h = tt
behind-are-later t (e ∷ events) h = by (nat_le e.tick t) refl (behind-are-later t events h.1)
  where
    by : (b : Bool) → nat_le e.tick t ≡ b → AllByRecursion (λ (f : EventEntry). t < f.tick) (events_past t events)
        → AllByRecursion (λ (f : EventEntry). t < f.tick) (drop (if b then 1 + count_to t events else 0) (e ∷ events))
    by true is rest =
        let more : 1 + count_to t events ≡ suc (count_to t events) = omega arith in
        subst (λ (n : ℕ). AllByRecursion (λ (f : EventEntry). t < f.tick) (drop n (e ∷ events))) (sym more) rest
    by false is rest =
        let high : t < e.tick = grind (arith, nat_tests, is) in
        (high, each_more (λ (f : EventEntry). e.tick ≤ f.tick) (λ (f : EventEntry). t < f.tick) events (λ f le. omega (arith, le, high)) h.0)

behind-do-not-fall : (n : ℕ) (events : List EventEntry) → DoNotFall events → DoNotFall (drop n events)
behind-do-not-fall zero events h = h
behind-do-not-fall (suc n) [] h = tt
behind-do-not-fall (suc n) (e ∷ events) h = behind-do-not-fall n events h.1

-- of a scenario's events these are those from a tick on
pub record AreToCome (plan : Plan) (t : ℕ) (script : List EventEntry) : Type 0 where
  pub done : List EventEntry
  pub all : plan.events ≡ done ++ script
  pub past : AllByRecursion (λ (e : EventEntry). e.tick < t) done
  pub order : DoNotFall script

pub all-to-come : (plan : Plan) → DoNotFall plan.events → AreToCome plan 0 plan.events
all-to-come plan h = record { done = []; all = refl; past = tt; order = h }

pub next-to-come : (plan : Plan) (t : ℕ) (script : List EventEntry) → AreToCome plan t script → AreToCome plan (suc t) (events_past t script)
next-to-come plan t script h =
    let now : List EventEntry = events_to t script in
    let parts : now ++ events_past t script ≡ script = front-back (count_to t script) script in
    record {
      done = h.done ++ now;
      all = h.all ∙ (ap (λ (es : List EventEntry). h.done ++ es) (sym parts) ∙ sym (append_assoc h.done now (events_past t script)));
      past = each_append (λ (e : EventEntry). e.tick < suc t) h.done now
          (each_more (λ (e : EventEntry). e.tick < t) (λ (e : EventEntry). e.tick < suc t) h.done (λ e lt. omega (arith, lt)) h.past)
          (each_more (λ (e : EventEntry). e.tick ≤ t) (λ (e : EventEntry). e.tick < suc t) now (λ e le. omega (arith, le)) (up-to t script));
      order = behind-do-not-fall (count_to t script) script h.order;
    }

-- a node that none of the events of a tick disturbs is left by them
pub script-leaves : (plan : Plan) (t : ℕ) (script : List EventEntry) (x : ℕ) (w : WorldState) → AreToCome plan t script
    → is_disturbed plan.streams (events_to t script) x ≡ false → slice_get (after_script plan t w).nodes x ≡ slice_get w.nodes x
script-leaves plan t script x w h none = all-spared x (script_at plan t) w (scripted-spared plan.tree.links plan.streams x t 1 plan.events each)
  where
    Now : EventEntry → Type 0
    Now e = e.tick ≡ t → IfSome (event_of plan.tree.links plan.streams e.kind) (Spares x)

    before : (e : EventEntry) → e.tick < t → e.tick ≡ t → IfSome (event_of plan.tree.links plan.streams e.kind) (Spares x)
    before e lt is = absurd (omega (arith, lt, is))

    behind : (e : EventEntry) → t < e.tick → e.tick ≡ t → IfSome (event_of plan.tree.links plan.streams e.kind) (Spares x)
    behind e lt is = absurd (omega (arith, lt, is))

    each : AllByRecursion (λ (e : EventEntry). e.tick ≡ t → IfSome (event_of plan.tree.links plan.streams e.kind) (Spares x)) plan.events
    each =
        let P : EventEntry → Type 0 = λ e. e.tick ≡ t → IfSome (event_of plan.tree.links plan.streams e.kind) (Spares x) in
        let parts : events_to t script ++ events_past t script ≡ script = front-back (count_to t script) script in
        let coming : AllByRecursion P script =
        subst (AllByRecursion P) parts
        (each_append P (events_to t script) (events_past t script) (now-spares plan.tree.links plan.streams x t (events_to t script) none)
        (each_more (λ (e : EventEntry). t < e.tick) P (events_past t script) behind (behind-are-later t script h.order)))
        in
        subst (AllByRecursion P) (sym h.all) (each_append P h.done script (each_more (λ (e : EventEntry). e.tick < t) P h.done before h.past) coming)

-- ---- the flags

pub undisturbed-length : (streams : List StreamEntry) (events : List EventEntry) (x : ℕ) (idle : List Bool) → length (undisturbed streams events x idle) ≡ length idle
undisturbed-length streams events x [] = refl
undisturbed-length streams events x (b ∷ idle) =
    let rest : length (undisturbed streams events (x + 1) idle) ≡ length idle = undisturbed-length streams events (x + 1) idle in
    omega (arith, rest)

-- what rests is idle, and isn't disturbed
pub rests-parts : (streams : List StreamEntry) (events : List EventEntry) (x i k : ℕ) (idle : List Bool) → k ≡ x + i → rests_at (undisturbed streams events x idle) i ≡ true
    → (rests_at idle i ≡ true) × (is_disturbed streams events k ≡ false)
rests-parts streams events x i k [] is h = absurd (let no : false ≡ true = h in cc)
rests-parts streams events x zero k (b ∷ idle) is h =
    let same : k ≡ x = omega (arith, is) in
    let both = parts b (is_disturbed streams events x) h in
    (both.0, ap (is_disturbed streams events) same ∙ both.1)
  where
    parts : (a d : Bool) → (a && not d) ≡ true → (a ≡ true) × (d ≡ false)
    parts true true h = absurd (let no : false ≡ true = h in cc)
    parts true false h = (refl, refl)
    parts false d h = absurd (let no : false ≡ true = h in cc)
rests-parts streams events x (suc i) k (b ∷ idle) is h = rests-parts streams events (x + 1) i k idle (omega (arith, is)) h
