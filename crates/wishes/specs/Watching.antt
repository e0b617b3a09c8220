-- What is kept of a run while it goes on. No public contract names these words.
use Rattle.std.specs.Prelude.{ℕ, ◌+◌, ◌-◌, ◌==◌, Bool, true, false, not, ◌&&◌, ◌||◌, nat_le, if◌then◌else◌, List, [], ◌∷◌, ◌++◌, length, map, take, drop, Option, Some, None, slice_get}
use Rattle.std.specs.{Option.option_map_or, List.list_all, List.list_any}
use Rattle.srp_base.specs.declared.numbers.NodeNo.{NodeNo}
use Rattle.topology_file.specs.declared.{entries.EventEntry.EventEntry, entries.EventKind.EventKind, entries.StreamEntry.StreamEntry}
use Rattle.topology_file.specs.declared.entries.EventKind.TheVariants as kinds
use Rattle.node_core.specs.State.{NodeState, is_busy_node, is_sending_time, is_still_node}
use Rattle.world_core.specs.{Ticks.stream_at, World.WorldState}
use Rattle.wishes.specs.declared.{moments.Span.Span, standing.Standing.Standing}
use Rattle.wishes.specs.RunMoments.{are_same_standings, is_calm, one_tick, standing_at}

-- the streams that are watched, the scenario's events that are still to come, which nodes have nothing
-- to do by themselves in the next tick, what stands since which tick, the stretches that are over, and
-- the one that may go on
pub record Watched : Type 0 where
  pub streams : List StreamEntry
  pub script : List EventEntry
  pub idle : List Bool
  pub standings : List Standing
  pub settled : ℕ
  pub past : List Span
  pub latest : Option Span

-- ---- the events of a tick

-- how many events stand before the first that comes after a tick
abbrev pub count_to : ℕ → List EventEntry → ℕ
count_to t [] = 0
count_to t (e ∷ events) = if nat_le e.tick t then 1 + count_to t events else 0

-- they, and those behind
abbrev pub events_to : ℕ → List EventEntry → List EventEntry
events_to t events = take (count_to t events) events

abbrev pub events_past : ℕ → List EventEntry → List EventEntry
events_past t events = drop (count_to t events) events

-- whether a node is the one at a place
abbrev pub is_at_place : ℕ → NodeNo → Bool
is_at_place x n = n.0 - 1 == x

-- whether the talker of a stream is
abbrev pub is_talker_at : List StreamEntry → ℕ → ℕ → Bool
is_talker_at streams x stream = option_map_or (λ (e : StreamEntry). is_at_place x e.talker) (stream_at streams stream) false

-- whether an event may change the node at a place: it asks something of the node's application, or a
-- PDU is lost, doubled or forged somewhere
abbrev pub disturbs : List StreamEntry → ℕ → EventKind → Bool
disturbs streams x (kinds.Declare station vid) = is_at_place x station
disturbs streams x (kinds.Withdraw station vid) = is_at_place x station
disturbs streams x (kinds.Talk stream) = is_talker_at streams x stream
disturbs streams x (kinds.Hush stream) = is_talker_at streams x stream
disturbs streams x (kinds.Listen station stream) = is_at_place x station
disturbs streams x (kinds.Unlisten station stream) = is_at_place x station
disturbs streams x (kinds.Lose from to index) = true
disturbs streams x (kinds.Repeat from to index) = true
disturbs streams x (kinds.Forge from to index app octets) = true

-- whether one of some events may
abbrev pub is_disturbed : List StreamEntry → List EventEntry → ℕ → Bool
is_disturbed streams events x = list_any (λ (e : EventEntry). disturbs streams x e.kind) events

-- ---- the nodes that rest

-- whether a node changes nothing by itself in the tick that begins: it isn't busy, and where it sends
-- then, it has nothing to say
abbrev pub is_idle : NodeState → Bool
is_idle s = not (is_busy_node s) && (not (is_sending_time s.clock) || is_still_node s)

-- of nodes, the first of which is at place x, which are idle and aren't disturbed
abbrev pub undisturbed : List StreamEntry → List EventEntry → ℕ → List Bool → List Bool
undisturbed streams events x [] = []
undisturbed streams events x (idle ∷ later) =
    (idle && not (is_disturbed streams events x)) ∷ undisturbed streams events (x + 1) later

-- of which nodes it is known that they rest in a tick
abbrev pub resting : Watched → ℕ → List Bool
resting s t = undisturbed s.streams (events_to t s.script) 0 s.idle

-- whether the node at a place does
abbrev pub rests_at : List Bool → ℕ → Bool
rests_at rests x = option_map_or (λ b. b) (slice_get rests x) false

-- whether all do, where that is known of some
abbrev pub all_rest : List Bool → Bool
all_rest rests = if length rests == 0 then false else list_all (λ b. b) rests

-- ---- what stands, by what stood

-- what stood at a node, where that is known and the node rests, or else what stands there
abbrev pub kept_or : Bool → Option Standing → Standing → Standing
kept_or true (Some was) now = was
kept_or true None now = now
kept_or false was now = now

-- what stands at the node of a place
abbrev pub standing_since : List StreamEntry → List Bool → List Standing → ℕ → NodeState → Standing
standing_since streams rests old x s = kept_or (rests_at rests x) (slice_get old x) (standing_at streams s)

-- what stands at some nodes, of which the first is at place x
abbrev pub standings_since : List StreamEntry → List Bool → List Standing → ℕ → List NodeState → List Standing
standings_since streams rests old x [] = []
standings_since streams rests old x (s ∷ nodes) =
    standing_since streams rests old x s ∷ standings_since streams rests old (x + 1) nodes

-- ---- the stretches

-- the stretch that goes on up to a tick, from where it began
abbrev pub going_on : ℕ → Option Span → Span
going_on t None = one_tick t
going_on t (Some span) = record { from = span.from; to = t }

-- the stretches that are over, with one that ends
abbrev pub ended : List Span → Option Span → List Span
ended past None = past
ended past (Some span) = past ++ span ∷ []

-- ---- the end of a tick

-- what stands after tick t, and since when
abbrev pub standings_seen : Watched → ℕ → WorldState → List Standing
standings_seen s t w =
    if all_rest (resting s t) then s.standings
    else standings_since s.streams (resting s t) s.standings 0 w.nodes

abbrev pub settled_seen : Watched → ℕ → WorldState → ℕ
settled_seen s t w =
    if all_rest (resting s t) then s.settled
    else if are_same_standings s.standings (standings_since s.streams (resting s t) s.standings 0 w.nodes) then s.settled
    else t

abbrev pub looked : Watched → ℕ → WorldState → Watched
looked s t w = record s { standings = standings_seen s t w; settled = settled_seen s t w }

-- the watched after the end of a tick, by whether the network is quiet and in step
abbrev pub after_end : Watched → ℕ → WorldState → Watched
after_end s t w = record {
  streams = s.streams;
  script = events_past t s.script;
  idle = map is_idle w.nodes;
  standings = standings_seen s t w;
  settled = settled_seen s t w;
  past = if is_calm w then s.past else ended s.past s.latest;
  latest = if is_calm w then Some (going_on t s.latest) else None;
}

-- before the first tick
abbrev pub unwatched : List StreamEntry → List EventEntry → Watched
unwatched streams script =
    record { streams = streams; script = script; idle = []; standings = []; settled = 0; past = []; latest = None }
