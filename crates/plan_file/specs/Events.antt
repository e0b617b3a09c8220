-- What happens in a plan: each station declares the VLANs of the streams that it listens to, then
-- each stream is talked, and then each station listens.
use Rattle.std.specs.Prelude.{ℕ, zero, suc, ◌+◌, ◌==◌, Bool, ◌&&◌, if◌then◌else◌, List, [], ◌∷◌, ◌++◌, map, filter}
use Rattle.std.specs.List.{list_any}
use Rattle.srp_base.specs.declared.numbers.NodeNo.{NodeNo}
use Rattle.topology_file.specs.declared.{entries.NodeEntry.NodeEntry, entries.EventEntry.EventEntry, entries.EventKind.EventKind}
use Rattle.topology_file.specs.declared.entries.EventKind.TheVariants as kinds
use Rattle.plan_file.specs.declared.{entries.PlanStream.PlanStream, events.PlanEvent.PlanEvent}
use Rattle.plan_file.specs.declared.events.PlanEvent.TheVariants as happens
use Rattle.plan_file.specs.Plan.{NetworkPlan}

-- so many numbers, from one on
unfoldable pub numbers_from : ℕ → ℕ → List ℕ
numbers_from n zero = []
numbers_from n (suc count) = n ∷ numbers_from (n + 1) count

-- the station listens to the stream
abbrev pub listens : ℕ → PlanStream → Bool
listens x s = list_any (λ y. y.0 == x) s.ends.listeners

-- a stream to which the station listens has this VID
abbrev pub needs_vid : List PlanStream → ℕ → ℕ → Bool
needs_vid streams x vid = list_any (λ s. listens x s && (s.values.vid == vid)) streams

-- a stream has this VID
abbrev pub has_vid : List PlanStream → ℕ → Bool
has_vid streams vid = list_any (λ s. s.values.vid == vid) streams

-- the VIDs of the streams, ascending and each once
abbrev pub plan_vids : List PlanStream → List ℕ
plan_vids streams = filter (has_vid streams) (numbers_from 1 4094)

-- those of them that a station needs
abbrev pub vids_at : List PlanStream → List ℕ → ℕ → List ℕ
vids_at streams vids x = filter (needs_vid streams x) vids

-- what a station declares
abbrev pub declares_at : List PlanStream → List ℕ → ℕ → List PlanEvent
declares_at streams vids x = map (λ vid. happens.Declare (record { 0 = x }) vid) (vids_at streams vids x)

-- to which of these streams, the first of them of number n, a station listens
abbrev pub listens_at : ℕ → ℕ → List PlanStream → List PlanEvent
listens_at x n [] = []
listens_at x n (s ∷ ss) =
    if listens x s then happens.Listen (record { 0 = x }) n ∷ listens_at x (n + 1) ss else listens_at x (n + 1) ss

-- what happens at each of these nodes, the first of them of number x
abbrev pub at_each : {A : Type 0} → (ℕ → List PlanEvent) → ℕ → List A → List PlanEvent
at_each at x [] = []
at_each at x (node ∷ nodes) = at x ++ at_each at (x + 1) nodes

-- these streams are talked, the first of them of number n
abbrev pub talks_from : ℕ → List PlanStream → List PlanEvent
talks_from n [] = []
talks_from n (s ∷ ss) = happens.Talk n ∷ talks_from (n + 1) ss

-- the stations declare their VLANs, in the order of the nodes
abbrev pub declares_of : List NodeEntry → List PlanStream → List PlanEvent
declares_of nodes streams = at_each (declares_at streams (plan_vids streams)) 1 nodes

-- the stations listen, in the order of the nodes, each in that of the streams
abbrev pub listens_of : List NodeEntry → List PlanStream → List PlanEvent
listens_of nodes streams = at_each (λ x. listens_at x 1 streams) 1 nodes

-- all that happens
abbrev pub events_of : List NodeEntry → List PlanStream → List PlanEvent
events_of nodes streams = declares_of nodes streams ++ (talks_from 1 streams ++ listens_of nodes streams)

abbrev pub plan_events : NetworkPlan → List PlanEvent
plan_events p = events_of p.network.nodes p.streams

-- ---- as a scenario's events

-- the tick in cs
abbrev pub tick_of : PlanEvent → ℕ
tick_of (happens.Declare station vid) = 0
tick_of (happens.Talk stream) = 10
tick_of (happens.Listen station stream) = 20

abbrev pub kind_of : PlanEvent → EventKind
kind_of (happens.Declare station vid) = kinds.Declare station vid
kind_of (happens.Talk stream) = kinds.Talk stream
kind_of (happens.Listen station stream) = kinds.Listen station stream

abbrev pub event_of : PlanEvent → EventEntry
event_of e = record { tick = tick_of e; kind = kind_of e }
