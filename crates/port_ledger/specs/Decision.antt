-- Which entries of an egress port are booked, as a condition on a set. The caps are those of IEEE
-- Std 802.1Q-2018, 34.3; in which order streams get what there is, is this project's own rule.
use Rattle.std.specs.Prelude.{ℕ, zero, suc, ◌+◌, ◌<◌, ◌≡◌, ◌≢◌, Bool, true, false, not, ◌&&◌, ◌==◌, nat_le, List, [], ◌∷◌, map, filter, length, sum_by, is_some, Option, Some, None, if◌then◌else◌}
use Rattle.std.specs.List.{AllByRecursion}
use Rattle.srp_base.specs.declared.numbers.Cs.{Cs}
use Rattle.stream_importance.specs.declared.{entry.Entry.Entry, slope.Caps.Caps}
use Rattle.stream_importance.specs.{Bandwidth.cap_of, Importance.moment_or, Importance.is_more_important}

-- the StreamID of an entry, as a number
abbrev pub stream_of : Entry → ℕ
stream_of x = x.want.stream.0

-- the slope of an entry in bit/s
abbrev pub entry_slope : Entry → ℕ
entry_slope x = x.want.slope

-- no stream has two of the entries
abbrev pub AreOfDifferentStreams : List Entry → Type 0
AreOfDifferentStreams [] = Unit {0}
AreOfDifferentStreams (x ∷ xs) = AllByRecursion (λ y. stream_of x ≢ stream_of y) xs × AreOfDifferentStreams xs

-- strictly ascending by StreamID
abbrev pub IsAscending : List Entry → Type 0
IsAscending [] = Unit {0}
IsAscending (x ∷ xs) = AllByRecursion (λ y. stream_of x < stream_of y) xs × IsAscending xs

-- the set that marks beside the entries mark
abbrev pub marked_set : List Entry → List Bool → List Entry
marked_set [] marks = []
marked_set (x ∷ xs) [] = []
marked_set (x ∷ xs) (mark ∷ marks) = if mark then x ∷ marked_set xs marks else marked_set xs marks

-- x comes after y, which is of another stream and more important
abbrev pub comes_after : ℕ → Entry → Entry → Bool
comes_after now x y = not (stream_of y == stream_of x) && is_more_important now y x

-- what the entries of a set that x comes after take, in bit/s
abbrev pub above : ℕ → Entry → List Entry → ℕ
above now x set = sum_by entry_slope (filter (comes_after now x) set)

-- x fits in a set where these, with x's own slope, stay at or under the cap of x
abbrev pub does_fit : ℕ → Caps → List Entry → Entry → Bool
does_fit now caps set x = nat_le (above now x set + entry_slope x) (cap_of caps x.want.class)

-- the marks of the decided set: an entry is marked exactly where it fits in the set that is marked
abbrev pub IsDecision : ℕ → Caps → List Entry → List Bool → Type 0
IsDecision now caps entries marks = marks ≡ map (does_fit now caps (marked_set entries marks)) entries

-- an entry is booked where it has a moment
abbrev pub is_booked : Entry → Bool
is_booked x = is_some x.since

-- the marks beside the entries that say which are booked
abbrev pub marks_of : List Entry → List Bool
marks_of entries = map is_booked entries

-- the booked set: the entries that have a moment
abbrev pub booked_of : List Entry → List Entry
booked_of entries = filter is_booked entries

-- a booked entry keeps its moment, or gets this one; another has none
abbrev pub since_after : ℕ → Option Cs → Bool → Option Cs
since_after now since true = Some (record { 0 = moment_or now since })
since_after now since false = None

-- the entries with their moments after a decision
abbrev pub with_moments : ℕ → List Entry → List Bool → List Entry
with_moments now [] marks = []
with_moments now (x ∷ xs) [] = []
with_moments now (x ∷ xs) (mark ∷ marks) = record x { since = since_after now x.since mark } ∷ with_moments now xs marks

-- a call that decides these entries at this moment leaves those
pub record Decides (now : ℕ) (caps : Caps) (before after : List Entry) : Type 0 where
  pub decision : IsDecision now caps before (marks_of after)
  pub moments : after ≡ with_moments now before (marks_of after)

-- the set that rounds of judging come to: the first round finds the empty set, and each later one
-- the entries that fit in the set before it
unfoldable pub set_after : (rounds now : ℕ) → Caps → List Entry → List Entry
set_after zero now caps entries = []
set_after (suc rounds) now caps entries = filter (does_fit now caps (set_after rounds now caps entries)) entries

-- the decided set: each round judges one more entry for good, the most important first, so that as
-- many rounds as there are entries suffice
abbrev pub decided_set : ℕ → Caps → List Entry → List Entry
decided_set now caps entries = set_after (length entries) now caps entries

-- the entries after a decision: those of the decided set keep their moment or get this one, others
-- have none
unfoldable pub decided_entries : ℕ → Caps → List Entry → List Entry
decided_entries now caps entries = with_moments now entries (map (does_fit now caps (decided_set now caps entries)) entries)
