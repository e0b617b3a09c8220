-- How the code finds the decided set: it keeps the entries in the order of importance, puts those
-- from the first changed place on back into that order at each decision, and goes through them once
-- with a running sum; and how it compares two lists in one walk, and sums what precedes an entry.
-- No public contract names it; what is promised is the condition on a set in `Decision`.
use Rattle.std.specs.Prelude.{◌≡◌, ℕ, ◌+◌, Bool, false, nat_le, nat_lt, List, [], ◌∷◌, ◌++◌, map, Option, Some, None, if◌then◌else◌, ◌==◌}
use Rattle.std.specs.List.{AllByRecursion}
use Rattle.srp_base.specs.declared.{numbers.Cs.Cs, numbers.StreamId.StreamId}
use Rattle.stream_importance.specs.declared.{entry.Entry.Entry, entry.Want.Want, slope.Caps.Caps}
use Rattle.stream_importance.specs.Bandwidth.{cap_of}
use Rattle.port_ledger.specs.{Decision.stream_of, Decision.entry_slope, Decision.is_booked, Decision.comes_after, Decision.since_after, Book.entry_of, Book.is_normal, Book.same_entry, Book.same_want, Book.unbooked_entry, Book.without}

-- an entry among entries in the order of importance: before the first that it precedes
abbrev pub place : ℕ → Entry → List Entry → List Entry
place now x [] = x ∷ []
place now x (y ∷ ys) = if comes_after now y x then x ∷ y ∷ ys else y ∷ place now x ys

-- the first entry among the others, which are in the order of importance
abbrev pub place_first : ℕ → List Entry → List Entry
place_first now [] = []
place_first now (x ∷ xs) = place now x xs

-- the entries in the order of importance
abbrev pub importance_order : ℕ → List Entry → List Entry
importance_order now [] = []
importance_order now (x ∷ xs) = place now x (importance_order now xs)

-- beside a sum that is taken already there is room for an entry
abbrev pub has_room : Caps → ℕ → Entry → Bool
has_room caps sum x = nat_le (sum + entry_slope x) (cap_of caps x.want.class)

-- the sum once an entry was let in, or not
abbrev pub sum_with : ℕ → Entry → Bool → ℕ
sum_with sum x let_in = if let_in then sum + entry_slope x else sum

-- the entries with the moments that one pass gives them, beside a sum that is taken already
abbrev pub entries_passed : ℕ → Caps → ℕ → List Entry → List Entry
entries_passed now caps sum [] = []
entries_passed now caps sum (x ∷ xs) =
    record x { since = since_after now x.since (has_room caps sum x) }
    ∷ entries_passed now caps (sum_with sum x (has_room caps sum x)) xs

-- these entries, with that moment at the stream of an entry
abbrev pub with_since : List Entry → Entry → Option Cs → List Entry
with_since entries x since =
    map (λ (e : Entry). if stream_of e == stream_of x then record e { since = since } else e) entries

-- these entries, with the moments that the pass over those gives
abbrev pub with_pass : ℕ → Caps → ℕ → List Entry → List Entry → List Entry
with_pass now caps sum [] entries = entries
with_pass now caps sum (x ∷ xs) entries =
    with_pass now caps (sum_with sum x (has_room caps sum x)) xs
    (with_since entries x (since_after now x.since (has_room caps sum x)))

-- no other entry of these is of the entry's stream
abbrev pub IsOnlyIn : List Entry → Entry → Type 0
IsOnlyIn entries x = AllByRecursion (λ e. stream_of e ≡ stream_of x → e ≡ x) entries

-- whether an entry, where there is one, has this want
abbrev pub has_same : Option Entry → Want → Bool
has_same None want = false
has_same (Some x) want = same_want x.want want

-- whether this want is kept of its stream
abbrev pub has_want : List Entry → Want → Bool
has_want entries want = has_same (entry_of entries want.stream) want

-- the order once a want has come in place of what its stream wanted: it goes last
abbrev pub exchanged : List Entry → Want → List Entry
exchanged order want = without order want.stream ++ unbooked_entry want ∷ []

-- the stream of an entry that is booked
abbrev pub booked_stream : Entry → List StreamId
booked_stream x = if is_booked x then x.want.stream ∷ [] else []

-- the streams of the booked entries up to the first entry that isn't below a stream
abbrev pub booked_streams_below : List Entry → StreamId → List StreamId
booked_streams_below [] stream = []
booked_streams_below (x ∷ xs) stream = if nat_lt (stream_of x) stream.0 then booked_stream x ++ booked_streams_below xs stream else []

-- the entries from the first on that isn't below a stream
abbrev pub from_stream : List Entry → StreamId → List Entry
from_stream [] stream = []
from_stream (x ∷ xs) stream = if nat_lt (stream_of x) stream.0 then from_stream xs stream else x ∷ xs

-- an entry stands first
abbrev pub begins_with_entry : List Entry → Entry → Bool
begins_with_entry [] x = false
begins_with_entry (y ∷ ys) x = same_entry x y

-- the slope of y in bit/s, where it is booked and precedes x, else 0
abbrev pub slope_before : ℕ → Entry → Entry → ℕ
slope_before now x y = if is_booked y then (if comes_after now x y then entry_slope y else 0) else 0

-- the slope of y in bit/s, where it is of rank 1 and booked and precedes x, else 0
abbrev pub normal_slope_before : ℕ → Entry → Entry → ℕ
normal_slope_before now x y = if is_normal y then slope_before now x y else 0
