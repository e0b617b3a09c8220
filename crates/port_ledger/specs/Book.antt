-- What a ledger keeps, and what its calls make of it.
use Rattle.std.specs.Prelude.{ℕ, ◌≤◌, Bool, true, false, not, ◌&&◌, ◌==◌, nat_lt, List, [], ◌∷◌, map, filter, find, sum_by, Option, Some, None, option_map, option_and_then, if◌then◌else◌}
use Rattle.std.specs.List.{AllByRecursion, list_any}
use Rattle.srp_base.specs.declared.{numbers.Cs.Cs, numbers.StreamId.StreamId, bandwidth.Class.Class}
use Rattle.stream_importance.specs.declared.{entry.Entry.Entry, entry.Want.Want, entry.Fit.Fit, entry.Fit.TheVariants.Fits, entry.Fit.TheVariants.TooLittle, slope.Caps.Caps}
use Rattle.stream_importance.specs.{Bandwidth.cap_of, Importance.class_number, Importance.rank_number, Importance.moment_or}
use Rattle.port_ledger.specs.Decision.{stream_of, entry_slope, above, decided_entries, does_fit, is_booked, booked_of, marks_of, IsAscending, IsDecision}

-- a ledger: its caps in bit/s, the last moment that was handed to it in cs, and the wanting streams
pub record Book : Type 0 where
  pub caps : Caps
  pub moment : ℕ
  pub entries : List Entry

-- a ledger with its room: its book, and for how many more streams there is room
pub record BookWithRoom : Type 0 where
  pub book : Book
  pub spare : ℕ

-- what holds of every ledger
pub record IsKept (book : Book) : Type 0 where
  pub ascending : IsAscending book.entries
  pub shares : book.caps.class_a ≤ book.caps.both
  pub moments : AllByRecursion (λ x. moment_or book.moment x.since ≤ book.moment) book.entries
  pub decision : IsDecision book.moment book.caps book.entries (marks_of book.entries)

-- the same stream, class, rank and slope
abbrev pub same_want : Want → Want → Bool
same_want a b =
    (a.stream.0 == b.stream.0) && (class_number a.class == class_number b.class)
    && (rank_number a.rank == rank_number b.rank) && (a.slope == b.slope)

-- both not booked, or since one moment
abbrev pub same_since : Option Cs → Option Cs → Bool
same_since None None = true
same_since None (Some b) = false
same_since (Some a) None = false
same_since (Some a) (Some b) = a.0 == b.0

-- the same want with the same booking
abbrev pub same_entry : Entry → Entry → Bool
same_entry x y = same_want x.want y.want && same_since x.since y.since

-- the entry of a stream
abbrev pub entry_of : List Entry → StreamId → Option Entry
entry_of entries stream = find (λ x. stream_of x == stream.0) entries

-- the want that is kept of a stream
abbrev pub want_of : List Entry → StreamId → Option Want
want_of entries stream = option_map (λ x. x.want) (entry_of entries stream)

-- the moment since when a stream is booked, in cs; None where it isn't booked
abbrev pub since_of : List Entry → StreamId → Option Cs
since_of entries stream = option_and_then (λ x. x.since) (entry_of entries stream)

-- a want that isn't booked
abbrev pub unbooked_entry : Want → Entry
unbooked_entry want = record { want = want; since = None }

-- a stream's entry once this want of the stream has come: the same want again changes nothing, and
-- another one takes the entry's place with no moment
abbrev pub entry_with : Entry → Want → Entry
entry_with x want = if same_want x.want want then x else unbooked_entry want

-- the entries once a want has come, which is added where its stream has no entry
abbrev pub with_want : List Entry → Want → List Entry
with_want [] want = unbooked_entry want ∷ []
with_want (x ∷ xs) want =
    if nat_lt want.stream.0 (stream_of x)
    then unbooked_entry want ∷ x ∷ xs
    else if want.stream.0 == stream_of x then entry_with x want ∷ xs else x ∷ with_want xs want

-- the entries once a stream wants nothing
abbrev pub without : List Entry → StreamId → List Entry
without entries stream = filter (λ x. not (stream_of x == stream.0)) entries

-- a book without entries
abbrev pub empty_book : Caps → Book
empty_book caps = record { caps = caps; moment = 0; entries = [] }

-- the book after these entries are decided at a moment in cs
abbrev pub decided_book : ℕ → List Entry → Book → Book
decided_book now entries book = record book { moment = now; entries = decided_entries now book.caps entries }

-- the book after a want at a moment
abbrev pub wanted_book : ℕ → Want → Book → Book
wanted_book now want book = decided_book now (with_want book.entries want) book

-- the book after a stream wants nothing more, at a moment
abbrev pub unwanted_book : ℕ → StreamId → Book → Book
unwanted_book now stream book = decided_book now (without book.entries stream) book

-- the book at a later moment
abbrev pub clocked_book : ℕ → Book → Book
clocked_book now book = record book { moment = now }

-- booked since this moment
abbrev pub is_since : ℕ → Option Cs → Bool
is_since moment None = false
is_since moment (Some since) = since.0 == moment

-- some booking is as old as the book's moment, so that with a later moment it is older than what
-- isn't booked
abbrev pub has_new_booking : Book → Bool
has_new_booking book = list_any (λ x. is_since book.moment x.since) book.entries

-- the streams, ascending, whose booked entry with its want and its moment is in these and not in
-- those
abbrev pub booked_only_in : List Entry → List Entry → List StreamId
booked_only_in these those =
    map (λ x. x.want.stream) (filter (λ x. is_booked x && not (list_any (same_entry x) those)) these)

-- the slopes of the booked entries of a class, together
abbrev pub booked_slope : List Entry → Class → ℕ
booked_slope entries class =
    sum_by entry_slope (filter (λ x. class_number x.want.class == class_number class) (booked_of entries))

-- the moment of an entry that has this same want
abbrev pub since_if_same : Entry → Want → Option Cs
since_if_same x want = if same_want x.want want then x.since else None

-- the entry as which a want is tested: with the moment of the stream's entry where that has this
-- same want
abbrev pub tested_entry : List Entry → Want → Entry
tested_entry entries want =
    record { want = want; since = option_and_then (λ x. since_if_same x want) (entry_of entries want.stream) }

-- of rank 1, which isn't emergency traffic
abbrev pub is_normal : Entry → Bool
is_normal x = rank_number x.want.rank == 1

-- the failure code of what doesn't fit: 6 where the want is of rank 1 and would fit if the bookings
-- of rank 0 weren't there, else 1; so a want of rank 0 has 1 (IEEE Std 802.1Q-2018, 35.2.2.8.7)
abbrev pub code_of : ℕ → Caps → List Entry → Entry → ℕ
code_of now caps set x = if is_normal x && does_fit now caps (filter is_normal set) x then 6 else 1

-- whether an entry fits in a set
abbrev pub fit_in : ℕ → Caps → List Entry → Entry → Fit
fit_in now caps set x =
    if does_fit now caps set x
    then Fits
    else TooLittle (above now x set) (cap_of caps x.want.class) (code_of now caps set x)

-- whether a want fits beside what a ledger has booked, at a moment in cs
abbrev pub fit_for : ℕ → Book → Want → Fit
fit_for now book want = fit_in now book.caps (booked_of book.entries) (tested_entry book.entries want)

-- what a fit carries is at most this many bit/s
abbrev pub IsFitWithin : ℕ → Fit → Type 0
IsFitWithin most Fits = Unit {0}
IsFitWithin most (TooLittle more cap code) = (more ≤ most) × (cap ≤ most)
