-- What a decision changes in the booked set, as the code notes it. No public contract names it.
use Rattle.std.specs.Prelude.{ℕ, ◌≤◌, Bool, false, not, ◌&&◌, ◌||◌, nat_lt, List, [], ◌∷◌, ◌++◌, length, Option, Some, None, if◌then◌else◌}
use Rattle.std.specs.List.{AllByRecursion}
use Rattle.srp_base.specs.declared.numbers.StreamId.{StreamId}
use Rattle.stream_importance.specs.declared.{entry.Entry.Entry, slope.Caps.Caps}
use Rattle.port_ledger.specs.{Decision.is_booked, Pass.booked_stream, Pass.has_room, Pass.sum_with}

-- whether an entry is booked anew where it is let in or not
abbrev pub gains : Entry → Bool → Bool
gains x let_in = let_in && not (is_booked x)

-- whether it loses its booking
abbrev pub loses : Entry → Bool → Bool
loses x let_in = not let_in && is_booked x

-- whether its booking changes
abbrev pub moves : Entry → Bool → Bool
moves x let_in = gains x let_in || loses x let_in

-- the stream of an entry of which a test holds
abbrev pub stream_where : Bool → Entry → List StreamId
stream_where holds x = if holds then x.want.stream ∷ [] else []

-- the streams of those entries of which a test holds as a pass lets them in or not, beside a sum
-- that is taken already
abbrev pub streams_passed : (Entry → Bool → Bool) → Caps → ℕ → List Entry → List StreamId
streams_passed test caps sum [] = []
streams_passed test caps sum (x ∷ xs) =
    stream_where (test x (has_room caps sum x)) x ++ streams_passed test caps (sum_with sum x (has_room caps sum x)) xs

-- whether a test holds of any entry as a pass lets it in or not, beside a sum that is taken already
abbrev pub has_passed : (Entry → Bool → Bool) → Caps → ℕ → List Entry → Bool
has_passed test caps sum [] = false
has_passed test caps sum (x ∷ xs) =
    test x (has_room caps sum x) || has_passed test caps (sum_with sum x (has_room caps sum x)) xs

-- whether a pass ends any booking
abbrev pub has_loss : Caps → ℕ → List Entry → Bool
has_loss caps sum xs = has_passed loses caps sum xs

-- whether a pass changes any booking
abbrev pub has_move : Caps → ℕ → List Entry → Bool
has_move caps sum xs = has_passed moves caps sum xs

-- whether there is an entry, and it is booked
abbrev pub has_booking : Option Entry → Bool
has_booking None = false
has_booking (Some x) = is_booked x

-- the stream of an entry, where there is one and it is booked
abbrev pub booking_of : Option Entry → List StreamId
booking_of None = []
booking_of (Some x) = booked_stream x

-- the streams that are noted once more have come, where there is room for so many
abbrev pub noted : ℕ → List StreamId → List StreamId → List StreamId
noted room streams [] = streams
noted room streams (x ∷ xs) = noted room (if nat_lt (length streams) room then streams ++ x ∷ [] else streams) xs

-- from each stream to the next the StreamID doesn't fall
abbrev pub AreRising : List StreamId → Type 0
AreRising [] = Unit {0}
AreRising (x ∷ xs) = AllByRecursion (λ y. x.0 ≤ y.0) xs × AreRising xs
