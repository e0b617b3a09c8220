-- The bookings of rows, from a place on.
use Rattle.std.proofs.Common.{◌≡◌, ◌∙◌, ℕ, zero, suc, ◌+◌, List, [], ◌∷◌, ◌++◌, drop, refl, ap, sym, arith}
use Rattle.std.specs.Prelude.{flat_map, slice_get, Option, Some, None, option_map}
use Rattle.std.specs.Option.{option_map_or}
use Rattle.std.proofs.lemmas.List.Sums.{fold-append}
use Rattle.attribute_propagation.specs.Dirty.{all_marked, with_key}
use Rattle.link_replay.specs.declared.lines.End.{End}
use Rattle.mrp_participant.specs.declared.row.Row.{Row}
use Rattle.msrp_codec.specs.declared.pdu.{MsrpKey.MsrpKey, MsrpContent.MsrpContent}
use Rattle.replay_words.specs.declared.booking.Booking.{Booking}
use Rattle.replay_words.specs.{StreamWays, booking_cmp, booked_at, row_booked}

-- the booking of a key that may be there
abbrev pub booked_in : StreamWays → End → Option MsrpKey → List Booking
booked_in w who None = []
booked_in w who (Some key) = booked_at w who key

-- the booking of a row is that of its key
pub by_key : (w : StreamWays) (who : End) (found : Option (Row MsrpKey MsrpContent))
    → option_map_or (row_booked w who) found [] ≡ booked_in w who (option_map (λ r. r.key) found)
by_key w who None = refl
by_key w who (Some r) = refl

at_place : {X : Type 0} (f : X → List Booking) (xs : List X) (i : ℕ)
    → flat_map f (drop i xs) ≡ option_map_or f (slice_get xs i) [] ++ flat_map f (drop (suc i) xs)
at_place f [] zero = refl
at_place f [] (suc i) = refl
at_place f (x ∷ xs) zero = refl
at_place f (x ∷ xs) (suc i) = at_place f xs i

-- the bookings from a place on are that of the row there, and then those from the next on
from_place : {X : Type 0} (f : X → List Booking) (xs : List X) (i : ℕ)
    → flat_map f (drop i xs) ≡ option_map_or f (slice_get xs i) [] ++ flat_map f (drop (i + 1) xs)
from_place f xs i =
    at_place f xs i
    ∙ ap (λ (n : ℕ). option_map_or f (slice_get xs i) [] ++ flat_map f (drop n xs)) (let e : suc i ≡ i + 1 = omega arith in e)

-- so where a set with the bookings from a place on is the whole, so it is with that of the row
-- there put in, and those from the next on
pub from_next : {X : Type 0} (f : X → List Booking) (xs : List X) (i : ℕ) (set more whole : List Booking)
    → all_marked booking_cmp (flat_map f (drop i xs)) set ≡ whole
    → more ≡ all_marked booking_cmp (option_map_or f (slice_get xs i) []) set
    → all_marked booking_cmp (flat_map f (drop (i + 1) xs)) more ≡ whole
from_next f xs i set more whole is marked =
    ap (all_marked booking_cmp (flat_map f (drop (i + 1) xs))) marked
    ∙ sym (fold-append (λ ks k. with_key booking_cmp k ks) set (option_map_or f (slice_get xs i) []) (flat_map f (drop (i + 1) xs)))
    ∙ ap (λ (bs : List Booking). all_marked booking_cmp bs set) (sym (from_place f xs i))
    ∙ is
