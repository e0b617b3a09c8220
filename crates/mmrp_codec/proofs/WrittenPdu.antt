-- The PDU that is written: it can be written, says what was written, and is small.
use Rattle.std.proofs.Common.{◌≡◌, ℕ, ◌+◌, ◌*◌, ◌^◌, ◌<◌, ◌≤◌, Bool, true, false, List, [], ◌∷◌, ◌++◌, length, map, Result, Ok, refl, ap, ◌∙◌, append-nil, arith}
use Rattle.std.specs.{List.flat_map, List.list_all, List.list_any, Int.bytes_high_first}
use Rattle.std.proofs.lemmas.{Bool.and_from, Bool.le-leb, List.Sums.sum_by-cons}
use Rattle.srp_base.proofs.Bools.{or_no}
use Rattle.srp_base.specs.Hexadecimal.{number_high_first}
use Rattle.mrpdu_codec.specs.declared.{form.AppForm.TheVariants.Mmrp, pdu.VectorAttr.VectorAttr}
use Rattle.mrpdu_codec.specs.{Shape.vector_fits, Canonical.well_formed, Canonical.vector_size, Canonical.vectors_size, Canonical.pdu_size, Reading.reading}
use Rattle.mmrp_codec.specs.{GroupPdu, mac_form, MacEvent, AreMacs, vector_events, meaning, is_in_range, message_in_range, meaning_or_place, read_as, mmrp_reading, event_vector, event_vectors, pdu_for, mmrp_spelling, IsWritable}
use Rattle.mmrp_codec.proofs.PastLemmas.{past_all}

-- a number is read from what is written of it
abbrev pub ReadBack : Type 0
ReadBack = (n number : ℕ) → number < 256 ^ n → number_high_first (bytes_high_first n number) ≡ number

-- what is written of a number has so many octets
abbrev pub HasLength : Type 0
HasLength = (n number : ℕ) → length (bytes_high_first n number) ≡ n

-- ---- what it says

event_again : ReadBack → (leave : Bool) (x : MacEvent) → x.1 < 2 ^ 48 → vector_events (event_vector leave x) ≡ x ∷ []
event_again back leave x small = ap (λ (n : ℕ). (x.0, n) ∷ []) (back 6 x.1 small)

later_again : ReadBack → (xs : List MacEvent) → AreMacs xs → flat_map vector_events (map (event_vector false) xs) ≡ xs
later_again back [] all = refl
later_again back (x ∷ xs) all =
    ap (λ (es : List MacEvent). es ++ flat_map vector_events (map (event_vector false) xs)) (event_again back false x all.0)
    ∙ ap (λ (es : List MacEvent). x ∷ es) (later_again back xs all.1)

events_again : ReadBack → (leave : Bool) (xs : List MacEvent) → AreMacs xs → flat_map vector_events (event_vectors leave xs) ≡ xs
events_again back true [] all = refl
events_again back false [] all = refl
events_again back true (x ∷ xs) all =
    ap (λ (es : List MacEvent). es ++ flat_map vector_events (map (event_vector false) xs)) (event_again back true x all.0)
    ∙ ap (λ (es : List MacEvent). x ∷ es) (later_again back xs all.1)
events_again back false (x ∷ xs) all = later_again back (x ∷ xs) all

none_leave : (xs : List MacEvent) → list_any (λ (v : VectorAttr). v.leave_all) (map (event_vector false) xs) ≡ false
none_leave [] = refl
none_leave (x ∷ xs) = none_leave xs

vectors_leave : (leave : Bool) (xs : List MacEvent) → list_any (λ (v : VectorAttr). v.leave_all) (event_vectors leave xs) ≡ leave
vectors_leave true [] = refl
vectors_leave false [] = refl
vectors_leave true (x ∷ xs) = refl
vectors_leave false (x ∷ xs) = none_leave xs

made : Bool → List MacEvent → GroupPdu
made leave events = record { leave_all = leave; events = events }

meaning_again : ReadBack → (leave : Bool) (events : List MacEvent) → AreMacs events → meaning (pdu_for (made leave events)) ≡ made leave events
unfolding made
meaning_again back true events all = ap (made true) (append-nil (flat_map vector_events (event_vectors true events)) ∙ events_again back true events all)
meaning_again back false events all =
    ap (λ (b : Bool). made b (flat_map vector_events (event_vectors false events) ++ [])) (or_no (list_any (λ (v : VectorAttr). v.leave_all) (event_vectors false events)) ∙ vectors_leave false events)
    ∙ ap (made false) (append-nil (flat_map vector_events (event_vectors false events)) ∙ events_again back false events all)

-- ---- its values are in range

event_in_range : ReadBack → (leave : Bool) (x : MacEvent) → x.1 < 2 ^ 48 → is_in_range (event_vector leave x) ≡ true
event_in_range back leave x small = le-leb (number_high_first (bytes_high_first 6 x.1) + 1) (2 ^ 48) (omega (arith, back 6 x.1 small, small))

later_in_range : ReadBack → (xs : List MacEvent) → AreMacs xs → list_all is_in_range (map (event_vector false) xs) ≡ true
later_in_range back [] all = refl
later_in_range back (x ∷ xs) all = and_from _ _ (event_in_range back false x all.0) (later_in_range back xs all.1)

vectors_in_range : ReadBack → (leave : Bool) (xs : List MacEvent) → AreMacs xs → list_all is_in_range (event_vectors leave xs) ≡ true
vectors_in_range back true [] all = refl
vectors_in_range back false [] all = refl
vectors_in_range back true (x ∷ xs) all = and_from _ _ (event_in_range back true x all.0) (later_in_range back xs all.1)
vectors_in_range back false (x ∷ xs) all = later_in_range back (x ∷ xs) all

in_range : ReadBack → (leave : Bool) (events : List MacEvent) → AreMacs events → list_all message_in_range (pdu_for (made leave events)).messages ≡ true
unfolding made
in_range back true events all = and_from _ _ (vectors_in_range back true events all) refl
in_range back false events all = and_from _ _ (vectors_in_range back false events all) refl

pub reads_again : ReadBack → (read : GroupPdu) → AreMacs read.events → reading Mmrp (mmrp_spelling read) ≡ Ok (pdu_for read) → mmrp_reading (mmrp_spelling read) ≡ Ok read
unfolding made
reads_again back read all e =
    let octets = mmrp_spelling read in
    ap (read_as octets) e
    ∙ ap (meaning_or_place octets (pdu_for read)) (past_all 0 (pdu_for read).messages (in_range back read.leave_all read.events all))
    ∙ ap (λ (m : GroupPdu). let r : Result GroupPdu ℕ = Ok m in r) (meaning_again back read.leave_all read.events all)

-- ---- it can be written

event_fits : HasLength → (leave : Bool) (x : MacEvent) → vector_fits mac_form (event_vector leave x) ≡ true
event_fits long true x = refl
event_fits long false x = refl

later_fit : HasLength → (xs : List MacEvent) → list_all (vector_fits mac_form) (map (event_vector false) xs) ≡ true
later_fit long [] = refl
later_fit long (x ∷ xs) = and_from _ _ (event_fits long false x) (later_fit long xs)

vectors_fit_all : HasLength → (leave : Bool) (xs : List MacEvent) → list_all (vector_fits mac_form) (event_vectors leave xs) ≡ true
vectors_fit_all long true [] = refl
vectors_fit_all long false [] = refl
vectors_fit_all long true (x ∷ xs) = and_from _ _ (event_fits long true x) (later_fit long xs)
vectors_fit_all long false (x ∷ xs) = later_fit long (x ∷ xs)

can_be_written : HasLength → (leave : Bool) (events : List MacEvent) → well_formed Mmrp (pdu_for (made leave events)) ≡ true
unfolding made
can_be_written long true events = and_from _ _ refl (and_from _ _ refl (and_from _ _ (and_from _ _ (vectors_fit_all long true events) refl) refl))
can_be_written long false events = and_from _ _ refl (and_from _ _ (and_from _ _ (vectors_fit_all long false events) refl) refl)

pub is_well_formed : HasLength → (read : GroupPdu) → well_formed Mmrp (pdu_for read) ≡ true
unfolding made
is_well_formed long read = can_be_written long read.leave_all read.events

-- ---- how many octets

later_size : HasLength → (xs : List MacEvent) → vectors_size (map (event_vector false) xs) ≡ 9 * length xs
later_size long [] = refl
later_size long (x ∷ xs) = omega (arith, sum_by-cons vector_size (event_vector false x) (map (event_vector false) xs), later_size long xs, long 6 x.1)

event_vectors_size : HasLength → (leave : Bool) (xs : List MacEvent) → vectors_size (event_vectors leave xs) ≤ 9 * length xs + 8
event_vectors_size long true [] = omega arith
event_vectors_size long false [] = omega arith
event_vectors_size long true (x ∷ xs) = omega (arith, sum_by-cons vector_size (event_vector true x) (map (event_vector false) xs), later_size long xs, long 6 x.1)
event_vectors_size long false (x ∷ xs) = omega (arith, later_size long (x ∷ xs))

size_of : HasLength → (leave : Bool) (events : List MacEvent) → pdu_size Mmrp (pdu_for (made leave events)) ≤ 9 * length events + 22
unfolding made
size_of long true events = omega (arith, event_vectors_size long true events)
size_of long false events = omega (arith, event_vectors_size long false events)

pub few_in_all : HasLength → (read : GroupPdu) → IsWritable read → length (mmrp_spelling read) ≡ pdu_size Mmrp (pdu_for read) → length (mmrp_spelling read) ≤ 1500
unfolding made
few_in_all long read w size = omega (arith, size, w.few, size_of long read.leave_all read.events)
