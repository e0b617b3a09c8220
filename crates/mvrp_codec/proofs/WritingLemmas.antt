-- What is written reads as what was written, in at most 1,500 octets.
use Rattle.std.proofs.Common.{◌≡◌, ℕ, suc, ◌+◌, ◌*◌, ◌<◌, ◌≤◌, Bool, true, false, leb, ltb, eqb, ◌||◌, inl, inr, List, [], ◌∷◌, ◌++◌, length, map, Result, Ok, refl, sym, ap, ◌∙◌, append_assoc, length-append, arith}
use Rattle.std.specs.List.{flat_map, list_any, list_all, AllByRecursion}
use Rattle.std.proofs.lemmas.{Bool.cases_Bool, Bool.and_from, Bool.eqb-true, Bool.le-leb, Bool.lt-ltb, List.append-nil, List.length-map, List.Sums.sum_by-cons}
use Rattle.srp_base.proofs.Bools.{or_no}
use Rattle.srp_base.specs.declared.mrp.MrpEvent.{MrpEvent}
use Rattle.mrpdu_codec.specs.declared.{form.AppForm.TheVariants.Mvrp, form.TypeForm.TypeForm, pdu.VectorAttr.VectorAttr}
use Rattle.mrpdu_codec.specs.{Tree.vectors_octets, Shape.vector_fits, Canonical.vectors_for, Canonical.well_formed, Canonical.spelling, Canonical.vector_size, Canonical.vectors_size, Canonical.pdu_size, Reading.reading}
use Rattle.mrpdu_codec.proofs.RoundTrip.{header_again}
use Rattle.mvrp_codec.specs.{MvrpPdu, event_at, events_from, vector_events, meaning, read_as, mvrp_reading, join, streaks, streak_vector, streak_vectors, streaks_octets, pdu_around, one_message, pdu_for, mvrp_spelling, IsWritable, AreVids, events_of_streaks}
use Rattle.mvrp_codec.proofs.MaximalStreaks.{streaks_joined}

-- ---- the events

abbrev IsVid : ℕ → Type 0
IsVid vid = (1 ≤ vid) × (vid ≤ 4094)

-- what the vectors of streaks say
streak_events : List (List (MrpEvent × ℕ)) → List (MrpEvent × ℕ)
streak_events ss = flat_map vector_events (map (streak_vector false) ss)

event_of_vid : (x : MrpEvent × ℕ) → IsVid x.1 → event_at x.0 x.1 ≡ x ∷ []
event_of_vid x h = rw (le-leb 1 x.1 h.0, le-leb x.1 4094 h.1) refl

-- a streak says its first event, and then those of the VIDs from the next on
first_event : (x : MrpEvent × ℕ) (xs : List (MrpEvent × ℕ)) → IsVid x.1 → vector_events (streak_vector false (x ∷ xs)) ≡ x ∷ events_from (x.1 + 1) (map (λ y. y.0) xs)
first_event x xs h =
    ap (λ (n : ℕ). events_from n (map (λ y. y.0) (x ∷ xs))) (header_again x.1)
    ∙ ap (λ (es : List (MrpEvent × ℕ)). es ++ events_from (x.1 + 1) (map (λ y. y.0) xs)) (event_of_vid x h)

later_events : (y : MrpEvent × ℕ) (ys : List (MrpEvent × ℕ)) → events_from y.1 (map (λ z. z.0) (y ∷ ys)) ≡ vector_events (streak_vector false (y ∷ ys))
later_events y ys = ap (λ (n : ℕ). events_from n (map (λ z. z.0) (y ∷ ys))) (sym (header_again y.1))

join_events : (x : MrpEvent × ℕ) (ss : List (List (MrpEvent × ℕ))) → IsVid x.1 → streak_events (join x ss) ≡ x ∷ streak_events ss
unfolding streak_events
join_events x [] h = ap (λ (es : List (MrpEvent × ℕ)). es ++ []) (first_event x [] h)
join_events x ([] ∷ others) h = ap (λ (es : List (MrpEvent × ℕ)). es ++ streak_events others) (first_event x [] h)
join_events x ((y ∷ ys) ∷ others) h =
    elim (cases_Bool (eqb (x.1 + 1) y.1)) [
      | inl follows ↦ rw follows (
          ap (λ (es : List (MrpEvent × ℕ)). es ++ streak_events others) (first_event x (y ∷ ys) h)
          ∙ ap (λ (es : List (MrpEvent × ℕ)). x ∷ (es ++ streak_events others)) (ap (λ (n : ℕ). events_from n (map (λ z. z.0) (y ∷ ys))) (eqb-true (x.1 + 1) y.1 follows) ∙ later_events y ys))
      | inr apart ↦ rw apart (ap (λ (es : List (MrpEvent × ℕ)). es ++ streak_events ((y ∷ ys) ∷ others)) (first_event x [] h))
    ]

events_again : (events : List (MrpEvent × ℕ)) → AreVids events → streak_events (streaks events) ≡ events
unfolding streak_events
events_again [] h = refl
events_again (x ∷ xs) h = join_events x (streaks xs) h.0 ∙ ap (λ (ys : List (MrpEvent × ℕ)). x ∷ ys) (events_again xs h.1)

with_leave : (leave : Bool) (ss : List (List (MrpEvent × ℕ))) → flat_map vector_events (streak_vectors leave ss) ≡ streak_events ss
unfolding streak_events
with_leave true [] = refl
with_leave false [] = refl
with_leave true (s ∷ ss) = refl
with_leave false (s ∷ ss) = refl

none_leave : (ss : List (List (MrpEvent × ℕ))) → list_any (λ (v : VectorAttr). v.leave_all) (map (streak_vector false) ss) ≡ false
none_leave [] = refl
none_leave (s ∷ ss) = none_leave ss

leave_again : (leave : Bool) (ss : List (List (MrpEvent × ℕ))) → list_any (λ (v : VectorAttr). v.leave_all) (streak_vectors leave ss) ≡ leave
leave_again true [] = refl
leave_again false [] = refl
leave_again true (s ∷ ss) = refl
leave_again false (s ∷ ss) = none_leave ss

made : Bool → List (MrpEvent × ℕ) → MvrpPdu
made leave events = record { leave_all = leave; events = events }

meaning_again : (read : MvrpPdu) → AreVids read.events → meaning (pdu_for read) ≡ read
unfolding made
meaning_again read h =
    let vs = streak_vectors read.leave_all (streaks read.events) in
    ap (λ (b : Bool). made b (flat_map vector_events vs ++ [])) (or_no (list_any (λ (v : VectorAttr). v.leave_all) vs) ∙ leave_again read.leave_all (streaks read.events))
    ∙ ap (λ (es : List (MrpEvent × ℕ)). made read.leave_all es) (append-nil (flat_map vector_events vs) ∙ with_leave read.leave_all (streaks read.events) ∙ events_again read.events h)

pub reads_again : (read : MvrpPdu) → AreVids read.events → reading Mvrp (spelling Mvrp (pdu_for read)) ≡ Ok (pdu_for read) → mvrp_reading (mvrp_spelling read) ≡ Ok read
reads_again read h e = ap read_as e ∙ ap (λ (m : MvrpPdu). let r : Result MvrpPdu ℕ = Ok m in r) (meaning_again read h)

-- ---- what can be written

-- each streak has an event, and no more than there are
abbrev AreSmall : ℕ → List (List (MrpEvent × ℕ)) → Type 0
AreSmall n ss = AllByRecursion (λ s. (0 < length s) × (length s ≤ n)) ss

still_small : (m n : ℕ) (ss : List (List (MrpEvent × ℕ))) → m ≤ n → AreSmall m ss → AreSmall n ss
still_small m n [] le h = tt
still_small m n (s ∷ ss) le h = ((h.0.0, omega (arith, h.0.1)), still_small m n ss le h.1)

join_small : (n : ℕ) (x : MrpEvent × ℕ) (ss : List (List (MrpEvent × ℕ))) → AreSmall n ss → AreSmall (suc n) (join x ss)
join_small n x [] h = ((omega arith, omega arith), tt)
join_small n x ([] ∷ others) h = ((omega arith, omega arith), still_small n (suc n) others (omega arith) h.1)
join_small n x ((y ∷ ys) ∷ others) h =
    let small = still_small n (suc n) others (omega arith) h.1 in
    elim (cases_Bool (eqb (x.1 + 1) y.1)) [
      | inl follows ↦ rw follows ((omega arith, omega (arith, h.0.1)), small)
      | inr apart ↦ rw apart ((omega arith, omega arith), ((omega arith, omega (arith, h.0.1)), small))
    ]

streaks_small : (events : List (MrpEvent × ℕ)) → AreSmall (length events) (streaks events)
streaks_small [] = tt
streaks_small (x ∷ xs) = join_small (length xs) x (streaks xs) (streaks_small xs)

vid_form : TypeForm
vid_form = record { length = 2; four_packed = false }

streak_fits : (leave : Bool) (s : List (MrpEvent × ℕ)) → (leave || ltb 0 (length s)) ≡ true → length s ≤ 8191 → vector_fits vid_form (streak_vector leave s) ≡ true
unfolding vid_form
streak_fits leave [] some few = rw some refl
streak_fits leave (x ∷ xs) some few =
    let n : length (map (λ y. y.0) (x ∷ xs)) ≡ length (x ∷ xs) = length-map (x ∷ xs) (λ y. y.0) in
    and_from _ _ (and_from _ _ (and_from _ _ refl (ap (λ (k : ℕ). leave || ltb 0 k) n ∙ some)) (ap (λ (k : ℕ). leb k 8191) n ∙ le-leb (length (x ∷ xs)) 8191 few)) refl

or_some : (leave : Bool) (n : ℕ) → 0 < n → (leave || ltb 0 n) ≡ true
or_some true n h = refl
or_some false n h = lt-ltb 0 n h

all_fit : (n : ℕ) (ss : List (List (MrpEvent × ℕ))) → n ≤ 8191 → AreSmall n ss → list_all (vector_fits vid_form) (map (streak_vector false) ss) ≡ true
all_fit n [] few h = refl
all_fit n (s ∷ ss) few h = and_from _ _ (streak_fits false s (or_some false (length s) h.0.0) (omega (arith, h.0.1))) (all_fit n ss few h.1)

vectors_fit : (leave : Bool) (n : ℕ) (ss : List (List (MrpEvent × ℕ))) → n ≤ 8191 → AreSmall n ss → list_all (vector_fits vid_form) (streak_vectors leave ss) ≡ true
vectors_fit true n [] few h = and_from _ _ (streak_fits true [] refl (omega arith)) refl
vectors_fit false n [] few h = refl
vectors_fit true n (s ∷ ss) few h = and_from _ _ (streak_fits true s refl (omega (arith, h.0.1))) (all_fit n ss few h.1)
vectors_fit false n (s ∷ ss) few h = and_from _ _ (streak_fits false s (or_some false (length s) h.0.0) (omega (arith, h.0.1))) (all_fit n ss few h.1)

pub is_well_formed : (read : MvrpPdu) → IsWritable read → well_formed Mvrp (pdu_for read) ≡ true
unfolding vid_form
is_well_formed read w =
    and_from _ _ refl (and_from _ _ (and_from _ _ (vectors_fit read.leave_all (length read.events) (streaks read.events) (omega (arith, w.few)) (streaks_small read.events)) refl) refl)

-- ---- how many octets

-- a vector has at most 4 octets, and one for each event
streak_size : (leave : Bool) (s : List (MrpEvent × ℕ)) → vector_size (streak_vector leave s) ≤ 4 + length s
streak_size leave [] = omega arith
streak_size leave (x ∷ xs) = omega (arith, length-map (x ∷ xs) (λ y. y.0))

-- 5 octets for each event are enough
streaks_size : (n : ℕ) (ss : List (List (MrpEvent × ℕ))) → AreSmall n ss → vectors_size (map (streak_vector false) ss) ≤ 5 * length (events_of_streaks ss)
streaks_size n [] h = omega arith
streaks_size n (s ∷ ss) h =
    omega (arith, sum_by-cons vector_size (streak_vector false s) (map (streak_vector false) ss), length-append s (events_of_streaks ss), streak_size false s, streaks_size n ss h.1, h.0.0)

leave_size : (leave : Bool) (ss : List (List (MrpEvent × ℕ))) → vectors_size (streak_vectors leave ss) ≤ vectors_size (map (streak_vector false) ss) + 4
leave_size true [] = omega arith
leave_size false [] = omega arith
leave_size true (s ∷ ss) = omega arith
leave_size false (s ∷ ss) = omega arith

pub few_in_all : (read : MvrpPdu) → IsWritable read → length (mvrp_spelling read) ≡ pdu_size Mvrp (pdu_for read) → length (mvrp_spelling read) ≤ 1500
few_in_all read w size =
    let ss = streaks read.events in
    omega (arith, size, w.few, leave_size read.leave_all ss, streaks_size (length read.events) ss (streaks_small read.events), ap length (streaks_joined read.events))

-- ---- what `encode` writes

framed_spelling : (vs : List VectorAttr) → pdu_around (vectors_octets (vectors_for vs)) ≡ spelling Mvrp (one_message vs)
framed_spelling vs =
    let octets = vectors_octets (vectors_for vs) in
    let mark : List ℕ = 0 ∷ 0 ∷ [] in
    ap (λ (os : List ℕ). 0 ∷ 1 ∷ 2 ∷ os) (sym (ap (λ (os : List ℕ). os ++ mark) (append-nil (octets ++ mark)) ∙ append_assoc octets mark mark))

pub octets_are : (octets : List ℕ) (events : List (MrpEvent × ℕ)) (read : MvrpPdu) → octets ≡ pdu_around (streaks_octets read.leave_all (streaks events))
    → events ≡ read.events → octets ≡ mvrp_spelling read
octets_are octets events read e f =
    e ∙ ap (λ (es : List (MrpEvent × ℕ)). pdu_around (streaks_octets read.leave_all (streaks es))) f ∙ framed_spelling (streak_vectors read.leave_all (streaks read.events))
