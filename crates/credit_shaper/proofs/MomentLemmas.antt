-- Lists in order of bit times: what lies before and after an index.
use Rattle.std.proofs.Common.{◌≡◌, ℕ, zero, suc, ◌+◌, ◌<◌, ◌≤◌, List, [], ◌∷◌, length, get_or, take, refl, ap, subst, arith, inl, inr, Bool, true, false, ◌++◌}
use Rattle.std.specs.Prelude.{All, AllPairs, filter, nat_le, ◌==◌}
use Rattle.std.specs.List.{AllWithin, AllAdjacentBelow}
use Rattle.std.proofs.lemmas.{Bool.cases_lt, Bool.cases_eq, Bool.ne_eqb, Bool.eq-eqb, Bool.lt-leb, Bool.le-leb, List.get_or_default, List.Elements.All-head, List.Elements.All-tail}
use Rattle.credit_shaper.specs.{SlopeChange, Arrival, A, IsNotAfter, no_slopes, last_change, arrivals_at, IsReached, arrival_bit, change_bit, newest}
use Rattle.credit_shaper.proofs.PairLemmas.{pairs-from-adjacent}

-- no element is before an earlier one
abbrev pub IsNonDescending : {X : Type 0} → (X → ℕ) → List X → Type 0
IsNonDescending {X} bit_of xs = (i j : ℕ) (d : X) → i ≤ j → j < length xs → bit_of (get_or xs i d) ≤ bit_of (get_or xs j d)

pub not_after : (x y : Arrival) → IsNotAfter x y → x.bit ≤ y.bit
not_after x y h1 = grind arith

pub in_order_arrivals : (xs : List Arrival) → AllPairs IsNotAfter xs → IsNonDescending arrival_bit xs
in_order_arrivals xs order i j d l h = grind (arith, cases_eq, not_after)

pub in_order_changes : (xs : List SlopeChange) → AllPairs (λ x y. x.bit < y.bit) xs → IsNonDescending change_bit xs
in_order_changes xs order i j d l h = grind (arith, cases_eq)

-- an element that is read of before list
abbrev pub blank : Arrival
blank = record { bit = 0; traffic = A; bits = 0; frame = 0 }

-- from an element on that isn't before a bit time, none is
pub all_later : {X : Type 0} (bit_of : X → ℕ) (xs : List X) (t i : ℕ) (e : X) → IsNonDescending bit_of xs
    → i < length xs → t ≤ bit_of (get_or xs i e) → AllWithin (λ y. t ≤ bit_of y) xs i (length xs)
all_later bit_of xs t i e order l h k d from to =
    let here : bit_of (get_or xs i e) ≡ bit_of (get_or xs i d) = ap bit_of (get_or_default xs i e d l) in
    let up : bit_of (get_or xs i d) ≤ bit_of (get_or xs k d) = order i k d from to in
    omega (arith, here, up, h)

-- the last of the first changes
pub newest-take : (xs : List SlopeChange) (n : ℕ) (current d : SlopeChange) → n < length xs
    → newest current (take (suc n) xs) ≡ get_or xs n d
newest-take [] n current d l = absurd (omega (arith, l))
newest-take (x ∷ xs) zero current d l = refl
newest-take (x ∷ xs) (suc n) current d l = newest-take xs n x d (omega (arith, l))

-- more is reached by a later bit time
pub reached_more : {X : Type 0} (bit_of : X → ℕ) (xs : List X) (s t m n : ℕ) (d : X) → s ≤ t
    → IsReached bit_of s m xs → IsReached bit_of t n xs → m ≤ n
reached_more bit_of xs s t m n d up low high =
    elim (cases_lt n m) [
      | inl l ↦
          let early : bit_of (get_or xs n d) < s = low.before n d (omega arith) l in
          let late : t ≤ bit_of (get_or xs n d) = high.later n d (omega arith) (omega (arith, l, low.within)) in
          absurd (omega (arith, early, late, up))
      | inr l ↦ l
    ]

-- what passes a test, where that is a part of the list
filter_part : {X : Type 0} (p : X → Bool) (xs : List X) (m n : ℕ) → m ≤ n → n ≤ length xs
    → AllWithin (λ x. p x ≡ false) xs 0 m → AllWithin (λ x. p x ≡ true) xs m n
    → AllWithin (λ x. p x ≡ false) xs n (length xs) → take n xs ≡ take m xs ++ filter p xs
filter_part p [] zero zero up l before in_part after = refl
filter_part p [] (suc m) n up l before in_part after = absurd (omega (arith, up, l))
filter_part p [] zero (suc n) up l before in_part after = absurd (omega (arith, l))
filter_part p (x ∷ xs) zero zero up l before in_part after =
    let out : p x ≡ false = after 0 x (omega arith) (omega arith) in
    let rest : [] ≡ filter p xs = filter_part p xs 0 0 (omega arith) (omega arith)
    (λ k d a b. absurd (omega (arith, b))) (λ k d a b. absurd (omega (arith, b))) (λ k d a b. after (suc k) d (omega arith) (omega (arith, b))) in
    rw out rest
filter_part p (x ∷ xs) zero (suc n) up l before in_part after =
    let inside : p x ≡ true = in_part 0 x (omega arith) (omega arith) in
    let rest : take n xs ≡ filter p xs = filter_part p xs 0 n (omega arith) (omega (arith, l))
    (λ k d a b. absurd (omega (arith, b))) (λ k d a b. in_part (suc k) d (omega arith) (omega (arith, b))) (λ k d a b. after (suc k) d (omega (arith, a)) (omega (arith, b))) in
    rw inside (ap (λ ys. x ∷ ys) rest)
filter_part p (x ∷ xs) (suc m) zero up l before in_part after = absurd (omega (arith, up))
filter_part p (x ∷ xs) (suc m) (suc n) up l before in_part after =
    let out : p x ≡ false = before 0 x (omega arith) (omega arith) in
    let rest : take n xs ≡ take m xs ++ filter p xs = filter_part p xs m n (omega (arith, up)) (omega (arith, l))
    (λ k d a b. before (suc k) d (omega arith) (omega (arith, b))) (λ k d a b. in_part (suc k) d (omega (arith, a)) (omega (arith, b)))
    (λ k d a b. after (suc k) d (omega (arith, a)) (omega (arith, b))) in
    rw out (ap (λ ys. x ∷ ys) rest)

-- the arrivals of a bit time are those between what was reached before it and by it
pub arrivals_join : (xs : List Arrival) (t m n : ℕ) → IsReached arrival_bit t m xs → IsReached arrival_bit (t + 1) n xs
    → take n xs ≡ take m xs ++ arrivals_at xs t
arrivals_join xs t m n low high =
    filter_part (λ x. x.bit == t) xs m n (reached_more arrival_bit xs t (t + 1) m n blank (omega arith) low high) high.within
    (λ k d a b. ne_eqb (get_or xs k d).bit t (λ e. let f : (get_or xs k d).bit < t = low.before k d a b in omega (arith, e, f)))
    (λ k d a b. eq-eqb (get_or xs k d).bit t
    (let f : t ≤ (get_or xs k d).bit = low.later k d a (omega (arith, b, high.within)) in
    let g : (get_or xs k d).bit < t + 1 = high.before k d (omega arith) b in
    omega (arith, f, g)))
    (λ k d a b. ne_eqb (get_or xs k d).bit t (λ e. let f : t + 1 ≤ (get_or xs k d).bit = high.later k d a b in omega (arith, e, f)))

-- where nothing passes a test nothing is kept
pub filter_nothing : {X : Type 0} (p : X → Bool) (xs : List X) → All (λ x. p x ≡ false) xs → filter p xs ≡ []
filter_nothing p [] all = refl
filter_nothing p (x ∷ xs) all = grind (arith, filter_nothing p xs (All-tail (λ y. p y ≡ false) x xs all), All-head, All-tail)

-- nothing arrives between two bit times by which the same is reached
pub arrivals_none : (xs : List Arrival) (s t n k : ℕ) → IsReached arrival_bit s n xs → IsReached arrival_bit t n xs
    → s ≤ k → k < t → arrivals_at xs k ≡ []
arrivals_none xs s t n k low high from to = grind (arith, filter_nothing, ne_eqb, cases_lt)

-- no change is in force where all are later
change_none : (xs : List SlopeChange) (t : ℕ) (current : SlopeChange) → AllWithin (λ x. t < x.bit) xs 0 (length xs)
    → last_change t current xs ≡ current
change_none [] t current late = refl
change_none (x ∷ xs) t current late =
    let out : nat_le x.bit t ≡ false = lt-leb x.bit t (late 0 x (omega arith) (omega arith)) in
    rw out (change_none xs t current (λ k d a b. late (suc k) d (omega arith) (omega (arith, b))))

last_change_is : (xs : List SlopeChange) (n t : ℕ) (current : SlopeChange) → n ≤ length xs
    → AllWithin (λ x. x.bit ≤ t) xs 0 n → AllWithin (λ x. t < x.bit) xs n (length xs)
    → last_change t current xs ≡ newest current (take n xs)
last_change_is xs zero t current l early late = change_none xs t current late
last_change_is [] (suc n) t current l early late = absurd (omega (arith, l))
last_change_is (x ∷ xs) (suc n) t current l early late =
    let inside : nat_le x.bit t ≡ true = le-leb x.bit t (early 0 x (omega arith) (omega arith)) in
    rw inside (last_change_is xs n t x (omega (arith, l)) (λ k d a b. early (suc k) d (omega arith) (omega (arith, b))) (λ k d a b. late (suc k) d (omega (arith, a)) (omega (arith, b))))

-- the slopes in force in a bit time are the last of those reached
pub slopes_reached : (xs : List SlopeChange) (s t n k : ℕ) → IsReached change_bit s n xs → IsReached change_bit t n xs
    → s ≤ k + 1 → k < t → last_change k no_slopes xs ≡ newest no_slopes (take n xs)
slopes_reached xs s t n k low high from to = grind (arith, last_change_is)

not_after_trans : (x y z : Arrival) → IsNotAfter x y → IsNotAfter y z → IsNotAfter x z
not_after_trans x y z h1 h2 = grind (arith, not_after)

pub arrivals_ascend : (xs : List Arrival) → AllAdjacentBelow IsNotAfter xs (length xs) → AllPairs IsNotAfter xs
arrivals_ascend = pairs-from-adjacent IsNotAfter not_after_trans

pub changes_ascend : (xs : List SlopeChange) → AllAdjacentBelow (λ x y. x.bit < y.bit) xs (length xs) → AllPairs (λ x y. x.bit < y.bit) xs
changes_ascend = pairs-from-adjacent (λ x y. x.bit < y.bit) (λ x y z f g. omega (arith, f, g))
