-- Lists that a loop makes.
use Rattle.std.proofs.Common.{◌≡◌, ℕ, zero, suc, ◌+◌, ◌-◌, ◌<◌, List, [], ◌∷◌, ◌++◌, length, map, take, drop, get_or, refl, sym, ap, ◌∙◌, append_assoc, arith}
use Rattle.std.specs.Prelude.{flat_map, ◌==◌, true, false}
use Rattle.std.proofs.lemmas.{Bool.Decides.nat_tests}
use Rattle.std.specs.List.{range_with_len}
use Rattle.srp_base.proofs.Lists.{range_more}

ranges_more : {B : Type 0} (f : ℕ → List B) (a c : ℕ) → 0 < c → flat_map f (range_with_len a c) ≡ f a ++ flat_map f (range_with_len (a + 1) (c - 1))
ranges_more f a zero lt = absurd (omega (arith, lt))
ranges_more f a (suc c) lt = let less : c ≡ suc c - 1 = omega arith in ap (λ (k : ℕ). f a ++ flat_map f (range_with_len (a + 1) k)) less

-- one element more, where so many are left
pub one_more : {B : Type 0} (f : ℕ → B) (a c d : ℕ) (done next : List B) (y : B) (all : List B) → 0 < c → d ≡ c - 1 → y ≡ f a → next ≡ done ++ y ∷ []
    → done ++ map f (range_with_len a c) ≡ all → next ++ map f (range_with_len (a + 1) d) ≡ all
one_more f a c d done next y all lt less own push so_far =
    ap (λ (k : ℕ). next ++ map f (range_with_len (a + 1) k)) less
    ∙ (ap (λ x. x ++ map f (range_with_len (a + 1) (c - 1))) (push ∙ ap (λ x. done ++ x ∷ []) own)
    ∙ (append_assoc done (f a ∷ []) (map f (range_with_len (a + 1) (c - 1))) ∙ (ap (λ x. done ++ x) (sym (range_more f a c lt)) ∙ so_far)))

-- one list more
pub list_more : {B : Type 0} (f : ℕ → List B) (a c d : ℕ) (done next : List B) (all : List B) → 0 < c → d ≡ c - 1 → next ≡ done ++ f a
    → done ++ flat_map f (range_with_len a c) ≡ all → next ++ flat_map f (range_with_len (a + 1) d) ≡ all
list_more f a c d done next all lt less push so_far =
    ap (λ (k : ℕ). next ++ flat_map f (range_with_len (a + 1) k)) less
    ∙ (ap (λ x. x ++ flat_map f (range_with_len (a + 1) (c - 1))) push
    ∙ (append_assoc done (f a) (flat_map f (range_with_len (a + 1) (c - 1))) ∙ (ap (λ x. done ++ x) (sym (ranges_more f a c lt)) ∙ so_far)))

-- a list is its front, the element at a place, and what stands behind it
pub at_place : {X : Type 0} (xs : List X) (i : ℕ) (d : X) → i < length xs → xs ≡ take i xs ++ get_or xs i d ∷ drop (suc i) xs
at_place [] i d lt = absurd (omega (arith, lt))
at_place (x ∷ xs) zero d lt = refl
at_place (x ∷ xs) (suc i) d lt = ap (λ ys. x ∷ ys) (at_place xs i d (omega (arith, lt)))

take_next : {X : Type 0} (xs : List X) (i : ℕ) (d : X) → i < length xs → take (suc i) xs ≡ take i xs ++ get_or xs i d ∷ []
take_next [] i d lt = absurd (omega (arith, lt))
take_next (x ∷ xs) zero d lt = refl
take_next (x ∷ xs) (suc i) d lt = ap (λ ys. x ∷ ys) (take_next xs i d (omega (arith, lt)))

-- its front with this element is its front up to the next place
pub take_place : {X : Type 0} (xs : List X) (i : ℕ) (d : X) → i < length xs → take (i + 1) xs ≡ take i xs ++ get_or xs i d ∷ []
take_place xs i d lt = let more : i + 1 ≡ suc i = omega arith in ap (λ k. take k xs) more ∙ take_next xs i d lt

-- what an empty text is told by
pub full : (xs : List ℕ) → (length xs == 0) ≡ false → xs ≡ [] → ⊥
full [] h e = cc
full (x ∷ xs) h e = cc

pub void : (xs : List ℕ) → (length xs == 0) ≡ true → xs ≡ []
void [] h = refl
void (x ∷ xs) h = absurd (grind (arith, nat_tests, h))
