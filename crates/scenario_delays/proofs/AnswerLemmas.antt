-- Answers side by side with what they are given to.
use Rattle.std.proofs.Common.{◌≡◌, ℕ, ◌+◌, ◌<◌, Bool, true, false, List, [], ◌∷◌, ◌++◌, length, get_or, take, filter, cond, ap, ◌∙◌, append-nil, arith}
use Rattle.std.specs.List.{AllZip}
use Rattle.std.proofs.lemmas.List.{take_more}
use Rattle.std.proofs.lemmas.List.Elements.{filter-append}

more_passes : {X : Type 0} (p : X → Bool) (xs : List X) (i : ℕ) (x : X) → i < length xs → get_or xs i x ≡ x → p x ≡ true
    → filter p (take (i + 1) xs) ≡ filter p (take i xs) ++ x ∷ []
more_passes p xs i x lt is h = grind (arith, take_more xs i x lt, filter-append p (take i xs) (x ∷ []))

no_more_passes : {X : Type 0} (p : X → Bool) (xs : List X) (i : ℕ) (x : X) → i < length xs → get_or xs i x ≡ x → p x ≡ false
    → filter p (take (i + 1) xs) ≡ filter p (take i xs)
no_more_passes p xs i x lt is h =
    ap (filter p) (take_more xs i x lt ∙ ap (λ y. take i xs ++ y ∷ []) is)
    ∙ (filter-append p (take i xs) (x ∷ []) ∙ (ap (λ b. filter p (take i xs) ++ cond b (x ∷ []) []) h ∙ append-nil (filter p (take i xs))))

zip_more : {X Y : Type 0} (R : X → Y → Type 0) (xs : List X) (ys : List Y) (x : X) (y : Y) → AllZip R xs ys → R x y → AllZip R (xs ++ x ∷ []) (ys ++ y ∷ [])
zip_more R [] [] x y all r = (r, tt)
zip_more R [] (b ∷ ys) x y all r = absurd all
zip_more R (a ∷ xs) [] x y all r = absurd all
zip_more R (a ∷ xs) (b ∷ ys) x y all r = (all.0, zip_more R xs ys x y all.1 r)

pub answered : {X Y : Type 0} (R : X → Y → Type 0) (p : X → Bool) (xs : List X) (i : ℕ) (x : X) (ys : List Y) (y : Y) → i < length xs → get_or xs i x ≡ x
    → p x ≡ true → AllZip R (filter p (take i xs)) ys → R x y → AllZip R (filter p (take (i + 1) xs)) (ys ++ y ∷ [])
answered R p xs i x ys y lt is h all r =
    rw (more_passes p xs i x lt is h) (zip_more R (filter p (take i xs)) ys x y all r)

pub passed_over : {X Y : Type 0} (R : X → Y → Type 0) (p : X → Bool) (xs : List X) (i : ℕ) (x : X) (ys : List Y) → i < length xs → get_or xs i x ≡ x
    → p x ≡ false → AllZip R (filter p (take i xs)) ys → AllZip R (filter p (take (i + 1) xs)) ys
passed_over R p xs i x ys lt is h all = rw (no_more_passes p xs i x lt is h) all
