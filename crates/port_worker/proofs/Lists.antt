-- Lists by places, and what holds of each of their elements.
use Rattle.std.proofs.Common.{◌≡◌, ◌⊎◌, inl, inr, ℕ, zero, suc, ◌+◌, ◌-◌, ◌<◌, ◌≤◌, List, [], ◌∷◌, ◌++◌, length, map, refl, sym, ap, ◌∙◌, append_assoc, arith}
use Rattle.std.specs.Prelude.{slice_get, Some}
use Rattle.std.specs.List.{range_with_len}
use Rattle.std.proofs.lemmas.{List.append-nil, List.length-append}
use Rattle.srp_base.proofs.Lists.{range_more}

pub up_to : (k x : ℕ) → k ≤ x + 1 → (k ≤ x) ⊎ (k ≡ x + 1)
up_to zero x le = inl (omega arith)
up_to (suc k) zero le = inr (omega (arith, le))
up_to (suc k) (suc x) le = shift (up_to k x (omega (arith, le)))
  where
    shift : (k ≤ x) ⊎ (k ≡ x + 1) → (suc k ≤ suc x) ⊎ (suc k ≡ suc x + 1)
    shift (inl h) = inl (omega (arith, h))
    shift (inr h) = inr (omega (arith, h))

-- ---- places

-- what stands at a place of a list with one element more
pub get_push : {X : Type 0} (xs : List X) (x y : X) (k : ℕ) → slice_get (xs ++ x ∷ []) k ≡ Some y → (slice_get xs k ≡ Some y) ⊎ ((k ≡ length xs) × (x ≡ y))
get_push [] x y zero e = inr (refl, cc)
get_push [] x y (suc k) e = cc
get_push (z ∷ xs) x y zero e = inl e
get_push (z ∷ xs) x y (suc k) e = by (get_push xs x y k e)
  where
    by : (slice_get xs k ≡ Some y) ⊎ ((k ≡ length xs) × (x ≡ y)) → (slice_get xs k ≡ Some y) ⊎ ((suc k ≡ suc (length xs)) × (x ≡ y))
    by (inl h) = inl h
    by (inr h) = inr (ap suc h.0, h.1)

-- what a function makes of a number of a range
pub get_range : {X : Type 0} (f : ℕ → X) (a n k : ℕ) → k < n → slice_get (map f (range_with_len a n)) k ≡ Some (f (a + k))
get_range f a zero k lt = absurd (omega (arith, lt))
get_range f a (suc n) zero lt = let e : a ≡ a + 0 = omega arith in ap (λ (i : ℕ). Some (f i)) e
get_range f a (suc n) (suc k) lt =
    let e : a + 1 + k ≡ a + suc k = omega arith in
    get_range f (a + 1) n k (omega (arith, lt)) ∙ ap (λ (i : ℕ). Some (f i)) e

-- one number of a range more
pub one_more : {X : Type 0} (f : ℕ → X) (a n : ℕ) (xs next : List X) (x : X) (all : List X) → a < n → x ≡ f a
    → next ≡ xs ++ x ∷ [] → xs ++ map f (range_with_len a (n - a)) ≡ all → next ++ map f (range_with_len (a + 1) (n - (a + 1))) ≡ all
one_more f a n xs next x all lt own push so_far =
    let less : n - (a + 1) ≡ n - a - 1 = omega (arith, lt) in
    ap (λ (k : ℕ). next ++ map f (range_with_len (a + 1) k)) less
    ∙ (ap (λ y. y ++ map f (range_with_len (a + 1) (n - a - 1))) (push ∙ ap (λ y. xs ++ y ∷ []) own)
    ∙ (append_assoc xs (f a ∷ []) (map f (range_with_len (a + 1) (n - a - 1)))
    ∙ (ap (λ y. xs ++ y) (sym (range_more f a (n - a) (omega (arith, lt)))) ∙ so_far)))

-- the element behind others
pub get_middle : {X : Type 0} (ys zs : List X) (x : X) → slice_get (ys ++ x ∷ zs) (length ys) ≡ Some x
get_middle [] zs x = refl
get_middle (y ∷ ys) zs x = get_middle ys zs x

-- ---- a list that is taken apart from the front

pub rest_less : {X : Type 0} (ys rest next all : List X) (x : X) → rest ≡ x ∷ next → ys ++ rest ≡ all → (ys ++ x ∷ []) ++ next ≡ all
rest_less ys rest next all x is so_far = append_assoc ys (x ∷ []) next ∙ (ap (λ r. ys ++ r) (sym is) ∙ so_far)

pub rest_first : {X : Type 0} (ys rest next all : List X) (x : X) → rest ≡ x ∷ next → ys ++ rest ≡ all → slice_get all (length ys) ≡ Some x
rest_first ys rest next all x is so_far = ap (λ xs. slice_get xs (length ys)) (sym so_far ∙ ap (λ r. ys ++ r) is) ∙ get_middle ys next x

pub rest_none : {X : Type 0} (ys rest all : List X) → rest ≡ [] → ys ++ rest ≡ all → ys ≡ all
rest_none ys rest all is so_far = sym (append-nil ys) ∙ (ap (λ r. ys ++ r) (sym is) ∙ so_far)

pub count_more : {X Y : Type 0} (xs next : List X) (x : X) (ys : List Y) (y : Y) → next ≡ xs ++ x ∷ [] → length xs ≡ length ys → length next ≡ length (ys ++ y ∷ [])
count_more xs next x ys y push count =
    ap length push ∙ (length-append xs (x ∷ []) ∙ (ap (λ (k : ℕ). k + 1) count ∙ sym (length-append ys (y ∷ []))))

-- ---- each element
