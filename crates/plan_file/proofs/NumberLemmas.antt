-- Numbers one after the other, and those that fill what is missing.
use Rattle.std.proofs.Common.{◌≡◌, ◌≢◌, ◌∙◌, ℕ, zero, suc, ◌+◌, ◌-◌, ◌<◌, ◌≤◌, Bool, true, false, not, cond, List, [], ◌∷◌, ◌++◌, refl, ap, sym, subst, Option, Some, None, length, get_or, drop, filter, if◌then◌else◌, append_assoc, append-nil, arith}
use Rattle.std.proofs.lemmas.List.{drop_more, drop_all}
use Rattle.plan_file.specs.{numbers_from, filled}

-- the first of some numbers, and the others
pub numbers_more : (from count i : ℕ) → i < count
    → numbers_from (from + i) (count - i) ≡ (from + i) ∷ numbers_from (from + (i + 1)) (count - (i + 1))
unfolding numbers_from
numbers_more from count i lt =
    let size : count - i ≡ suc (count - (i + 1)) = omega (arith, lt) in
    let next : from + i + 1 ≡ from + (i + 1) = omega arith in
    ap (numbers_from (from + i)) size ∙ ap (λ n. (from + i) ∷ numbers_from n (count - (i + 1))) next

-- a number that is missing takes the next free one
next-free : (free : List ℕ) (rest : List (Option ℕ)) (i : ℕ)
    → filled (drop i free) (None ∷ rest) ≡ get_or free i 0 ∷ filled (drop (suc i) free) rest
next-free [] rest zero = refl
next-free [] rest (suc i) = refl
next-free (n ∷ free) rest zero = refl
next-free (n ∷ free) rest (suc i) = next-free free rest i

pub filled_missing : (free : List ℕ) (rest : List (Option ℕ)) (i : ℕ)
    → filled (drop i free) (None ∷ rest) ≡ get_or free i 0 ∷ filled (drop (i + 1) free) rest
filled_missing free rest i =
    let next : suc i ≡ i + 1 = omega arith in
    next-free free rest i ∙ ap (λ k. get_or free i 0 ∷ filled (drop k free) rest) next

pub length_filled : (free : List ℕ) (given : List (Option ℕ)) → length (filled free given) ≡ length given
length_filled free [] = refl
length_filled free (Some n ∷ rest) = ap suc (length_filled free rest)
length_filled [] (None ∷ rest) = ap suc (length_filled [] rest)
length_filled (n ∷ free) (None ∷ rest) = ap suc (length_filled free rest)

-- nothing is left behind the last
pub numbers_end : (from count i : ℕ) → count ≤ i → numbers_from (from + i) (count - i) ≡ []
unfolding numbers_from
numbers_end from count i le = let none : count - i ≡ 0 = omega (arith, le) in ap (numbers_from (from + i)) none

-- one more number, which is put behind those that pass
pub where-step : (said : ℕ → Bool) (from count i : ℕ) (front more : List ℕ) (passes : Bool) (whole : List ℕ) → i < count → passes ≡ said (from + i)
    → more ≡ front ++ (if passes then (from + i) ∷ [] else []) → front ++ filter said (numbers_from (from + i) (count - i)) ≡ whole
    → more ++ filter said (numbers_from (from + (i + 1)) (count - (i + 1))) ≡ whole
where-step said from count i front more passes whole lt is new h =
    let rest = filter said (numbers_from (from + (i + 1)) (count - (i + 1))) in
    ap (λ ys. ys ++ rest) new ∙ append_assoc front (if passes then (from + i) ∷ [] else []) rest
    ∙ ap (λ ys. front ++ ys) (by passes ∙ ap (λ b. cond b ((from + i) ∷ rest) rest) is ∙ ap (filter said) (sym (numbers_more from count i lt))) ∙ h
  where
    by : (b : Bool) → (if b then (from + i) ∷ [] else []) ++ filter said (numbers_from (from + (i + 1)) (count - (i + 1)))
        ≡ cond b ((from + i) ∷ filter said (numbers_from (from + (i + 1)) (count - (i + 1)))) (filter said (numbers_from (from + (i + 1)) (count - (i + 1))))
    by true = refl
    by false = refl

-- no number is left
pub where-over : (said : ℕ → Bool) (from count i : ℕ) (front whole : List ℕ) → count ≤ i
    → front ++ filter said (numbers_from (from + i) (count - i)) ≡ whole → front ≡ whole
where-over said from count i front whole le h =
    sym (append-nil front) ∙ ap (λ ys. front ++ filter said ys) (sym (numbers_end from count i le)) ∙ h

-- one more number that is filled in
pub filled-step : (free : List ℕ) (given : List (Option ℕ)) (i place next n : ℕ) (front more : List ℕ) (x : Option ℕ) (whole : List ℕ) → i < length given → x ≡ get_or given i x
    → ((rest : List (Option ℕ)) → filled (drop place free) (x ∷ rest) ≡ n ∷ filled (drop next free) rest)
    → more ≡ front ++ (n ∷ []) → front ++ filled (drop place free) (drop i given) ≡ whole → more ++ filled (drop next free) (drop (i + 1) given) ≡ whole
filled-step free given i place next n front more x whole lt here is new h =
    let cut : drop i given ≡ x ∷ drop (i + 1) given = drop_more given i x lt ∙ ap (λ t. t ∷ drop (i + 1) given) (sym here) in
    ap (λ ys. ys ++ filled (drop next free) (drop (i + 1) given)) new ∙ append_assoc front (n ∷ []) (filled (drop next free) (drop (i + 1) given))
    ∙ ap (λ ys. front ++ ys) (sym (is (drop (i + 1) given)) ∙ ap (filled (drop place free)) (sym cut)) ∙ h
