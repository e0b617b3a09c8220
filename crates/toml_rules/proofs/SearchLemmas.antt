-- How the first entry that a test passes, or whose key falls, is looked for.
use Rattle.std.proofs.Common.{◌≡◌, ℕ, ◌+◌, ◌<◌, ◌≤◌, Bool, true, false, if◌then◌else◌, List, ◌∷◌, Option, Some, None, map, length, get_or, take, drop, sym, ap, ◌∙◌}
use Rattle.std.proofs.lemmas.{List.drop_more, List.drop_all}
use Rattle.srp_base.proofs.Arithmetic.{lt-true, lt-false}
use Rattle.srp_base.specs.Firsts.{first_where}
use Rattle.srp_base.proofs.FirstLemmas.{where-here, where-later, where-end}
use Rattle.toml_rules.specs.{first_fall}

-- ---- the first that a test passes

-- an entry that the test doesn't pass
pub where-step : {T : Type 0} (said : List T → T → Bool) (xs : List T) (i : ℕ) (x : T) (r : Bool) (whole : Option ℕ)
    → i < length xs → x ≡ get_or xs i x → r ≡ said (take i xs) x → r ≡ false
    → first_where said (take i xs) (drop i xs) ≡ whole → first_where said (take (i + 1) xs) (drop (i + 1) xs) ≡ whole
where-step said xs i x r whole lt is q off h =
    sym (where-later said xs i x lt (ap (λ y. said (take i xs) y) (sym is) ∙ sym q ∙ off)) ∙ h

-- one that it passes
pub where-found : {T : Type 0} (said : List T → T → Bool) (xs : List T) (i : ℕ) (x : T) (r : Bool) (whole : Option ℕ)
    → i < length xs → x ≡ get_or xs i x → r ≡ said (take i xs) x → r ≡ true
    → first_where said (take i xs) (drop i xs) ≡ whole → Some (i + 1) ≡ whole
where-found said xs i x r whole lt is q on h =
    sym (where-here said xs i x lt (ap (λ y. said (take i xs) y) (sym is) ∙ sym q ∙ on)) ∙ h

-- no entry is left
pub where-over : {T : Type 0} (said : List T → T → Bool) (xs : List T) (i : ℕ) (whole : Option ℕ)
    → length xs ≤ i → first_where said (take i xs) (drop i xs) ≡ whole → None ≡ whole
where-over said xs i whole le h = sym (where-end said xs i le) ∙ h

-- ---- the first whose key falls

-- the keys from a place on: that of the entry there, and then the others
fall-here : {T : Type 0} (said : T → ℕ) (xs : List T) (i before now : ℕ) (x : T) → i < length xs → x ≡ get_or xs i x → now ≡ said x
    → first_fall (i + 1) before (map said (drop i xs)) ≡ first_fall (i + 1) before (now ∷ map said (drop (i + 1) xs))
fall-here said xs i before now x lt is q =
    ap (λ ts. first_fall (i + 1) before (map said ts)) (drop_more xs i x lt ∙ ap (λ t. t ∷ drop (i + 1) xs) (sym is))
    ∙ ap (λ k. first_fall (i + 1) before (k ∷ map said (drop (i + 1) xs))) (sym q)

-- an entry whose key doesn't fall
pub fall-step : {T : Type 0} (said : T → ℕ) (xs : List T) (i before now : ℕ) (x : T) (whole : Option ℕ)
    → i < length xs → x ≡ get_or xs i x → now ≡ said x → before ≤ now
    → first_fall (i + 1) before (map said (drop i xs)) ≡ whole → first_fall (i + 1 + 1) now (map said (drop (i + 1) xs)) ≡ whole
fall-step said xs i before now x whole lt is q le h =
    let rest = first_fall (i + 1 + 1) now (map said (drop (i + 1) xs)) in
    sym (fall-here said xs i before now x lt is q ∙ ap (λ (b : Bool). if b then Some (i + 1) else rest) (lt-false now before le)) ∙ h

-- one whose key falls
pub fall-found : {T : Type 0} (said : T → ℕ) (xs : List T) (i before now : ℕ) (x : T) (whole : Option ℕ)
    → i < length xs → x ≡ get_or xs i x → now ≡ said x → now < before
    → first_fall (i + 1) before (map said (drop i xs)) ≡ whole → Some (i + 1) ≡ whole
fall-found said xs i before now x whole lt is q less h =
    let rest = first_fall (i + 1 + 1) now (map said (drop (i + 1) xs)) in
    sym (fall-here said xs i before now x lt is q ∙ ap (λ (b : Bool). if b then Some (i + 1) else rest) (lt-true now before less)) ∙ h

-- no entry is left
pub fall-over : {T : Type 0} (said : T → ℕ) (xs : List T) (i before : ℕ) (whole : Option ℕ)
    → length xs ≤ i → first_fall (i + 1) before (map said (drop i xs)) ≡ whole → None ≡ whole
fall-over said xs i before whole le h = sym (ap (λ ts. first_fall (i + 1) before (map said ts)) (drop_all i xs le)) ∙ h
