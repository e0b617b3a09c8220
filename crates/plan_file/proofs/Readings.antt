-- What makes a rule on each entry pass, and a reading that may be missing be there.
use Rattle.std.proofs.Common.{◌≡◌, ◌≢◌, ◌∙◌, ℕ, zero, suc, ◌+◌, ◌-◌, ◌<◌, ◌≤◌, Bool, true, false, ◌&&◌, if◌then◌else◌, List, [], ◌∷◌, map, length, get_or, take, drop, get_or-take, Option, Some, None, option_map, option_and_then, Result, Ok, refl, sym, ap, nat_le, le-leb, arith}
use Rattle.std.proofs.lemmas.{List.get_or_default, List.length-take-le, List.Elements.All-head, List.Elements.All-map, List.Elements.All-tail, List.Folds.list_any_none, List.Kept.AllPairs-cons}
use Rattle.std.specs.List.{All, list_any}
use Rattle.std.specs.Prelude.{AllPairs}
use Rattle.srp_base.specs.{Firsts.first_where, Results.◌>>=◌}
use Rattle.srp_base.proofs.FirstLemmas.{where-end, where-later}
use Rattle.toml_rules.specs.declared.rules.RuleErr.{RuleErr}
use Rattle.toml_rules.specs.{Fields.within, Rules.each_entry, Rules.entry_then, Rules.no_entry, Rules.with_front}
use Rattle.topology_file.proofs.Chains.{an_element}

-- ---- a reading that is there

pub then-some : {A B : Type 0} (f : A → Option B) (o : Option A) (x : A) → o ≡ Some x → option_and_then f o ≡ f x
then-some f o x e = ap (option_and_then f) e

pub map-some : {A B : Type 0} (f : A → B) (o : Option A) (x : A) → o ≡ Some x → option_map f o ≡ Some (f x)
map-some f o x e = ap (option_map f) e

pub when-true : {A : Type 0} (b : Bool) (o p : A) → b ≡ true → (if b then o else p) ≡ o
when-true true o p e = refl
when-true false o p e = absurd (let no : false ≡ true → ⊥ = λ q. cc in no e)

pub when-false : {A : Type 0} (b : Bool) (o p : A) → b ≡ false → (if b then o else p) ≡ p
when-false false o p e = refl
when-false true o p e = absurd (let no : true ≡ false → ⊥ = λ q. cc in no e)

pub within-some : (low high n : ℕ) → low ≤ n → n ≤ high → within low high (Some n) ≡ Some n
within-some low high n l h =
    ap (λ b. if b && nat_le n high then Some n else None) (le-leb low n l) ∙ ap (λ b. if b then Some n else None) (le-leb n high h)

-- ---- rules one after the other

pub ok-then : {A B : Type 0} (r : Result A RuleErr) (x : A) (f : A → Result B RuleErr) → r ≡ Ok x → (r >>= f) ≡ f x
ok-then r x f e = ap (λ q. q >>= f) e

pub none-then : {B : Type 0} (rule : ℕ) (o : Option ℕ) (f : Unit {0} → Result B RuleErr) → o ≡ None → (no_entry rule o >>= f) ≡ f tt
none-then rule o f e = ap (λ q. no_entry rule q >>= f) e

-- ---- a rule on each entry

-- each entry is read as what is made of the same thing
pub each-made : {X A B : Type 0} (P : X → Type 0) (rule high : ℕ) (read : ℕ → A → Option B) (f : X → A) (g : X → B)
    → ((n : ℕ) (x : X) → n ≤ high → P x → read n (f x) ≡ Some (g x)) → (n : ℕ) (xs : List X) → n + length xs ≤ high + 1 → All P xs
    → each_entry rule read n (map f xs) ≡ Ok (map g xs)
each-made P rule high read f g h n [] few ps = refl
each-made {B = B} P rule high read f g h n (x ∷ xs) few ps =
    let rest : each_entry rule read (n + 1) (map f xs) ≡ Ok (map g xs) = each-made P rule high read f g h (n + 1) xs (omega (arith, few)) (All-tail P x xs ps) in
    ap (λ (o : Option B). entry_then rule n o (each_entry rule read (n + 1) (map f xs))) (h n x (omega (arith, few)) (All-head P x xs ps))
    ∙ ap (with_front (g x)) rest

-- ---- no element that passes

-- no element passes with those before it
pub none-where : {A : Type 0} (test : List A → A → Bool) (xs : List A)
    → ((i : ℕ) (d : A) → i < length xs → test (take i xs) (get_or xs i d) ≡ false) → (k i : ℕ) → k + i ≡ length xs
    → first_where test (take i xs) (drop i xs) ≡ None
none-where test xs h zero i e = where-end test xs i (omega (arith, e))
none-where test xs h (suc k) i e =
    let inside : i < length xs = omega (arith, e) in
    let d = an_element xs i inside in
    where-later test xs i d inside (h i d inside) ∙ none-where test xs h k (i + 1) (omega (arith, e))

-- where no two elements pass a test, none does with an earlier one
pub no-pair : {A : Type 0} (test : A → A → Bool) (xs : List A) → AllPairs (λ y x. test y x ≡ false) xs
    → first_where (λ earlier x. list_any (λ y. test y x) earlier) [] xs ≡ None
no-pair {A = A} test xs h = none-where (λ earlier x. list_any (λ y. test y x) earlier) xs here (length xs) 0 (omega arith)
  where
    here : (i : ℕ) (d : A) → i < length xs → list_any (λ y. test y (get_or xs i d)) (take i xs) ≡ false
    here i d lt =
        list_any_none (λ y. test y (get_or xs i d)) (take i xs) (λ j e inside.
        (let short : length (take i xs) ≡ i = length-take-le i xs (omega (arith, lt)) in
        let below : j < i = omega (arith, short, inside) in
        ap (λ y. test y (get_or xs i d)) (get_or-take i xs j e below ∙ get_or_default xs j e d (omega (arith, below, lt))) ∙ h j i d below lt))

-- what two elements have, what is made of them has
pub pairs-map : {A B : Type 0} (f : A → B) (R : B → B → Type 0) (xs : List A) → AllPairs (λ x y. R (f x) (f y)) xs → AllPairs R (map f xs)
pairs-map f R [] h = λ i j d lt inside. absurd (omega (arith, inside))
pairs-map f R (x ∷ xs) h =
    AllPairs-cons R (f x) (map f xs) (All-map (R (f x)) f xs (λ j d inside. h 0 (suc j) d (omega arith) (omega (arith, inside))))
    (pairs-map f R xs (λ i j d lt inside. h (suc i) (suc j) d (omega (arith, lt)) (omega (arith, inside))))
