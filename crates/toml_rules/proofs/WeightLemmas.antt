-- What a rule with weights lets through.
use Rattle.std.proofs.Common.{◌≡◌, ℕ, ◌+◌, ◌-◌, ◌≤◌, Bool, true, false, if◌then◌else◌, List, [], ◌∷◌, Option, Some, None, Result, Ok, Err, IfOk, refl, ap, ◌∙◌, leb-true, arith}
use Rattle.std.proofs.lemmas.List.Sums.{sum_by-cons}
use Rattle.std.specs.List.{sum_by}
use Rattle.std.specs.Prelude.{nat_le}
use Rattle.toml_rules.specs.{RuleErr, with_front, entry_then, each_entry, light, weight_of, each_within}
use Rattle.toml_rules.proofs.EntryLemmas.{light-fits}

light-then : {B : Type 0} (rule n room w : ℕ) (weight : B → ℕ) (y : B) (b : Bool) (rest whole : Result (List B) RuleErr) → w ≡ weight y → (b ≡ true → w ≤ room)
    → IfOk rest (λ zs. (whole ≡ Ok zs) × (sum_by weight zs ≤ room - w))
    → IfOk (entry_then rule n (if b then Some y else None) rest) (λ ys. (with_front y whole ≡ Ok ys) × (sum_by weight ys ≤ room))
light-then rule n room w weight y false rest whole is le h = tt
light-then rule n room w weight y true (Err e) whole is le h = tt
light-then rule n room w weight y true (Ok zs) whole is le h =
    (ap (λ r. with_front y r) h.0, omega (arith, h.1, le refl, is, sum_by-cons weight y zs))

entry-says : {B : Type 0} (rule n room : ℕ) (weight : B → ℕ) (o : Option B) (rest whole : Result (List B) RuleErr)
    → IfOk rest (λ zs. (whole ≡ Ok zs) × (sum_by weight zs ≤ room - weight_of weight o))
    → IfOk (entry_then rule n (light room weight o) rest) (λ ys. (entry_then rule n o whole ≡ Ok ys) × (sum_by weight ys ≤ room))
entry-says rule n room weight None rest whole h = tt
entry-says rule n room weight (Some y) rest whole h =
    light-then rule n room (weight y) weight y (nat_le (weight y) room) rest whole refl (λ e. leb-true (weight y) room e) h

pub within-says : {A B : Type 0} (rule n room : ℕ) (weight : B → ℕ) (read : ℕ → A → Option B) (xs : List A)
    → IfOk (each_within rule weight read n room xs) (λ ys. (each_entry rule read n xs ≡ Ok ys) × (sum_by weight ys ≤ room))
within-says rule n room weight read [] = (refl, omega arith)
within-says rule n room weight read (x ∷ xs) =
    entry-says rule n room weight (read n x) (each_within rule weight read (n + 1) (room - weight_of weight (read n x)) xs) (each_entry rule read (n + 1) xs)
    (within-says rule (n + 1) (room - weight_of weight (read n x)) weight read xs)

entry-fits : {B : Type 0} (rule n room : ℕ) (weight : B → ℕ) (o : Option B) (rest whole : Result (List B) RuleErr)
    → IfOk whole (λ zs. sum_by weight zs ≤ room - weight_of weight o → rest ≡ Ok zs)
    → IfOk (entry_then rule n o whole) (λ ys. sum_by weight ys ≤ room → entry_then rule n (light room weight o) rest ≡ Ok ys)
entry-fits rule n room weight None rest whole h = tt
entry-fits rule n room weight (Some y) rest (Err e) h = tt
entry-fits rule n room weight (Some y) rest (Ok zs) h = λ le.
    (let cons = sum_by-cons weight y zs in
    let few : weight y ≤ room = omega (arith, le, cons) in
    let left : sum_by weight zs ≤ room - weight y = omega (arith, le, cons) in
    ap (λ o. entry_then rule n o rest) (light-fits room weight y few) ∙ ap (λ r. with_front y r) (h left))

pub within-fits : {A B : Type 0} (rule n room : ℕ) (weight : B → ℕ) (read : ℕ → A → Option B) (xs : List A)
    → IfOk (each_entry rule read n xs) (λ ys. sum_by weight ys ≤ room → each_within rule weight read n room xs ≡ Ok ys)
within-fits rule n room weight read [] = λ le. refl
within-fits rule n room weight read (x ∷ xs) =
    entry-fits rule n room weight (read n x) (each_within rule weight read (n + 1) (room - weight_of weight (read n x)) xs) (each_entry rule read (n + 1) xs)
    (within-fits rule (n + 1) (room - weight_of weight (read n x)) weight read xs)
