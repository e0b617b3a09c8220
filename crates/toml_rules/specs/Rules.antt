-- The rules of a file, checked one after the other: what a rule needs, and the first that fails.
use Rattle.std.specs.Prelude.{ℕ, ◌+◌, ◌-◌, min, nat_le, nat_lt, Bool, true, false, if◌then◌else◌, List, [], ◌∷◌, Option, Some, None, Result, Ok, Err}
use Rattle.srp_base.specs.Results.{Gives}
use Rattle.toml_rules.specs.declared.{rules.RuleErr.RuleErr, rules.RuleErr.TheVariants.Rule, rules.RuleErr.TheVariants.NoMemory}

-- a rule that needs a value of the file as a whole
abbrev pub needs : {A : Type 0} → ℕ → Option A → Result A RuleErr
needs rule (Some x) = Ok x
needs rule None = Err (Rule rule 0)

-- a rule that is a test of the file as a whole
abbrev pub holds : ℕ → Bool → Result (Unit {0}) RuleErr
holds rule true = Ok tt
holds rule false = Err (Rule rule 0)

-- the rule fails at this entry, counted from 1; a number past the end of its type stands still
-- there
abbrev pub fails_at : ℕ → ℕ → RuleErr
fails_at rule n = Rule rule (min n 4294967295)

-- a rule that fails at an entry, where one is named
abbrev pub no_entry : ℕ → Option ℕ → Result (Unit {0}) RuleErr
no_entry rule None = Ok tt
no_entry rule (Some n) = Err (fails_at rule n)

-- one more value in front of those that the later entries give
abbrev pub with_front : {B : Type 0} → B → Result (List B) RuleErr → Result (List B) RuleErr
with_front y (Ok ys) = Ok (y ∷ ys)
with_front y (Err e) = Err e

-- an entry's value in front of those of the later entries; an entry that gives none fails the rule
abbrev pub entry_then : {B : Type 0} → ℕ → ℕ → Option B → Result (List B) RuleErr → Result (List B) RuleErr
entry_then rule n None rest = Err (fails_at rule n)
entry_then rule n (Some y) rest = with_front y rest

-- a rule on each entry, the entries numbered from n: what all of them are read as, or the first
-- that the rule refuses
abbrev pub each_entry : {A B : Type 0} → ℕ → (ℕ → A → Option B) → ℕ → List A → Result (List B) RuleErr
each_entry rule read n [] = Ok []
each_entry rule read n (x ∷ xs) = entry_then rule n (read n x) (each_entry rule read (n + 1) xs)

-- the number of the first key, from number n on, that is below the key before it
abbrev pub first_fall : ℕ → ℕ → List ℕ → Option ℕ
first_fall n before [] = None
first_fall n before (k ∷ ks) = if nat_lt k before then Some n else first_fall (n + 1) k ks

-- an entry's value, where there is room for its weight
abbrev pub light : {B : Type 0} → ℕ → (B → ℕ) → Option B → Option B
light room weight None = None
light room weight (Some y) = if nat_le (weight y) room then Some y else None

-- the weight of an entry's value
abbrev pub weight_of : {B : Type 0} → (B → ℕ) → Option B → ℕ
weight_of weight None = 0
weight_of weight (Some y) = weight y

-- a rule on each entry as `each_entry`, whose values may weigh so much together: it refuses the
-- first entry too whose value weighs more than what is left. The law `weighing` says what it lets
-- through
abbrev pub each_within : {A B : Type 0} → ℕ → (B → ℕ) → (ℕ → A → Option B) → ℕ → ℕ → List A → Result (List B) RuleErr
each_within rule weight read n room [] = Ok []
each_within rule weight read n room (x ∷ xs) =
    entry_then rule n (light room weight (read n x))
    (each_within rule weight read (n + 1) (room - weight_of weight (read n x)) xs)

-- the broken rule of a failure, which want of memory isn't
abbrev pub broken_rule : RuleErr → Option RuleErr
broken_rule (Rule rule entry) = Some (Rule rule entry)
broken_rule NoMemory = None

-- what a reader answers, seen by view, is what the rules say, unless memory ran out
abbrev pub Reads : {X A : Type 0} → (X → A) → Result X RuleErr → Result A RuleErr → Type 0
Reads view result rules = Gives view broken_rule result rules
