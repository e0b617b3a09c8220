-- The entries of an array, and the first of them that a test passes.
use Rattle.std.specs.Prelude.{◌≡◌, ℕ, ◌+◌, Bool, List, [], length, Option, Some, None}
use Rattle.std.specs.Borrow.{Bor}
use Rattle.srp_base.specs.Firsts.{first_where}
use Rattle.toml.specs.Data.{Members}
use Rattle.toml_rules.specs.Fields.{tables}
use Rattle.rule_words.specs.declared.keys.Key.{Key}
use Rattle.rule_words.specs.Keys.{word_of}

-- what is there, or nothing
abbrev pub or_none : {A : Type 0} → Option (List A) → List A
or_none None = []
or_none (Some xs) = xs

-- the entries of the array at a key; none where it is missing, or isn't an array of tables
abbrev pub entries_at : List ℕ → Members → List Members
entries_at array ms = or_none (tables array ms)

-- of an array that is known
abbrev pub entries_of : Key → Members → List Members
entries_of array ms = entries_at (word_of array) ms

-- the number, counted from 1, of the first entry that a test passes, which is told its number too
abbrev pub first_entry : (ℕ → Members → Bool) → List Members → Option ℕ
first_entry test entries = first_where (λ earlier x. test (length earlier + 1) x) [] entries

-- each call of a test of the entry of a number, seen by view, answers what the definition's test
-- says
abbrev pub TellsAs : {T : Type 0} → (T → Members) → (ℕ → Bor T → Bool → Type 0) → (ℕ → Members → Bool) → Type 0
TellsAs {T} view calls said = (n : ℕ) (x : Bor T) (r : Bool) → calls n x r → r ≡ said n (view x.now)
