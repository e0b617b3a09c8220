-- The lines of keys.
use Rattle.std.specs.Prelude.{ℕ, Bool, true, false, List, [], ◌∷◌, codes}
use Rattle.std.specs.Fmt.{decimal}
use Rattle.srp_base.specs.Text.{whole_of}

-- a key with a number
unfoldable pub number_line : List ℕ → ℕ → List ℕ
number_line key n = whole_of (key ∷ codes " = " ∷ decimal n ∷ codes "\n" ∷ [])

-- a key with a text, which needs no escape
unfoldable pub text_line : List ℕ → List ℕ → List ℕ
text_line key text = whole_of (key ∷ codes " = \"" ∷ text ∷ codes "\"\n" ∷ [])

-- a truth value by its word
abbrev pub truth_word : Bool → List ℕ
truth_word true = codes "true"
truth_word false = codes "false"

-- a key with a truth value
unfoldable pub truth_line : List ℕ → Bool → List ℕ
truth_line key truth = whole_of (key ∷ codes " = " ∷ truth_word truth ∷ codes "\n" ∷ [])
