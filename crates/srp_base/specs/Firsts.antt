-- The first element of a list that a test passes.
use Rattle.std.specs.Prelude.{ℕ, ◌+◌, Bool, if◌then◌else◌, List, [], ◌∷◌, ◌++◌, length, Option, Some, None}

-- the number, counted from 1, of the first element that a test passes, seen with those before it
abbrev pub first_where : {A : Type 0} → (List A → A → Bool) → List A → List A → Option ℕ
first_where test earlier [] = None
first_where test earlier (x ∷ xs) =
    if test earlier x then Some (length earlier + 1) else first_where test (earlier ++ x ∷ []) xs
