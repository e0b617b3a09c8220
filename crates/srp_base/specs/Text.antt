-- A text as the list of its pieces.
use Rattle.std.specs.Prelude.{ℕ, List, [], ◌∷◌, ◌++◌}

-- the pieces, one after the other
abbrev pub whole_of : List (List ℕ) → List ℕ
whole_of [] = []
whole_of (piece ∷ pieces) = piece ++ whole_of pieces
