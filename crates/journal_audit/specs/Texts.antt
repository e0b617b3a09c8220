-- The lines of a text.
use Rattle.std.specs.Prelude.{◌==◌, if◌then◌else◌, ℕ, List, [], ◌∷◌}

-- the lines of an octet and what stands behind it, which has these lines
abbrev pub with_octet : ℕ → List (List ℕ) → List (List ℕ)
with_octet c [] = (c ∷ []) ∷ []
with_octet c (line ∷ lines) = (c ∷ line) ∷ lines

-- the lines of a text, each with its line feed; the last may lack it
abbrev pub lines_of : List ℕ → List (List ℕ)
lines_of [] = []
lines_of (c ∷ text) = if c == 10 then (10 ∷ []) ∷ lines_of text else with_octet c (lines_of text)
