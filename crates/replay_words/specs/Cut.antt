-- Where a file to be replayed is cut: in front of the first line `=== capture` stands the head, and
-- behind that line the octets of a capture.
use Rattle.std.specs.Prelude.{ℕ, ◌+◌, Bool, true, ◌==◌, ◌&&◌, if◌then◌else◌, nat_eq, List, [], ◌∷◌, take, drop, codes, Option, Some, None, option_map}
use Rattle.std.specs.Cmp.Lexicographic.{pointwise}

-- whether nothing more stands in a line; the last line of a file may lack its line feed
abbrev pub ends_line : List ℕ → Bool
ends_line [] = true
ends_line (c ∷ cs) = c == 10

-- whether octets at which a line begins begin with the line `=== capture`
unfoldable pub begins_with_cut : List ℕ → Bool
begins_with_cut octets = pointwise nat_eq (take 11 octets) (codes "=== capture") && ends_line (drop 11 octets)

-- the offset of the first such line in octets that stand from an offset on, where a test says
-- whether a line begins at the first of them
abbrev pub cut_from : ℕ → Bool → List ℕ → Option ℕ
cut_from n begins [] = None
cut_from n begins (c ∷ cs) = if begins && begins_with_cut (c ∷ cs) then Some n else cut_from (n + 1) (c == 10) cs

-- the head and the capture's octets, where a line `=== capture` stands at an offset
abbrev pub parts_at : List ℕ → ℕ → List ℕ × List ℕ
parts_at octets n = (take n octets, drop (n + 12) octets)

-- the head and the capture's octets, if there is such a line
abbrev pub parts_of : List ℕ → Option (List ℕ × List ℕ)
parts_of octets = option_map (parts_at octets) (cut_from 0 true octets)
