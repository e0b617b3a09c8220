-- A line as it is shown: in one line whatever its octets.
use Rattle.std.specs.Prelude.{ℕ, nat_le, nat_lt, ◌==◌, ◌&&◌, if◌then◌else◌, Bool, true, false, List, [], ◌∷◌, ◌++◌, codes, length, take, flat_map}
use Rattle.std.specs.List.{list_any}

-- an octet, as a question mark where it isn't printable; a line feed isn't shown
abbrev pub shown_octet : ℕ → List ℕ
shown_octet c = if c == 10 then [] else if nat_le 32 c && nat_le c 126 then c ∷ [] else codes "?"

-- the most octets of a line that is shown whole: 200, and its line feed where it has one
abbrev pub most_whole : Bool → ℕ
most_whole true = 201
most_whole false = 200

-- the octets of a line, of a long one the first 200
abbrev pub shown_octets : List ℕ → List ℕ
shown_octets line =
    if nat_lt (most_whole (list_any (λ c. c == 10) line)) (length line) then flat_map shown_octet (take 200 line) ++ codes " .."
    else flat_map shown_octet line

-- behind a line that has its line feed, or lacks it
abbrev pub shown_end : Bool → List ℕ
shown_end true = []
shown_end false = codes " (no line feed)"

-- a line
abbrev pub shown_line : List ℕ → List ℕ
shown_line line = shown_octets line ++ shown_end (list_any (λ c. c == 10) line)
