-- The lines of a file, by what they begin with.
use Rattle.std.specs.Prelude.{ℕ, zero, suc, ◌+◌, ◌-◌, ◌==◌, Bool, false, ◌&&◌, ◌||◌, nat_eq, nat_le, nat_lt, if◌then◌else◌, List, [], ◌∷◌, ◌++◌, take, drop, length, codes, count_by, Option, Some, None, is_some}
use Rattle.std.specs.List.{before_first, list_any}
use Rattle.std.specs.Option.{option_map_or, option_or}
use Rattle.std.specs.Cmp.Lexicographic.{pointwise}
use Rattle.toml_rules.specs.Fields.{◌>>=◌}
use Rattle.file_places.specs.declared.lines.LineKind.{LineKind}
use Rattle.file_places.specs.declared.lines.LineKind.TheVariants.{Header, Key, Table, Opening, Item}
use Rattle.file_places.specs.Places.{is_feed, mark_length}

-- ---- lines

-- one octet more in front of the first line
abbrev pub with_front : ℕ → List (List ℕ) → List (List ℕ)
with_front c [] = (c ∷ []) ∷ []
with_front c (line ∷ lines) = (c ∷ line) ∷ lines

-- the lines of a text, each with its line feed where it has one
abbrev pub lines_of : List ℕ → List (List ℕ)
lines_of [] = []
lines_of (c ∷ octets) = if is_feed c then (c ∷ []) ∷ lines_of octets else with_front c (lines_of octets)

-- the first line of a text, with its line feed where it has one
abbrev pub first_line : List ℕ → List ℕ
first_line [] = []
first_line (c ∷ octets) = if is_feed c then c ∷ [] else c ∷ first_line octets

-- the first lines of a text, so many, or all where there are fewer
abbrev pub first_lines : ℕ → List ℕ → List ℕ
first_lines zero octets = []
first_lines (suc n) octets = first_line octets ++ first_lines n (drop (length (first_line octets)) octets)

-- ---- what a line begins with

-- a blank or a tab
abbrev pub is_blank : ℕ → Bool
is_blank c = c == 32 || c == 9

-- a text without the blanks in front
abbrev pub unblanked : List ℕ → List ℕ
unblanked [] = []
unblanked (c ∷ octets) = if is_blank c then unblanked octets else c ∷ octets

-- what stands behind a word, where a text begins with it
abbrev pub behind : List ℕ → List ℕ → Option (List ℕ)
behind word octets = if pointwise nat_eq (take (length word) octets) word then Some (drop (length word) octets) else None

-- what stands behind a word and the blanks in front of it
abbrev pub behind_blanks : List ℕ → List ℕ → Option (List ℕ)
behind_blanks word octets = behind word (unblanked octets)

-- what stands behind a word between these quotes and the blanks in front of them
abbrev pub behind_quoted : List ℕ → List ℕ → List ℕ → Option (List ℕ)
behind_quoted quote word octets = do
  name ← behind_blanks quote octets
  end ← behind word name
  behind quote end

-- what stands behind a name, between quotes of either kind or bare, and the blanks in front of it
abbrev pub behind_name : List ℕ → List ℕ → Option (List ℕ)
behind_name word octets =
    option_or (behind_quoted (codes "\"") word octets)
    (option_or (behind_quoted (codes "'") word octets) (behind_blanks word octets))

-- what stands behind the header of an array of tables, `[[array]]` with blanks or without, where a
-- line begins with it
abbrev pub behind_header : List ℕ → List ℕ → Option (List ℕ)
behind_header array line = do
  name ← behind_blanks (codes "[[") line
  end ← behind_name array name
  behind_blanks (codes "]]") end

-- what stands behind a key and its `=`, where a line begins with them
abbrev pub behind_key : List ℕ → List ℕ → Option (List ℕ)
behind_key word line = do
  end ← behind_name word line
  behind_blanks (codes "=") end

-- what stands behind the bracket with which an array opens that is written inline, where a line
-- begins with its key
abbrev pub behind_opening : List ℕ → List ℕ → Option (List ℕ)
behind_opening array line = do
  value ← behind_key array line
  behind_blanks (codes "[") value

-- a text without the comma in front, and the blanks in front of it, where there is one
abbrev pub behind_comma : List ℕ → List ℕ
behind_comma octets = option_map_or (λ end. end) (behind_blanks (codes ",") octets) octets

-- a text begins with a table that is written inline, with a comma in front or without
abbrev pub has_item : List ℕ → Bool
has_item octets = is_some (behind_blanks (codes "{") (behind_comma octets))

-- what stands behind the bracket or the two with which a header begins, where a line does
abbrev pub behind_brackets : List ℕ → Option (List ℕ)
behind_brackets line = option_or (behind_blanks (codes "[[") line) (behind_blanks (codes "[") line)

-- a text begins with a name, behind which one of two signs stands
abbrev pub has_name : List ℕ → List ℕ → List ℕ → List ℕ → Bool
has_name word sign other octets =
    option_map_or (λ end. is_some (behind_blanks sign end) || is_some (behind_blanks other end)) (behind_name word octets) false

-- whether a line begins so, for an array or a key of this word: with the header of an entry; with
-- the key, or the first name of a dotted one; with the header of the key's table, or of one in it;
-- with the key and the bracket behind it; or with an entry that is written inline, behind the
-- bracket or by itself
abbrev pub begins_with : LineKind → List ℕ → List ℕ → Bool
begins_with Header word line = is_some (behind_header word line)
begins_with Key word line = has_name word (codes "=") (codes ".") line
begins_with Table word line = option_map_or (has_name word (codes "]") (codes ".")) (behind_brackets line) false
begins_with Opening word line = is_some (behind_opening word line)
begins_with Item word line = has_item line || option_map_or has_item (behind_opening word line) false

-- whether it does without the byte order mark, which the first line of a file may have in front
abbrev pub is_of_kind : LineKind → List ℕ → List ℕ → Bool
is_of_kind kind word line = begins_with kind word (drop (mark_length line) line)

-- ---- lines of a kind, counted

-- how many lines of a kind are tried at most for one in which something begins
abbrev pub tried_lines : ℕ
tried_lines = 16

-- a number is one of so many from another on
abbrev pub is_among : ℕ → ℕ → Bool
is_among number n = nat_le number n && nat_lt (n - number) tried_lines

-- the line is of a kind, and is tried: counted with those of the kind before it, but for the first of
-- the file, so many, which are skipped, it is one of the next from a number on
abbrev pub is_tried : LineKind → List ℕ → ℕ → ℕ → List (List ℕ) → List ℕ → Bool
is_tried kind word skipped number earlier line =
    is_of_kind kind word line && is_among number (count_by (is_of_kind kind word) earlier + 1 - skipped)

-- some line begins with an array that is written inline, and its bracket
abbrev pub has_opening : List ℕ → List (List ℕ) → Bool
has_opening array lines = list_any (is_of_kind Opening array) lines

-- how many lines begin with an entry that is written inline before the first in which the array opens
abbrev pub items_before : List ℕ → List (List ℕ) → ℕ
items_before array lines =
    count_by (is_of_kind Item array) (before_first (is_of_kind Opening array) lines)

-- so many are skipped where it opens
abbrev pub items_skipped : List ℕ → List ℕ → Option ℕ
items_skipped array octets =
    if has_opening array (lines_of octets) then Some (items_before array (lines_of octets)) else None
