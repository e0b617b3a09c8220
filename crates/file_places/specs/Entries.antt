-- In which line an entry of an array begins, and in which a key of the file stands.
use Rattle.std.specs.Prelude.{ℕ, ◌+◌, ◌-◌, ◌==◌, Bool, false, not, ◌&&◌, ◌||◌, List, [], ◌∷◌, ◌++◌, length, codes, Option, is_some}
use Rattle.std.specs.Option.{option_map_or, option_or}
use Rattle.std.specs.Fmt.{decimal}
use Rattle.srp_base.specs.{Firsts.first_where, Text.whole_of}
use Rattle.toml.specs.Data.{Members, get_member}
use Rattle.toml_rules.specs.Fields.{◌>>=◌, tables}
use Rattle.file_places.specs.declared.entries.Sought.{Sought}
use Rattle.file_places.specs.declared.entries.Sought.TheVariants.{Tables, Key, NoKey}
use Rattle.file_places.specs.declared.lines.LineKind.TheVariants as kinds
use Rattle.file_places.specs.declared.lines.LineKind.{LineKind}
use Rattle.file_places.specs.{Document.document, Lines.first_lines, Lines.is_tried, Lines.items_skipped, Lines.lines_of}

-- ---- what the first lines of a file have

-- a text with the bracket that closes an array
abbrev pub closed : List ℕ → List ℕ
closed octets = octets ++ codes "]"

-- whether a document has an array of so many tables at a key; a missing key is the empty array
abbrev pub entries_are : List ℕ → ℕ → Members → Bool
entries_are array n ms = option_map_or (λ entries. length entries == n) (tables array ms) false

-- whether a document has what is sought at a key: an array of so many tables, the key, or no key
abbrev pub is_there : Sought → List ℕ → Members → Bool
is_there (Tables n) word ms = entries_are word n ms
is_there Key word ms = is_some (get_member word ms)
is_there NoKey word ms = not (is_some (get_member word ms))

-- whether octets are a document that has it
abbrev pub is_in : Sought → List ℕ → List ℕ → Bool
is_in sought word octets = option_map_or (is_there sought word) (document octets) false

-- whether they are one as they stand, or with the bracket that closes an array in them
abbrev pub is_so_far : Sought → List ℕ → List ℕ → Bool
is_so_far sought word octets = is_in sought word octets || is_in sought word (closed octets)

-- ---- where it begins

-- what the lines before the one have with which it begins: an array one entry less, and a key isn't
-- there
abbrev pub before : Sought → Sought
before (Tables entry) = Tables (entry - 1)
before Key = NoKey
before NoKey = NoKey

-- the first lines, so many, are a document that has what is sought, and those without the last of them
-- one that doesn't have it yet
abbrev pub is_begun : Sought → List ℕ → List ℕ → ℕ → Bool
is_begun sought word octets n =
    is_so_far (before sought) word (first_lines (n - 1) octets) && is_so_far sought word (first_lines n octets)

-- the number from which on lines are tried: that of the entry, or the first for a key
abbrev pub first_tried : Sought → ℕ
first_tried (Tables entry) = entry
first_tried Key = 1
first_tried NoKey = 1

-- a line is tried, and what is sought begins with it
abbrev pub is_begin : LineKind → Sought → List ℕ → ℕ → List ℕ → List (List ℕ) → List ℕ → Bool
is_begin kind sought word skipped octets earlier line =
    is_tried kind word skipped (first_tried sought) earlier line && is_begun sought word octets (length earlier + 1)

-- the first line that is tried with which it begins
abbrev pub begin_line : LineKind → Sought → List ℕ → ℕ → List ℕ → Option ℕ
begin_line kind sought word skipped octets =
    first_where (is_begin kind sought word skipped octets) [] (lines_of octets)

-- the line of an entry that is written inline: of all that look so, those are skipped that stand before
-- the line in which the array opens
abbrev pub line_of_item : List ℕ → ℕ → List ℕ → Option ℕ
line_of_item array entry octets = do
  skipped ← items_skipped array octets
  begin_line kinds.Item (Tables entry) array skipped octets

-- The line in which an entry of an array begins: that of its header, or its own where the array is
-- written inline. Of the lines of each kind those are tried that have the entry's number or one of the
-- next, counted in the whole file, or from the line on in which the array opens.
abbrev pub line_of_entry : List ℕ → ℕ → List ℕ → Option ℕ
line_of_entry array entry octets =
    option_or (begin_line kinds.Header (Tables entry) array 0 octets)
    (line_of_item array entry octets)

-- The line in which a key of the file stands first: its own, or that of a header that has it. Of the
-- lines of each kind the first are tried.
abbrev pub line_of_key : List ℕ → List ℕ → Option ℕ
line_of_key word octets =
    option_or (begin_line kinds.Key Key word 0 octets) (begin_line kinds.Table Key word 0 octets)

-- `line: N`
abbrev pub entry_line : ℕ → List ℕ
entry_line n = whole_of (codes "line: " ∷ decimal n ∷ codes "\n" ∷ [])
