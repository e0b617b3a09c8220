-- Lines of what is said of a file.
use Rattle.std.specs.Prelude.{ℕ, ◌-◌, if◌then◌else◌, List, [], ◌∷◌, ◌++◌, codes, Option, Some, None}
use Rattle.std.specs.Fmt.{decimal}
use Rattle.std.specs.Option.{option_map_or}
use Rattle.srp_base.specs.Text.{whole_of}
use Rattle.toml.specs.Data.{Data, Members, get_member, at, as_table}
use Rattle.toml_rules.specs.Fields.{◌>>=◌, text}
use Rattle.file_places.specs.Entries.{entry_line as begin_line, line_of_entry}
use Rattle.rule_words.specs.declared.{kinds.FileKind.FileKind, keys.Key.Key}
use Rattle.topology_file.specs.Entries.{is_name}
use Rattle.rule_words.specs.{Asked.what_rule_asks, Keys.word_of, Values.quoted, Values.text_words, Values.value_words}

-- `rule R entry E`
abbrev pub rule_line : ℕ → ℕ → List ℕ
rule_line rule entry = whole_of (codes "rule " ∷ decimal rule ∷ codes " entry " ∷ decimal entry ∷ codes "\n" ∷ [])

-- `asks: ..`
abbrev pub asks_line : FileKind → ℕ → List ℕ
asks_line kind rule = whole_of (codes "asks: " ∷ what_rule_asks kind rule ∷ codes "\n" ∷ [])

-- the name of an entry, where it has a text for one
abbrev pub name_words : Option (List ℕ) → List ℕ
name_words None = []
name_words (Some name) = codes " " ++ quoted name

-- `entry: [[node]] 3 "b1"`
abbrev pub entry_line : Key → ℕ → Members → List ℕ
entry_line array entry ms = whole_of (
    codes "entry: [[" ∷ word_of array ∷ codes "]] " ∷ decimal entry ∷ name_words (text (codes "name") ms) ∷ codes "\n" ∷ [])

-- `there: rate = 10`, or `there: no rate`
abbrev pub there_words : Key → Option Data → List ℕ
there_words key None = codes "no " ++ word_of key
there_words key (Some d) = whole_of (word_of key ∷ codes " = " ∷ value_words d ∷ [])

abbrev pub there_line : Members → Key → List ℕ
there_line ms key = whole_of (codes "there: " ∷ there_words key (get_member (word_of key) ms) ∷ codes "\n" ∷ [])

-- `line: N`, where it is known in which line an entry begins
abbrev pub line_words : Option ℕ → List ℕ
line_words None = []
line_words (Some n) = begin_line n

-- of the entry of this number of an array, in a file of these octets
abbrev pub line_at : Key → ℕ → List ℕ → List ℕ
line_at array entry octets = line_words (line_of_entry (word_of array) entry octets)

-- the table that is the entry of this number, from 1 on, of the array at a key
abbrev pub entry_at : List ℕ → ℕ → Members → Option Members
entry_at array entry ms = do
  d ← get_member array ms
  x ← at (entry - 1) d
  as_table x

-- of an array that is known
abbrev pub entry_of : Key → ℕ → Members → Option Members
entry_of array entry ms = entry_at (word_of array) entry ms

-- ---- entries of any array

-- the word of an array, as it may stand in a header: bare where it is a name, else between quotes
abbrev pub header_word : List ℕ → List ℕ
header_word array = if is_name array then array else text_words array

-- `[[node]] 3`
abbrev pub header_words : List ℕ → ℕ → List ℕ
header_words array entry = whole_of (codes "[[" ∷ header_word array ∷ codes "]] " ∷ decimal entry ∷ [])

-- `line: 12 of [[link]] 1`
abbrev pub begin_words : List ℕ → ℕ → ℕ → List ℕ
begin_words array entry line =
    whole_of (codes "line: " ∷ decimal line ∷ codes " of " ∷ header_words array entry ∷ codes "\n" ∷ [])

-- the line in which another entry than the one that breaks a rule begins, where that is known
abbrev pub line_beside : List ℕ → ℕ → List ℕ → List ℕ
line_beside array entry octets = option_map_or (begin_words array entry) (line_of_entry array entry octets) []
