-- The listeners of a plan's stream that aren't names, aren't stations, are its talker, or stand
-- twice.
use Rattle.std.specs.Prelude.{ℕ, ◌+◌, ◌==◌, Bool, if◌then◌else◌, List, [], ◌∷◌, ◌++◌, codes, count_by, Option, Some, None}
use Rattle.std.specs.Fmt.{decimal}
use Rattle.srp_base.specs.Text.{whole_of}
use Rattle.toml.specs.Data.{Data, array, Items, no_items, item, Members, get_member, as_str}
use Rattle.toml_rules.specs.Fields.{text}
use Rattle.rule_words.specs.{Alike.is_same_text, Forms.is_name_data, Named.quoted_end, Named.station_line, Values.value_words}

-- ---- names

-- a listener by its number
abbrev pub listener_words : ℕ → List ℕ
listener_words n = whole_of (codes "other: value " ∷ decimal n ∷ codes " of its listeners is " ∷ [])

-- `other: value 2 of its listeners is 7`
abbrev pub nameless_line : ℕ → Data → List ℕ
nameless_line n d = whole_of (listener_words n ∷ value_words d ∷ codes "\n" ∷ [])

-- of the first of these items that isn't a name; the first of them is of number n
abbrev pub nameless_of_items : ℕ → Items → List ℕ
nameless_of_items n no_items = []
nameless_of_items n (item d ds) = if is_name_data d then nameless_of_items (n + 1) ds else nameless_line n d

-- of an array
abbrev pub nameless_of_data : Option Data → List ℕ
nameless_of_data (Some (array ds)) = nameless_of_items 1 ds
nameless_of_data _ = []

-- of a stream
abbrev pub nameless_lines : Members → List ℕ
nameless_lines e = nameless_of_data (get_member (codes "listeners") e)

-- ---- stations

-- `other: "x" is its talker`
abbrev pub talks_line : List ℕ → List ℕ
talks_line name = codes "other: " ++ quoted_end name (codes " is its talker\n")

-- of a name that is the talker's
abbrev pub is_talker_line : Option (List ℕ) → List ℕ → List ℕ
is_talker_line talker name = if is_same_text talker (Some name) then talks_line name else []

-- `other: "x" stands twice among its listeners`
abbrev pub twice_line : List ℕ → List ℕ
twice_line name = codes "other: " ++ quoted_end name (codes " stands twice among its listeners\n")

-- a value is this text
abbrev pub is_text : List ℕ → Data → Bool
is_text name d = is_same_text (as_str d) (Some name)

-- of a name that stands once among the values before it
abbrev pub is_second_line : List Data → List ℕ → List ℕ
is_second_line earlier name = if count_by (is_text name) earlier == 1 then twice_line name else []

-- of the name of a listener, which has to be another station's, behind these values
abbrev pub listener_line : List Members → Option (List ℕ) → List Data → List ℕ → List ℕ
listener_line nodes talker earlier name =
    whole_of (station_line nodes name ∷ is_talker_line talker name ∷ is_second_line earlier name ∷ [])

-- where a value is a text
abbrev pub line_of_listener : List Members → Option (List ℕ) → List Data → Option (List ℕ) → List ℕ
line_of_listener nodes talker earlier None = []
line_of_listener nodes talker earlier (Some name) = listener_line nodes talker earlier name

-- of each of these items, which stand behind these values
abbrev pub lines_of_items : List Members → Option (List ℕ) → List Data → Items → List ℕ
lines_of_items nodes talker earlier no_items = []
lines_of_items nodes talker earlier (item d ds) =
    line_of_listener nodes talker earlier (as_str d) ++ lines_of_items nodes talker (earlier ++ d ∷ []) ds

-- of an array
abbrev pub lines_of_data : List Members → Option (List ℕ) → Option Data → List ℕ
lines_of_data nodes talker (Some (array ds)) = lines_of_items nodes talker [] ds
lines_of_data nodes talker _ = []

-- of a stream, of a file of these nodes
abbrev pub listeners_of : List Members → Members → List ℕ
listeners_of nodes e = lines_of_data nodes (text (codes "talker") e) (get_member (codes "listeners") e)
