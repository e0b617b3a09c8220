-- What an entry names and isn't there, or is there and isn't a station.
use Rattle.std.specs.Prelude.{ℕ, ◌==◌, Bool, ◌&&◌, ◌||◌, if◌then◌else◌, List, [], ◌∷◌, ◌++◌, codes, flat_map, Option, Some, None, is_some}
use Rattle.std.specs.Fmt.{decimal}
use Rattle.srp_base.specs.Text.{whole_of}
use Rattle.toml.specs.Data.{Members}
use Rattle.toml_rules.specs.Fields.{text}
use Rattle.rule_words.specs.declared.keys.Key.{Key}
use Rattle.rule_words.specs.declared.keys.Key.TheVariants.{Nodes, Streams, Station, Talker, StreamName}
use Rattle.rule_words.specs.{Alike.is_same_text, Keys.word_of, Search.first_entry, Values.quoted}

-- ---- who is there

-- an entry has this name
abbrev pub is_called : List ℕ → Members → Bool
is_called name x = is_same_text (text (codes "name") x) (Some name)

-- an entry is of this kind
abbrev pub is_of_kind : List ℕ → Members → Bool
is_of_kind kind x = is_same_text (text (codes "kind") x) (Some kind)

-- a node is the station of this name
abbrev pub is_station_called : List ℕ → Members → Bool
is_station_called name x = is_called name x && is_of_kind (codes "station") x

-- the first entry of this name
abbrev pub first_called : List ℕ → List Members → Option ℕ
first_called name entries = first_entry (λ n x. is_called name x) entries

-- there is a station of this name
abbrev pub has_station : List ℕ → List Members → Bool
has_station name nodes = is_some (first_entry (λ n x. is_station_called name x) nodes)

-- ---- lines

-- a text between quotes, and what follows it
abbrev pub quoted_end : List ℕ → List ℕ → List ℕ
quoted_end name words = quoted name ++ words

-- an entry of a name that there isn't
abbrev pub no_such_words : Key → List ℕ
no_such_words array = whole_of (codes "other: no [[" ∷ word_of array ∷ codes "]] is named " ∷ [])

-- `other: no [[node]] is named "x"`
abbrev pub no_such_line : Key → List ℕ → List ℕ
no_such_line array name = no_such_words array ++ quoted_end name (codes "\n")

-- a node by its number
abbrev pub node_words : ℕ → List ℕ
node_words n = whole_of (codes "other: [[node]] " ∷ decimal n ∷ codes " " ∷ [])

-- `other: [[node]] 2 "x" is no station`
abbrev pub no_station_line : ℕ → List ℕ → List ℕ
no_station_line n name = node_words n ++ quoted_end name (codes " is no station\n")

-- of the entry of a name, where there is none
abbrev pub missing_line : Key → List ℕ → Option ℕ → List ℕ
missing_line array name None = no_such_line array name
missing_line array name (Some n) = []

-- of the node of a name that isn't a station's
abbrev pub strange_line : List ℕ → Option ℕ → List ℕ
strange_line name None = no_such_line Nodes name
strange_line name (Some n) = no_station_line n name

-- of a name that has to be a station's
abbrev pub station_line : List Members → List ℕ → List ℕ
station_line nodes name = if has_station name nodes then [] else strange_line name (first_called name nodes)

-- of a name that has to be a node's: in a frame it has to be a station's
abbrev pub end_line : ℕ → List Members → List ℕ → List ℕ
end_line rule nodes name =
    if rule == 24 then station_line nodes name else missing_line Nodes name (first_called name nodes)

-- of the name at a key, of a file of these nodes and streams
abbrev pub line_of_name : ℕ → List Members → List Members → Key → List ℕ → List ℕ
line_of_name rule nodes streams StreamName name = missing_line Streams name (first_called name streams)
line_of_name rule nodes streams Station name = station_line nodes name
line_of_name rule nodes streams Talker name = station_line nodes name
line_of_name rule nodes streams _ name = end_line rule nodes name

-- the same, where there is a text
abbrev pub line_of_text : ℕ → List Members → List Members → Key → Option (List ℕ) → List ℕ
line_of_text rule nodes streams key None = []
line_of_text rule nodes streams key (Some name) = line_of_name rule nodes streams key name

-- of what an entry names at a key
abbrev pub name_line : ℕ → List Members → List Members → Members → Key → List ℕ
name_line rule nodes streams e key = line_of_text rule nodes streams key (text (word_of key) e)

-- at each of these keys
abbrev pub name_lines : ℕ → List Members → List Members → Members → List Key → List ℕ
name_lines rule nodes streams e keys = flat_map (name_line rule nodes streams e) keys
