-- What is said of the first rule that a file breaks: a line of its number and its entry, one of
-- what it asks, one of the entry's place and name, one of the line in which it begins, or in which
-- the key of the file stands, and then the key with what it has to be and what stands there, and the
-- other side.
use Rattle.std.specs.Prelude.{ℕ, Bool, ◌==◌, if◌then◌else◌, List, [], ◌∷◌, ◌++◌, codes, flat_map, Option, Some, None, option_map, option_and_then}
use Rattle.std.specs.Option.{option_or}
use Rattle.srp_base.specs.Text.{whole_of}
use Rattle.toml.specs.Data.{Members}
use Rattle.file_places.specs.Entries.{line_of_key}
use Rattle.rule_words.specs.declared.{kinds.FileKind.FileKind, lines.Broken.Broken, keys.Key.Key, tables.TableForm.TableForm}
use Rattle.rule_words.specs.declared.tables.TableForm.TheVariants as tables
use Rattle.rule_words.specs.{Asked.array_of, Faults.apart_key, Faults.stray_key, Faults.wrong_key, Forms.form_words, Keys.word_of, Keys.form_of, Lines.asks_line, Lines.entry_line, Lines.entry_of, Lines.line_at, Lines.line_words, Lines.rule_line, Lines.there_line, Matters.has_domains, Matters.form_asked, Matters.keys_asked, Others.other_lines, Tables.keys_of, Tables.keys_together, Values.quoted}

-- ---- lines

-- `key: rate has to be 100, 1000 or 10000`
abbrev pub wrong_line : Key → List ℕ
wrong_line key = whole_of (codes "key: " ∷ word_of key ∷ codes " has to be " ∷ form_words (form_of key) ∷ codes "\n" ∷ [])

-- a word of a list of keys
abbrev pub listed : Key → List ℕ
listed key = codes " " ++ word_of key

-- `key: "nmae"`
abbrev pub stray_words : List ℕ → List ℕ
stray_words word = codes "key: " ++ quoted word

-- ` is unknown; known are name kind id`
abbrev pub known_words : List Key → List ℕ
known_words known = whole_of (codes " is unknown; known are" ∷ flat_map listed known ∷ codes "\n" ∷ [])

-- `key: "nmae" is unknown; known are name kind id`
abbrev pub unknown_line : List ℕ → List Key → List ℕ
unknown_line word known = stray_words word ++ known_words known

-- what a key goes with that a plan's stream of this form may not have
abbrev pub apart_words : TableForm → List ℕ
apart_words tables.AudioStream = codes " doesn't go with channels"
apart_words _ = codes " goes with channels, and not with octets"

-- `key: bits goes with channels, and not with octets: a stream has either octets, or channels with rate_khz`
abbrev pub apart_line : TableForm → Key → List ℕ
apart_line form key = whole_of (
    codes "key: " ∷ word_of key ∷ apart_words form ∷ codes ": a stream has either octets, or channels with rate_khz\n" ∷ [])

-- ---- what is wrong

-- a key that the table may not have: one that goes with the other form of a plan's stream, with what
-- stands at it, or one that is unknown
abbrev pub stray_lines : TableForm → Members → List ℕ → Option Key → List ℕ
stray_lines form ms word (Some key) = apart_line form key ++ there_line ms key
stray_lines form ms word None = unknown_line word (keys_of form)

-- what stands at the key that isn't right; where each is right by itself, at those that may be
-- wrong together
abbrev pub value_lines : TableForm → Members → Option Key → List ℕ
value_lines form ms (Some key) = wrong_line key ++ there_line ms key
value_lines form ms None = flat_map (there_line ms) (keys_together form)

-- the key that the table may not have, or else the one whose value isn't right
abbrev pub fault_lines : TableForm → Members → Option (List ℕ) → List ℕ
fault_lines form ms (Some word) = stray_lines form ms word (apart_key form word)
fault_lines form ms None = value_lines form ms (wrong_key (keys_of form) ms)

-- of a rule that asks a form of its table, or else of the values that break it
abbrev pub matter_lines : Broken → Members → Option TableForm → List ℕ
matter_lines broken ms (Some form) = fault_lines form ms (stray_key form ms)
matter_lines broken ms None = flat_map (there_line ms) (keys_asked broken.kind broken.rule ms)

-- what is wrong at the table of which a rule speaks, in a file with or without domains
abbrev pub table_lines : Broken → Bool → Members → List ℕ
table_lines broken domains ms = matter_lines broken ms (form_asked broken.kind domains broken.rule broken.entry ms)

-- ---- the file as a whole

-- the first of some keys
abbrev pub first_word : List Key → Option (List ℕ)
first_word [] = None
first_word (key ∷ keys) = Some (word_of key)

-- the first key at fault: one that the file may not have, or whose value isn't right, or else the first
-- of those whose values break the rule
abbrev pub word_at_fault : Broken → Members → Option TableForm → Option (List ℕ)
word_at_fault broken ms (Some form) = option_or (stray_key form ms) (option_map word_of (wrong_key (keys_of form) ms))
word_at_fault broken ms None = first_word (keys_asked broken.kind broken.rule ms)

-- the line in which it stands, where that is known
abbrev pub fault_line : Broken → Bool → Members → List ℕ → List ℕ
fault_line broken domains ms octets =
    line_words (option_and_then (λ word. line_of_key word octets)
    (word_at_fault broken ms (form_asked broken.kind domains broken.rule broken.entry ms)))

-- that line, and what is wrong
abbrev pub file_lines : Broken → Bool → Members → List ℕ → List ℕ
file_lines broken domains ms octets = fault_line broken domains ms octets ++ table_lines broken domains ms

-- ---- the entry

-- an entry with the line in which it begins, and what is wrong at it
abbrev pub lines_of_entry : Broken → Bool → Key → List ℕ → Option Members → List ℕ
lines_of_entry broken domains array octets None = []
lines_of_entry broken domains array octets (Some ms) = whole_of (
    entry_line array broken.entry ms ∷ line_at array broken.entry octets
    ∷ table_lines broken domains ms ∷ [])

-- the entry of the array of which a rule speaks
abbrev pub lines_in_array : Broken → Members → List ℕ → Option Key → List ℕ
lines_in_array broken ms octets None = []
lines_in_array broken ms octets (Some array) =
    lines_of_entry broken (has_domains ms) array octets (entry_of array broken.entry ms)

-- what is wrong in a file: at one of its entries, or in the file as a whole, which is the entry 0
abbrev pub place_lines : Broken → Members → List ℕ → List ℕ
place_lines broken ms octets =
    if broken.entry == 0 then file_lines broken (has_domains ms) ms octets
    else lines_in_array broken ms octets (array_of broken.rule)

-- what is said of the first rule that a file of these members and these octets breaks
abbrev pub broken_text : Broken → Members → List ℕ → List ℕ
broken_text broken ms octets = whole_of (
    rule_line broken.rule broken.entry ∷ asks_line broken.kind broken.rule ∷ place_lines broken ms octets ∷ other_lines broken ms octets ∷ [])

-- what is said of a rule that a file of this kind, with these members and these octets, breaks
-- first at this entry
abbrev pub refusal_text : FileKind → ℕ → ℕ → Members → List ℕ → List ℕ
refusal_text kind rule entry ms octets = broken_text (record { kind = kind; rule = rule; entry = entry }) ms octets
