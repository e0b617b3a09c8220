-- The other side of a refusal: what stands elsewhere in the file, and what the entry doesn't go
-- with.
use Rattle.std.specs.Prelude.{ℕ, ◌+◌, ◌-◌, ◌==◌, Bool, false, ◌&&◌, ◌||◌, nat_le, if◌then◌else◌, List, [], ◌∷◌, ◌++◌, take, codes, flat_map, Option, Some, None, is_some}
use Rattle.std.specs.List.{filter}
use Rattle.std.specs.Option.{is_none}
use Rattle.std.specs.Fmt.{decimal}
use Rattle.srp_base.specs.Text.{whole_of}
use Rattle.toml.specs.Data.{Members, get_member}
use Rattle.toml_rules.specs.Fields.{◌>>=◌, member_keys, number, number_or, text}
use Rattle.topology_file.specs.{Frames.count_at, Frames.last_copy, Frames.run_end, Scenario.ticks_at}
use Rattle.rule_words.specs.declared.{lines.Broken.Broken, keys.Key.Key}
use Rattle.rule_words.specs.declared.keys.Key.TheVariants.{Nodes, Links, Streams, Ticks, PortRate, Tick}
use Rattle.rule_words.specs.{Alike.alike_words, Alike.earlier_alike, Alike.is_same_text, Asked.array_of, Joined.all_ends, Joined.ends_at, Joined.joined_line, Keys.word_of, Lines.entry_of, Lines.entry_at, Lines.header_words, Lines.line_beside, Lines.name_words, Lines.there_words, Matters.keys_asked, Named.first_called, Listeners.listeners_of, Listeners.nameless_lines, Named.is_called, Named.name_lines, Search.entries_at, Search.entries_of, Search.first_entry}

-- ---- an entry by its number

-- the name of an entry, where it is there
abbrev pub name_of_entry : Option Members → List ℕ
name_of_entry None = []
name_of_entry (Some e) = name_words (text (codes "name") e)

-- `other: [[node]] 3 "b1"`
abbrev pub numbered_words : Key → ℕ → Members → List ℕ
numbered_words array n ms = whole_of (
    codes "other: [[" ∷ word_of array ∷ codes "]] " ∷ decimal n ∷ name_of_entry (entry_of array n ms) ∷ [])

-- the end of a line
abbrev pub line_end : List ℕ → List ℕ
line_end words = whole_of (words ∷ codes "\n" ∷ [])

-- `other: [[node]] 3 "b1"`, and what there is to say of it
abbrev pub numbered_line : Key → ℕ → Members → List ℕ → List ℕ
numbered_line array n ms words = numbered_words array n ms ++ line_end words

-- ---- the earlier entry that has the same

-- `other: [[node]] 1 "b1" has this name`
abbrev pub alike_line : ℕ → Key → Members → Option ℕ → List ℕ
alike_line rule array ms None = []
alike_line rule array ms (Some n) = numbered_line array n ms (alike_words rule)

-- of the entry of a number
abbrev pub earlier_line : ℕ → Key → ℕ → Members → Members → List ℕ
earlier_line rule array n ms e = alike_line rule array ms (earlier_alike rule n e (entries_of array ms))

-- what is said of two things, where both are there
abbrev pub lines_of_two : {A B : Type 0} → (A → B → List ℕ) → Option A → Option B → List ℕ
lines_of_two say (Some x) (Some y) = say x y
lines_of_two say _ _ = []

-- ---- ticks

-- `other: ticks = 300`, with what else there is to say
abbrev pub ticks_line : Members → List ℕ → List ℕ
ticks_line ms words = whole_of (codes "other: " ∷ there_words Ticks (get_member (codes "ticks") ms) ∷ words ∷ codes "\n" ∷ [])

-- a tick is not below the ticks of the file
abbrev pub is_past : Option ℕ → Option ℕ → Bool
is_past (Some tick) (Some ticks) = nat_le ticks tick
is_past _ _ = false

-- the ticks of the file, of an event whose tick is not below them
abbrev pub past_line : Members → Members → List ℕ
past_line ms e = if is_past (number (codes "tick") e) (ticks_at ms) then ticks_line ms [] else []

-- the moment of a frame's last copy, in ns
abbrev pub last_copy_at : Members → Option ℕ
last_copy_at e = do
  at ← number (codes "at") e
  count ← count_at e
  every ← number_or (codes "every") 0 e
  Some (last_copy at count every)

-- the end of a run of so many ticks, and a moment behind it
abbrev pub end_words : ℕ → ℕ → List ℕ
end_words ticks last = whole_of (
    codes ", which is " ∷ decimal (run_end ticks) ∷ codes " ns; the last copy stands at " ∷ decimal last ∷ codes " ns" ∷ [])

-- of a last copy that doesn't stand before the run's end
abbrev pub run_end_line : Members → ℕ → ℕ → List ℕ
run_end_line ms last ticks = if nat_le (run_end ticks) last then ticks_line ms (end_words ticks last) else []

-- of a frame
abbrev pub copy_line : Members → Members → List ℕ
copy_line ms e = lines_of_two (run_end_line ms) (last_copy_at e) (ticks_at ms)

-- the tick of an entry, where it is there
abbrev pub tick_words : Option Members → List ℕ
tick_words None = []
tick_words (Some e) = codes " has " ++ there_words Tick (get_member (codes "tick") e)

-- `other: [[event]] 4 has tick = 30`
abbrev pub ticked_line : Key → ℕ → Members → List ℕ
ticked_line array n ms = numbered_line array n ms (tick_words (entry_of array n ms))

-- of the entry before the one of this number
abbrev pub before_line : Key → ℕ → Members → List ℕ
before_line array n ms = if nat_le 2 n then ticked_line array (n - 1) ms else []

-- ---- keys of other entries, and other keys

-- an entry has a key
abbrev pub has_key : List ℕ → Members → Bool
has_key word x = is_some (get_member word x)

-- the first entry that has it
abbrev pub first_with : List ℕ → List Members → Option ℕ
first_with word entries = first_entry (λ n x. has_key word x) entries

-- the first entry of the array at a key that has it
abbrev pub first_at : List ℕ → Members → List ℕ → Option ℕ
first_at word ms array = first_with word (entries_at array ms)

-- the arrays of tables of a file in which an entry has it, in the order of their own keys
abbrev pub arrays_with : List ℕ → Members → List (List ℕ)
arrays_with word ms = filter (λ array. is_some (first_at word ms array)) (member_keys ms)

-- of how many arrays it is told at most
abbrev pub most_told : ℕ
most_told = 5

-- `other: [[event]] 3`, of an entry of any array
abbrev pub any_words : List ℕ → ℕ → Members → List ℕ
any_words array n ms = whole_of (codes "other: " ∷ header_words array n ∷ name_of_entry (entry_at array n ms) ∷ [])

-- a key behind a header belongs to its entry
abbrev pub misplaced_words : Key → List ℕ
misplaced_words key = whole_of (codes " has " ∷ word_of key ∷ codes ": a key behind a line [[..]] belongs to that entry\n" ∷ [])

-- of an entry that has a key of the file, with the line in which it begins
abbrev pub misplaced_line : Key → List ℕ → Members → List ℕ → Option ℕ → List ℕ
misplaced_line key array ms octets None = []
misplaced_line key array ms octets (Some n) = any_words array n ms ++ misplaced_words key ++ line_beside array n octets

-- of the first entry of an array that has it
abbrev pub misplaced_in : Key → Members → List ℕ → List ℕ → List ℕ
misplaced_in key ms octets array = misplaced_line key array ms octets (first_at (word_of key) ms array)

-- of each array of tables that has such an entry, where the file doesn't have it itself
abbrev pub misplaced_lines : Key → Members → List ℕ → List ℕ
misplaced_lines key ms octets =
    if has_key (word_of key) ms then []
    else flat_map (misplaced_in key ms octets) (take most_told (arrays_with (word_of key) ms))

-- words of an entry that has a key
abbrev pub if_has : List ℕ → Members → List ℕ → List ℕ
if_has word e words = if has_key word e then words else []

-- what a plan says of a stream, and a scenario elsewhere
abbrev pub stream_lines : Members → List ℕ
stream_lines e =
    if_has (codes "class") e (codes "other: the class of a stream is its priority: 3 is class A, 2 is class B\n")
    ++ if_has (codes "listeners") e (codes "other: who listens is told by an [[event]] of the kind listen\n")

-- what a scenario says of a stream, and a ledger file of a want by another key
abbrev pub want_lines : Members → List ℕ
want_lines e = if_has (codes "priority") e (codes "other: a want has a class in place of a priority: A or B\n")

-- ---- what is named

-- a link joins nodes of these names
abbrev pub joins_named : List ℕ → List ℕ → Members → Bool
joins_named x y l =
    is_same_text (text (codes "a") l) (Some x) && is_same_text (text (codes "b") l) (Some y)
    || is_same_text (text (codes "a") l) (Some y) && is_same_text (text (codes "b") l) (Some x)

-- nodes of these names are there, and no link joins them
abbrev pub are_strangers : List Members → List Members → List ℕ → List ℕ → Bool
are_strangers nodes links x y =
    is_some (first_called x nodes) && is_some (first_called y nodes) && is_none (first_entry (λ n l. joins_named x y l) links)

-- `other: no [[link]] joins them`
abbrev pub strangers_line : List Members → List Members → List ℕ → List ℕ → List ℕ
strangers_line nodes links x y = if are_strangers nodes links x y then codes "other: no [[link]] joins them\n" else []

-- of an event at a PDU
abbrev pub pdu_line : Members → Members → List ℕ
pdu_line ms e = lines_of_two (strangers_line (entries_of Nodes ms) (entries_of Links ms)) (text (codes "from") e) (text (codes "to") e)

-- a stream is of this name, and talked by this station
abbrev pub is_talked : List ℕ → List ℕ → Members → Bool
is_talked name station s = is_called name s && is_same_text (text (codes "talker") s) (Some station)

-- `other: [[stream]] 1 "s" is talked by this station`
abbrev pub talked_words : Members → Option ℕ → List ℕ
talked_words ms None = []
talked_words ms (Some n) = numbered_line Streams n ms (codes " is talked by this station")

-- of a stream and a station of these names
abbrev pub talked_by : Members → List ℕ → List ℕ → List ℕ
talked_by ms name station = talked_words ms (first_entry (λ n s. is_talked name station s) (entries_of Streams ms))

-- of an event of a stream at a station
abbrev pub talked_line : Members → Members → List ℕ
talked_line ms e = lines_of_two (talked_by ms) (text (codes "stream") e) (text (codes "station") e)

-- what an entry names, of a file of these nodes and streams
abbrev pub unknown_of : Broken → List Members → List Members → Members → List ℕ
unknown_of broken nodes streams e = name_lines broken.rule nodes streams e (keys_asked broken.kind broken.rule e)

-- what an entry names and isn't there, or isn't a station
abbrev pub unknown_lines : Broken → Members → Members → List ℕ
unknown_lines broken ms e = unknown_of broken (entries_of Nodes ms) (entries_of Streams ms) e

-- what an event names
abbrev pub event_lines : Broken → Members → Members → List ℕ
event_lines broken ms e = whole_of (unknown_lines broken ms e ∷ pdu_line ms e ∷ talked_line ms e ∷ [])

-- ---- the listeners of a plan's stream

-- of a stream of a plan
abbrev pub listeners_lines : Members → Members → List ℕ
listeners_lines ms e = listeners_of (entries_of Nodes ms) e

-- who talks and who listens
abbrev pub plan_stream_lines : Broken → Members → Members → List ℕ
plan_stream_lines broken ms e = unknown_lines broken ms e ++ listeners_lines ms e

-- ---- the links of a station

-- an end of a link has this name
abbrev pub has_end : List ℕ → Members → Bool
has_end name l = is_same_text (text (codes "a") l) (Some name) || is_same_text (text (codes "b") l) (Some name)

-- the number of a link, where it has such an end
abbrev pub number_words : List ℕ → ℕ → Members → List ℕ
number_words name n l = if has_end name l then codes " " ++ decimal n else []

-- those of these links, the first of them of number n
abbrev pub numbers_words : List ℕ → ℕ → List Members → List ℕ
numbers_words name n [] = []
numbers_words name n (l ∷ ls) = number_words name n l ++ numbers_words name (n + 1) ls

-- `other: its links are [[link]] 1 3`
abbrev pub links_line : List Members → List ℕ → List ℕ
links_line links name = whole_of (codes "other: its links are [[link]]" ∷ numbers_words name 1 links ∷ codes "\n" ∷ [])

-- the line in which a link begins, where it has such an end
abbrev pub link_begin : List ℕ → List ℕ → ℕ → Members → List ℕ
link_begin octets name n l = if has_end name l then line_beside (word_of Links) n octets else []

-- those of these links, the first of them of number n
abbrev pub link_begins : List ℕ → List ℕ → ℕ → List Members → List ℕ
link_begins octets name n [] = []
link_begins octets name n (l ∷ ls) = link_begin octets name n l ++ link_begins octets name (n + 1) ls

-- the links of a station of this name, and the lines in which they begin
abbrev pub links_lines : List ℕ → List Members → Option (List ℕ) → List ℕ
links_lines octets links None = []
links_lines octets links (Some name) = links_line links name ++ link_begins octets name 1 links

-- ---- the links that join the nodes of a link already

-- of the links before the one of this number, in a file of these nodes and links
abbrev pub joined_before : ℕ → List Members → List Members → Members → List ℕ
joined_before n nodes links e = lines_of_two joined_line (ends_at nodes e) (all_ends nodes (take (n - 1) links))

-- of the link of this number
abbrev pub already_line : ℕ → Members → Members → List ℕ
already_line n ms e = joined_before n (entries_of Nodes ms) (entries_of Links ms) e

-- ---- which rules have another side

-- of an entry that breaks a rule, in a file of these members and these octets
abbrev pub others_at : Broken → Key → Members → List ℕ → Members → List ℕ
others_at broken array ms octets e =
    let rule = broken.rule in
    if rule == 6 || rule == 7 || rule == 11 || rule == 17 || rule == 18 || rule == 52 then earlier_line rule array broken.entry ms e
    else if rule == 9 || rule == 19 || rule == 24 then unknown_lines broken ms e
    else if rule == 12 then already_line broken.entry ms e
    else if rule == 14 then links_lines octets (entries_of Links ms) (text (codes "name") e)
    else if rule == 16 then stream_lines e
    else if rule == 20 || rule == 41 then past_line ms e
    else if rule == 21 || rule == 34 || rule == 42 then before_line array broken.entry ms
    else if rule == 22 || rule == 43 then event_lines broken ms e
    else if rule == 23 then copy_line ms e
    else if rule == 33 then want_lines e
    else if rule == 51 then nameless_lines e
    else if rule == 53 then plan_stream_lines broken ms e
    else []

-- where the entry is there
abbrev pub others_of_entry : Broken → Key → Members → List ℕ → Option Members → List ℕ
others_of_entry broken array ms octets None = []
others_of_entry broken array ms octets (Some e) = others_at broken array ms octets e

-- the entry of the array of which a rule speaks
abbrev pub others_in_array : Broken → Members → List ℕ → Option Key → List ℕ
others_in_array broken ms octets None = []
others_in_array broken ms octets (Some array) = others_of_entry broken array ms octets (entry_of array broken.entry ms)

-- of a file as a whole
abbrev pub others_of_file : ℕ → Members → List ℕ → List ℕ
others_of_file rule ms octets =
    if rule == 1 then misplaced_lines Ticks ms octets
    else if rule == 31 then misplaced_lines PortRate ms octets
    else []

-- the other side of a refusal, where there is one
abbrev pub other_lines : Broken → Members → List ℕ → List ℕ
other_lines broken ms octets =
    if broken.entry == 0 then others_of_file broken.rule ms octets
    else others_in_array broken ms octets (array_of broken.rule)
