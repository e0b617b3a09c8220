-- What the value at a key has to be: whether a value has a form, and the words of a form. Where a
-- file's definition reads a value, its reading is cited.
use Rattle.std.specs.Prelude.{ℕ, Bool, true, false, nat_eq, nat_lt, ◌==◌, ◌&&◌, ◌||◌, List, [], ◌∷◌, codes, Option, Some, None, option_and_then}
use Rattle.std.specs.{Cmp.Lexicographic.pointwise, Fmt.decimal, List.list_any, Option.is_some}
use Rattle.srp_base.specs.{Bandwidth.rate_of_mbit, Hexadecimal.hex12, Hexadecimal.hex16, Text.whole_of}
use Rattle.toml.specs.Data.{Data, array, Items, no_items, item, Members, get_member, as_str}
use Rattle.toml_rules.specs.Fields.{number, truth_or, within, text, tables}
use Rattle.topology_file.specs.{Entries.name_at, Entries.name_of_text, Entries.kind_of_text, Entries.domain_of_text, Kinds.app_of_text, Kinds.octets_of_text}
use Rattle.rule_words.specs.Values.{items_count}
use Rattle.rule_words.specs.declared.forms.ValueForm.{ValueForm}
use Rattle.rule_words.specs.declared.forms.ValueForm.TheVariants.{Name, Digits16, Digits12, PduDigits, Number, Within, Rate, Truth, NodeKind, Domain, EventKind, App, Class, Tables, GroupKind, Names, Khz, Bits}

-- ---- values

-- class A or B, by its letter
abbrev pub class_is_known : List ℕ → Bool
class_is_known word = pointwise nat_eq word (codes "A") || pointwise nat_eq word (codes "B")

-- the kinds of events
abbrev pub event_kinds : List (List ℕ)
event_kinds =
    codes "declare" ∷ codes "withdraw" ∷ codes "talk" ∷ codes "hush" ∷ codes "listen" ∷ codes "unlisten"
    ∷ codes "lose" ∷ codes "repeat" ∷ codes "forge" ∷ []

-- one of them
abbrev pub event_kind_is_known : List ℕ → Bool
event_kind_is_known word = list_any (λ kind. pointwise nat_eq word kind) event_kinds

-- the kinds of events of groups
abbrev pub group_kinds : List (List ℕ)
group_kinds = codes "join" ∷ codes "part" ∷ codes "lose" ∷ codes "repeat" ∷ []

-- one of them
abbrev pub group_kind_is_known : List ℕ → Bool
group_kind_is_known word = list_any (λ kind. pointwise nat_eq word kind) group_kinds

-- a value is a text that may be a name
abbrev pub is_name_data : Data → Bool
is_name_data d = is_some (option_and_then name_of_text (as_str d))

-- each item is one
abbrev pub are_names : Items → Bool
are_names no_items = true
are_names (item d ds) = is_name_data d && are_names ds

-- there is an array of one name or more
abbrev pub is_names : Option Data → Bool
is_names (Some (array ds)) = nat_lt 0 (items_count ds) && are_names ds
is_names _ = false

-- the rates of samples in kHz, and the bits of a sample
abbrev pub khz_rates : List ℕ
khz_rates = 48 ∷ 96 ∷ 192 ∷ []

abbrev pub sample_bits : List ℕ
sample_bits = 16 ∷ 24 ∷ 32 ∷ []

-- there is a number, and it is one of these
abbrev pub is_one_of : List ℕ → Option ℕ → Bool
is_one_of known None = false
is_one_of known (Some n) = list_any (λ m. n == m) known

-- there is a text, and it passes
abbrev pub passes : (List ℕ → Bool) → Option (List ℕ) → Bool
passes test None = false
passes test (Some word) = test word

-- there is a value of this form at a key
abbrev pub has_form : ValueForm → List ℕ → Members → Bool
has_form Name key ms = is_some (name_at key ms)
has_form Digits16 key ms = is_some (option_and_then hex16 (text key ms))
has_form Digits12 key ms = is_some (option_and_then hex12 (text key ms))
has_form PduDigits key ms = is_some (option_and_then octets_of_text (text key ms))
has_form Number key ms = is_some (number key ms)
has_form (Within low high) key ms = is_some (within low high (number key ms))
has_form Rate key ms = is_some (option_and_then rate_of_mbit (number key ms))
has_form Truth key ms = is_some (truth_or key false ms)
has_form NodeKind key ms = is_some (option_and_then kind_of_text (text key ms))
has_form Domain key ms = is_some (option_and_then domain_of_text (text key ms))
has_form EventKind key ms = passes event_kind_is_known (text key ms)
has_form App key ms = is_some (option_and_then app_of_text (text key ms))
has_form Class key ms = passes class_is_known (text key ms)
has_form Tables key ms = is_some (tables key ms)
has_form GroupKind key ms = passes group_kind_is_known (text key ms)
has_form Names key ms = is_names (get_member key ms)
has_form Khz key ms = is_one_of khz_rates (number key ms)
has_form Bits key ms = is_one_of sample_bits (number key ms)

-- ---- words

-- the words of a form that are the same at each time
abbrev pub fixed_words : ValueForm → List ℕ
fixed_words Name = codes "a text of 1 to 32 characters out of a to z, 0 to 9, - and _"
fixed_words Digits16 = codes "a text of 16 hexadecimal digits"
fixed_words Digits12 = codes "a text of 12 hexadecimal digits"
fixed_words PduDigits = codes "a text of at most 3000 hexadecimal digits, two an octet"
fixed_words Number = codes "a whole number, 0 or more"
fixed_words (Within low high) = []
fixed_words Rate = codes "100, 1000 or 10000"
fixed_words Truth = codes "true or false"
fixed_words NodeKind = codes "station or bridge, as a text"
fixed_words Domain = codes "both, a or none, as a text"
fixed_words EventKind = codes "declare, withdraw, talk, hush, listen, unlisten, lose, repeat or forge, as a text"
fixed_words App = codes "mvrp or msrp, as a text"
fixed_words Class = codes "A or B, as a text"
fixed_words Tables = codes "an array of tables"
fixed_words GroupKind = codes "join, part, lose or repeat, as a text"
fixed_words Names = codes "an array of at least one text of 1 to 32 characters out of a to z, 0 to 9, - and _"
fixed_words Khz = codes "48, 96 or 192"
fixed_words Bits = codes "16, 24 or 32"

-- a whole number of a range
abbrev pub range_words : ℕ → ℕ → List ℕ
range_words low high = whole_of (codes "from " ∷ decimal low ∷ codes " to " ∷ decimal high ∷ codes ", a whole number" ∷ [])

-- what a form asks of a value
abbrev pub form_words : ValueForm → List ℕ
form_words (Within low high) = range_words low high
form_words form = fixed_words form
