-- What a table of an input file has at a key, as numbers, texts and arrays of tables.
use Rattle.std.specs.Prelude.{ℕ, pos, Bool, ◌&&◌, nat_le, nat_eq, if◌then◌else◌, List, [], ◌∷◌, Option, Some, None, option_map, option_and_then}
use Rattle.std.specs.{Cmp.Lexicographic.pointwise, List.list_all, List.list_any}
use Rattle.toml.specs.Data.{Data, integer, boolean, array, Items, no_items, item, Members, no_members, member, get_member, as_str, as_table}

infixl 10 ◌>>=◌
-- look-ups one after the other; the first that finds nothing ends them
abbrev pub ◌>>=◌ : {A B : Type 0} → Option A → (A → Option B) → Option B
o >>= f = option_and_then f o

-- a TOML integer that isn't negative
abbrev pub number_of : Data → Option ℕ
number_of (integer (pos n)) = Some n
number_of _ = None

-- what a value is read as, or the default where there is none
abbrev pub or_default : {A : Type 0} → A → (Data → Option A) → Option Data → Option A
or_default x read None = Some x
or_default x read (Some d) = read d

-- the number at a key that has to be there
abbrev pub number : List ℕ → Members → Option ℕ
number key ms = option_and_then number_of (get_member key ms)

-- the number at a key, or the default where the key is missing
abbrev pub number_or : List ℕ → ℕ → Members → Option ℕ
number_or key x ms = or_default x number_of (get_member key ms)

-- a truth value
abbrev pub truth_of : Data → Option Bool
truth_of (boolean b) = Some b
truth_of _ = None

-- the truth value at a key, or the default where the key is missing
abbrev pub truth_or : List ℕ → Bool → Members → Option Bool
truth_or key x ms = or_default x truth_of (get_member key ms)

-- a number from low to high
abbrev pub within : ℕ → ℕ → Option ℕ → Option ℕ
within low high None = None
within low high (Some n) = if nat_le low n && nat_le n high then Some n else None

-- the text at a key that has to be there
abbrev pub text : List ℕ → Members → Option (List ℕ)
text key ms = option_and_then as_str (get_member key ms)

-- the items of an array that are all tables, as these tables
abbrev pub all_tables : Items → Option (List Members)
all_tables no_items = Some []
all_tables (item d ds) = option_and_then (λ ms. option_map (λ rest. ms ∷ rest) (all_tables ds)) (as_table d)

-- an array whose items are all tables, as these tables
abbrev pub tables_of : Data → Option (List Members)
tables_of (array ds) = all_tables ds
tables_of _ = None

-- the array of tables at a key; a missing key is the empty one
abbrev pub tables : List ℕ → Members → Option (List Members)
tables key ms = or_default [] tables_of (get_member key ms)

-- the keys of a table
abbrev pub member_keys : Members → List (List ℕ)
member_keys no_members = []
member_keys (member k d ms) = k ∷ member_keys ms

-- whether a key is one of the known ones
abbrev pub is_known : List (List ℕ) → List ℕ → Bool
is_known known key = list_any (λ word. pointwise nat_eq key word) known

-- whether each key of a table is one of the known ones
abbrev pub has_only : List (List ℕ) → Members → Bool
has_only known ms = list_all (is_known known) (member_keys ms)
