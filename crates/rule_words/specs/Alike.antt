-- The earlier entry that has what a rule says that no two may have.
use Rattle.std.specs.Prelude.{ℕ, ◌==◌, Bool, false, ◌&&◌, ◌||◌, nat_eq, nat_lt, if◌then◌else◌, List, codes, Option, Some, option_and_then}
use Rattle.std.specs.Cmp.Lexicographic.{pointwise}
use Rattle.srp_base.specs.Hexadecimal.{hex16}
use Rattle.toml.specs.Data.{Members}
use Rattle.toml_rules.specs.Fields.{text}
use Rattle.topology_file.specs.Entries.{id_at}
use Rattle.rule_words.specs.Search.{first_entry}

-- two texts are there, and are the same
abbrev pub is_same_text : Option (List ℕ) → Option (List ℕ) → Bool
is_same_text (Some x) (Some y) = pointwise nat_eq x y
is_same_text _ _ = false

-- two numbers are there, and are the same
abbrev pub is_same_number : Option ℕ → Option ℕ → Bool
is_same_number (Some x) (Some y) = x == y
is_same_number _ _ = false

-- two entries have the same name
abbrev pub has_same_name : Members → Members → Bool
has_same_name x y = is_same_text (text (codes "name") x) (text (codes "name") y)

-- the StreamID of an entry
abbrev pub stream_id_at : Members → Option ℕ
stream_id_at ms = option_and_then hex16 (text (codes "id") ms)

-- two streams have the same StreamID
abbrev pub has_same_id : Members → Members → Bool
has_same_id x y = is_same_number (stream_id_at x) (stream_id_at y)

-- the nodes of these numbers have the same identifier, defaults included
abbrev pub has_same_node_id : ℕ → Members → ℕ → Members → Bool
has_same_node_id n x m y = is_same_number (id_at n x) (id_at m y)

-- an end of the one link, and one of the other, are the same node
abbrev pub has_same_end : List ℕ → Members → List ℕ → Members → Bool
has_same_end end x other y = is_same_text (text end x) (text other y)

-- two links join the same nodes
abbrev pub joins_same : Members → Members → Bool
joins_same x y =
    has_same_end (codes "a") x (codes "a") y && has_same_end (codes "b") x (codes "b") y
    || has_same_end (codes "a") x (codes "b") y && has_same_end (codes "b") x (codes "a") y

-- the entries of these numbers, the later one first, have what a rule says that no two may have
abbrev pub is_alike : ℕ → ℕ → Members → ℕ → Members → Bool
is_alike rule n x m y =
    if rule == 6 || rule == 17 then has_same_name x y
    else if rule == 7 then has_same_node_id n x m y
    else if rule == 11 then joins_same x y
    else if rule == 18 then has_same_id x y
    else if rule == 52 then has_same_name x y || has_same_id x y
    else false

-- the second of them stands before the first
abbrev pub is_earlier_alike : ℕ → ℕ → Members → ℕ → Members → Bool
is_earlier_alike rule n x m y = nat_lt m n && is_alike rule n x m y

-- the first of the entries before the one of this number that is so like it
abbrev pub earlier_alike : ℕ → ℕ → Members → List Members → Option ℕ
earlier_alike rule n x entries = first_entry (is_earlier_alike rule n x) entries

-- what they both have
abbrev pub alike_words : ℕ → List ℕ
alike_words rule =
    if rule == 6 || rule == 17 then codes " has this name"
    else if rule == 7 || rule == 18 then codes " has this id"
    else if rule == 11 then codes " joins the same nodes"
    else codes " has this name or this id"
