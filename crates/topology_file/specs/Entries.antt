-- The nodes and links of a file: their keys, their values and their defaults, and the numbers of
-- the nodes that they name.
use Rattle.std.specs.Prelude.{ℕ, ◌==◌, Bool, true, false, ◌&&◌, ◌||◌, nat_le, nat_eq, if◌then◌else◌, List, [], ◌∷◌, length, codes, Option, Some, None, option_map, option_and_then}
use Rattle.std.specs.{Cmp.Lexicographic.pointwise, List.list_all}
use Rattle.srp_base.specs.declared.{bandwidth.Rate.Rate, numbers.NodeNo.NodeNo}
use Rattle.srp_base.specs.{Bandwidth.rate_of_mbit, Firsts.first_where, Hexadecimal.hex16}
use Rattle.toml.specs.Data.{Data, Members, get_member, as_str}
use Rattle.toml_rules.specs.{Fields.◌>>=◌, Fields.or_default, Fields.number_or, Fields.within, Fields.text, Fields.has_only, Shares.shares_at}
use Rattle.tree_topology.specs.declared.{graph.NodeKind.NodeKind, graph.NodeKind.TheVariants.Station, graph.NodeKind.TheVariants.Bridge}
use Rattle.tree_topology.specs.Refusal.{is_station}
use Rattle.topology_file.specs.declared.{entries.DomainWord.DomainWord, entries.NodeEntry.NodeEntry, entries.LinkEntry.LinkEntry}
use Rattle.topology_file.specs.declared.entries.DomainWord.TheVariants.{Both, OnlyA, Nothing}

-- ---- names

-- a to z, 0 to 9, `-` and `_`
abbrev pub is_name_char : ℕ → Bool
is_name_char c = nat_le 97 c && nat_le c 122 || nat_le 48 c && nat_le c 57 || c == 45 || c == 95

-- 1 to 32 such characters
abbrev pub is_name : List ℕ → Bool
is_name word = nat_le 1 (length word) && nat_le (length word) 32 && list_all is_name_char word

-- a text as a name, where it may be that of a node or of a stream
abbrev pub name_of_text : List ℕ → Option (List ℕ)
name_of_text word = if is_name word then Some word else None

-- the name at a key
abbrev pub name_at : List ℕ → Members → Option (List ℕ)
name_at key ms = option_and_then name_of_text (text key ms)

-- ---- nodes

-- an end station or a bridge, by its word
abbrev pub kind_of_text : List ℕ → Option NodeKind
kind_of_text word =
    if pointwise nat_eq word (codes "station") then Some Station
    else if pointwise nat_eq word (codes "bridge") then Some Bridge
    else None

-- the BridgeID that a text of sixteen hexadecimal digits gives
abbrev pub id_of_data : Data → Option ℕ
id_of_data d = option_and_then hex16 (as_str d)

-- the SR classes for which a node's ports are in the SRP domain, by their word
abbrev pub domain_of_text : List ℕ → Option DomainWord
domain_of_text word =
    if pointwise nat_eq word (codes "both") then Some Both
    else if pointwise nat_eq word (codes "a") then Some OnlyA
    else if pointwise nat_eq word (codes "none") then Some Nothing
    else None

-- those that a text gives
abbrev pub domain_of_data : Data → Option DomainWord
domain_of_data d = option_and_then domain_of_text (as_str d)

-- what a `[[node]]` table may say: what the node is called, what it is, its BridgeID, and where the
-- file has domains the node's
abbrev pub node_keys : Bool → List (List ℕ)
node_keys false = codes "name" ∷ codes "kind" ∷ codes "id" ∷ []
node_keys true = codes "name" ∷ codes "kind" ∷ codes "id" ∷ codes "domain" ∷ []

-- "station" or "bridge"
abbrev pub kind_at : Members → Option NodeKind
kind_at ms = option_and_then kind_of_text (text (codes "kind") ms)

-- sixteen hexadecimal digits, the entry's number where none are given
abbrev pub id_at : ℕ → Members → Option ℕ
id_at n ms = or_default n id_of_data (get_member (codes "id") ms)

-- "both", "a" or "none", both where none is given
abbrev pub domain_at : Members → Option DomainWord
domain_at ms = or_default Both domain_of_data (get_member (codes "domain") ms)

-- the node of entry n, whose keys are known
abbrev pub known_node : ℕ → Members → Option NodeEntry
known_node n ms = do
  name ← name_at (codes "name") ms
  kind ← kind_at ms
  id ← id_at n ms
  domain ← domain_at ms
  Some (record { name = name; kind = kind; id = record { 0 = id }; domain = domain })

-- the node of entry n, in a file with or without domains
abbrev pub node_entry : Bool → ℕ → Members → Option NodeEntry
node_entry domains n ms = if has_only (node_keys domains) ms then known_node n ms else None

-- the node is called so, byte by byte
abbrev pub has_name : List ℕ → NodeEntry → Bool
has_name name x = pointwise nat_eq x.name name

-- a number as that of a node
abbrev pub node_no : ℕ → NodeNo
node_no n = record { 0 = n }

-- the node of this name
abbrev pub node_named : List NodeEntry → List ℕ → Option NodeNo
node_named nodes name = option_map node_no (first_where (λ earlier x. has_name name x) [] nodes)

-- the station of this name
abbrev pub station_named : List NodeEntry → List ℕ → Option NodeNo
station_named nodes name = option_map node_no (first_where (λ earlier x. has_name name x && is_station x.kind) [] nodes)

-- ---- links

-- what a `[[link]]` table may say: its ends, its rate, the shares of SR classes A and B, and its
-- latency
abbrev pub link_keys : List (List ℕ)
link_keys = codes "a" ∷ codes "b" ∷ codes "rate" ∷ codes "delta_a" ∷ codes "delta_b" ∷ codes "latency" ∷ []

-- 100, 1000 or 10000 Mb/s, 100 where none is given
abbrev pub rate_at : Members → Option Rate
rate_at ms = option_and_then rate_of_mbit (number_or (codes "rate") 100 ms)

-- the latency in ns, 0 where none is given
abbrev pub latency_at : Members → Option ℕ
latency_at ms = within 0 4294967295 (number_or (codes "latency") 0 ms)

-- the link between nodes of these names; missing where there is no such node
abbrev pub link_between : List NodeEntry → List ℕ → List ℕ → Rate → ℕ × ℕ → ℕ → Option LinkEntry
link_between nodes from to rate shares latency = do
  a ← node_named nodes from
  b ← node_named nodes to
  Some (record { a = a; b = b; rate = rate; delta_a = shares.0; delta_b = shares.1; latency = latency })

-- the link of an entry whose keys are known
abbrev pub known_link : List NodeEntry → Members → Option (Option LinkEntry)
known_link nodes ms = do
  a ← name_at (codes "a") ms
  b ← name_at (codes "b") ms
  rate ← rate_at ms
  shares ← shares_at ms
  latency ← latency_at ms
  Some (link_between nodes a b rate shares latency)

-- the link of an entry that has its form; missing where it names no node
abbrev pub link_form : List NodeEntry → ℕ → Members → Option (Option LinkEntry)
link_form nodes n ms = if has_only link_keys ms then known_link nodes ms else None

-- the link joins these two nodes
abbrev pub joins_both : ℕ → ℕ → LinkEntry → Bool
joins_both x y l = l.a.0 == x && l.b.0 == y || l.a.0 == y && l.b.0 == x
