-- The earlier links that already join the nodes of a link: those of the walk between them.
use Rattle.std.specs.Prelude.{◌<◌, ℕ, ◌-◌, ◌==◌, Bool, if◌then◌else◌, List, [], ◌∷◌, ◌++◌, length, map, take, drop, codes, flat_map, Option, Some}
use Rattle.std.specs.{Fmt.decimal, List.range_with_len}
use Rattle.srp_base.specs.Text.{whole_of}
use Rattle.toml.specs.Data.{Members}
use Rattle.toml_rules.specs.Fields.{◌>>=◌, text}
use Rattle.tree_topology.specs.declared.graph.Link.{Link}
use Rattle.tree_topology.specs.Walk.{component}
use Rattle.rule_words.specs.declared.joined.Ends.{Ends}
use Rattle.rule_words.specs.Named.{first_called}

-- ---- links by the places of their nodes

-- the ends of a link by their places among the nodes, where they are names of nodes
abbrev pub ends_at : List Members → Members → Option Ends
ends_at nodes l = do
  from ← text (codes "a") l
  a ← first_called from nodes
  to ← text (codes "b") l
  b ← first_called to nodes
  Some (record { a = a - 1; b = b - 1 })

-- those of each of these links, where all of them are
abbrev pub all_ends : List Members → List Members → Option (List Ends)
all_ends nodes [] = Some []
all_ends nodes (l ∷ ls) = do
  ends ← ends_at nodes l
  rest ← all_ends nodes ls
  Some (ends ∷ rest)

-- they are places among so many nodes
abbrev pub IsWithin : ℕ → Ends → Type 0
IsWithin count e = (e.a < count) × (e.b < count)

-- ---- the walk between two nodes

-- a link of a network
abbrev pub link_of : Ends → Link
link_of e = record { a = record { 0 = e.a }; b = record { 0 = e.b } }

-- these links join two nodes, directly or by way of others
abbrev pub are_joined : List Ends → ℕ → ℕ → Bool
are_joined links x y = component (map link_of links) x == component (map link_of links) y

-- the links but the one of this number
abbrev pub without : ℕ → List Ends → List Ends
without n links = take (n - 1) links ++ drop n links

-- the number of a link on the walk between two nodes: the others don't join them
abbrev pub walk_word : List Ends → ℕ → ℕ → ℕ → List ℕ
walk_word links x y n = if are_joined (without n links) x y then [] else codes " " ++ decimal n

-- those of all links on it, in the order of the file
abbrev pub walk_words : List Ends → ℕ → ℕ → List ℕ
walk_words links x y = flat_map (walk_word links x y) (range_with_len 1 (length links))

-- `other: [[link]] 2 4 7 join them already`
abbrev pub walk_line : List Ends → ℕ → ℕ → List ℕ
walk_line links x y = whole_of (codes "other: [[link]]" ∷ walk_words links x y ∷ codes " join them already\n" ∷ [])

-- of the nodes of a link, where earlier links join them
abbrev pub joined_line : Ends → List Ends → List ℕ
joined_line e earlier = if are_joined earlier e.a e.b then walk_line earlier e.a e.b else []

-- ---- labels of nodes

-- a label, where those of two components become the latter one
abbrev pub moved : ℕ → ℕ → ℕ → ℕ
moved from to label = if label == from then to else label

-- the components of so many nodes
abbrev pub labels_of : ℕ → List Ends → List ℕ
labels_of count links = map (component (map link_of links)) (range_with_len 0 count)
