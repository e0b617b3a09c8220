-- The ports of a tree's links: one link more.
use Rattle.std.proofs.Common.{◌≡◌, ℕ, ◌+◌, ◌-◌, ◌<◌, List, [], ◌∷◌, ◌++◌, length, drop, refl, sym, ap, ◌∙◌, arith}
use Rattle.std.specs.Prelude.{flat_map, slice_index_or}
use Rattle.std.specs.List.{AllByRecursion}
use Rattle.std.proofs.lemmas.List.{at_drop_more}
use Rattle.srp_base.specs.declared.numbers.EgressPort.{EgressPort}
use Rattle.tree_topology.specs.declared.graph.Link.{Link}
use Rattle.tree_topology.specs.{Topology.Topology, Ports.port_to, Ports.ends_of, Ports.link_at}

-- the ports of a link's ends, `a` first
abbrev pub both_ends : Topology → Link → List EgressPort
both_ends tree l = port_to tree.links l.a.0 l.b.0 ∷ port_to tree.links l.b.0 l.a.0 ∷ []

joins : {X : Type 0} (xs : List X) (a b : X) (rest : List X) → ((xs ++ a ∷ []) ++ b ∷ []) ++ rest ≡ xs ++ (a ∷ b ∷ rest)
joins [] a b rest = refl
joins (x ∷ xs) a b rest = ap (λ ys. x ∷ ys) (joins xs a b rest)

-- the link of no number
abbrev no_link : Link
no_link = record { a = record { 0 = 0 }; b = record { 0 = 0 } }

-- one link more
pub next-link : (tree : Topology) (i : ℕ) (ports : List EgressPort) → i < length tree.links
    → ((ports ++ (ends_of tree.links (i + 1)).0 ∷ []) ++ (ends_of tree.links (i + 1)).1 ∷ []) ++ flat_map (both_ends tree) (drop (i + 1) tree.links)
    ≡ ports ++ flat_map (both_ends tree) (drop i tree.links)
next-link tree i ports h =
    let link = link_at tree.links (i + 1) in
    let here : i ≡ i + 1 - 1 = omega arith in
    let next : drop i tree.links ≡ link ∷ drop (i + 1) tree.links
    = at_drop_more (λ (links : List Link). links) tree.links i no_link h ∙ ap (λ k. slice_index_or tree.links k no_link ∷ drop (i + 1) tree.links) here in
    joins ports (ends_of tree.links (i + 1)).0 (ends_of tree.links (i + 1)).1 (flat_map (both_ends tree) (drop (i + 1) tree.links))
    ∙ ap (λ links. ports ++ flat_map (both_ends tree) links) (sym next)

-- what holds of each and of two more holds of all
pub each-two : {X : Type 0} (P : X → Type 0) (xs : List X) (a b : X) → AllByRecursion P xs → P a → P b → AllByRecursion P ((xs ++ a ∷ []) ++ b ∷ [])
each-two P [] a b hs ha hb = (ha, (hb, tt))
each-two P (x ∷ xs) a b hs ha hb = (hs.0, each-two P xs a b hs.1 ha hb)
