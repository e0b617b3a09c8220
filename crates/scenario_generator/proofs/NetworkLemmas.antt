-- The nodes and links of a number: what stands at each place, and that they are an accepted tree.
use Rattle.std.proofs.Common.{◌≡◌, ◌≢◌, ℕ, zero, suc, ◌+◌, ◌-◌, ◌≤◌, ◌<◌, ◌^◌, ◌⊎◌, inl, inr, true, List, length, get_or, map, refl, sym, ap, ◌∙◌, subst, arith, length-append}
use Rattle.std.specs.Prelude.{All, AllPairs, ◌==◌, ◌&&◌}
use Rattle.std.specs.List.{range_with_len}
use Rattle.std.proofs.lemmas.{Bool.eq-eqb, List.get_or-map, List.get_or_append_left, List.get_or-append_right, List.length-map, List.Elements.All-append, List.Folds.list_any_at, List.FromFn.length-map-range_with_len, List.FromFn.get_or-map-range_with_len}
use Rattle.srp_base.proofs.Bools.{or-true}
use Rattle.tree_topology.specs.declared.{graph.Link.Link, graph.NodeKind.NodeKind, graph.NodeKind.TheVariants.Station, graph.NodeKind.TheVariants.Bridge}
use Rattle.tree_topology.specs.{Graph.IsNode, Graph.Connected, Graph.IsGraph, Graph.IsTree, Ports.neighbours, Refusal.IsAccepted, Refusal.HasNoLoop, Refusal.is_station, Topology.Topology}
use Rattle.topology_file.specs.declared.{entries.DomainWord.TheVariants.Both, entries.NodeEntry.NodeEntry, entries.LinkEntry.LinkEntry}
use Rattle.topology_file.specs.{Entries.is_name, Entries.joins_both, Kinds.IsStationNumber, Kinds.AreJoinedNumbers, Scenario.ends_of_entry, Scenario.node_kinds, Scenario.tree_links}
use Rattle.scenario_generator.specs.{bridge_count, station_count, link_count, bridge_entry, station_entry, station_node, drawn_nodes, bridge_link, station_link, drawn_links}
use Rattle.scenario_generator.proofs.{DrawLemmas.draw-below, DrawLemmas.bridges-between, DrawLemmas.stations-between, GrownTree.IsNext, GrownTree.IsGrown, GrownTree.grown-from-each, GrownTree.grown-accepted, GrownTree.few-links, PairLemmas.all-of-range, PairLemmas.pairs-differ, PairLemmas.numbered-is-name, PairLemmas.same-number, PairLemmas.same-letter}

-- ---- nodes

pub node-count : (number : ℕ) → length (drawn_nodes number) ≡ bridge_count number + station_count number
node-count number =
    let b = length-map-range_with_len bridge_entry 1 (bridge_count number) in
    let s = length-map-range_with_len (station_entry (bridge_count number)) 1 (station_count number) in
    let all = length-append (map bridge_entry (range_with_len 1 (bridge_count number))) (map (station_entry (bridge_count number)) (range_with_len 1 (station_count number))) in
    omega (arith, b, s, all)

-- the node at a place: a bridge, or behind the bridges a station
bridge-at : (number i : ℕ) (d : NodeEntry) → i < bridge_count number → get_or (drawn_nodes number) i d ≡ bridge_entry (1 + i)
bridge-at number i d lt =
    let b = length-map-range_with_len bridge_entry 1 (bridge_count number) in
    get_or_append_left (map bridge_entry (range_with_len 1 (bridge_count number))) (map (station_entry (bridge_count number)) (range_with_len 1 (station_count number))) d i (omega (arith, b, lt))
    ∙ get_or-map-range_with_len bridge_entry 1 (bridge_count number) i (1 + i) d lt refl

station-at : (number i : ℕ) (d : NodeEntry) → bridge_count number ≤ i → i < bridge_count number + station_count number
    → get_or (drawn_nodes number) i d ≡ station_entry (bridge_count number) (1 + (i - bridge_count number))
station-at number i d le lt =
    let b = length-map-range_with_len bridge_entry 1 (bridge_count number) in
    get_or-append_right (map bridge_entry (range_with_len 1 (bridge_count number))) (map (station_entry (bridge_count number)) (range_with_len 1 (station_count number))) (bridge_count number) i d b le
    ∙ get_or-map-range_with_len (station_entry (bridge_count number)) 1 (station_count number) (i - bridge_count number) (1 + (i - bridge_count number)) d (omega (arith, le, lt)) refl

-- each is one of these
past-or-not : (i n : ℕ) → (i < n) ⊎ (n ≤ i)
past-or-not zero zero = inr (omega arith)
past-or-not zero (suc n) = inl (omega arith)
past-or-not (suc i) zero = inr (omega arith)
past-or-not (suc i) (suc n) = elim (past-or-not i n) [
  | inl h ↦ inl (omega (arith, h))
  | inr h ↦ inr (omega (arith, h))
]

-- BridgeIDs are the numbers of the nodes
id-at : (number i : ℕ) (d : NodeEntry) → i < length (drawn_nodes number) → (get_or (drawn_nodes number) i d).id.0 ≡ 1 + i
id-at number i d lt =
    let n = node-count number in
    elim (past-or-not i (bridge_count number)) [
      | inl low ↦ ap (λ (x : NodeEntry). x.id.0) (bridge-at number i d low)
      | inr high ↦ ap (λ (x : NodeEntry). x.id.0) (station-at number i d high (omega (arith, n, lt))) ∙ omega (arith, high)
    ]

pub ids-small : (number : ℕ) → All (λ x. x.id.0 < 2 ^ 64) (drawn_nodes number)
ids-small number i d lt =
    let n = node-count number in
    let b = (bridges-between number).1 in
    let s = (stations-between number).1 in
    let e = id-at number i d lt in
    omega (arith, e, n, b, s, lt)

pub ids-differ : (number : ℕ) → AllPairs (λ x y. x.id.0 ≢ y.id.0) (drawn_nodes number)
ids-differ number = pairs-differ (λ (x : NodeEntry). x.id.0) (λ (i : ℕ). 1 + i) (drawn_nodes number) (id-at number) (λ i j lt below e. omega (arith, lt, e))

pub names-formed : (number : ℕ) → All (λ x. is_name x.name ≡ true) (drawn_nodes number)
names-formed number =
    let b = (bridges-between number).1 in
    let s = (stations-between number).1 in
    All-append (λ (x : NodeEntry). is_name x.name ≡ true) (map bridge_entry (range_with_len 1 (bridge_count number)))
    (map (station_entry (bridge_count number)) (range_with_len 1 (station_count number)))
    (all-of-range (λ (x : NodeEntry). is_name x.name ≡ true) bridge_entry 1 (bridge_count number) (λ k lt. numbered-is-name 98 (1 + k) refl (omega (arith, b, lt))))
    (all-of-range (λ (x : NodeEntry). is_name x.name ≡ true) (station_entry (bridge_count number)) 1 (station_count number) (λ k lt. numbered-is-name 115 (1 + k) refl (omega (arith, s, lt))))

pub words-drawn : (number : ℕ) → All (λ x. x.domain ≡ Both) (drawn_nodes number)
words-drawn number =
    All-append (λ (x : NodeEntry). x.domain ≡ Both) (map bridge_entry (range_with_len 1 (bridge_count number))) (map (station_entry (bridge_count number)) (range_with_len 1 (station_count number)))
    (all-of-range (λ (x : NodeEntry). x.domain ≡ Both) bridge_entry 1 (bridge_count number) (λ k lt. refl))
    (all-of-range (λ (x : NodeEntry). x.domain ≡ Both) (station_entry (bridge_count number)) 1 (station_count number) (λ k lt. refl))

-- two bridges, two stations, or a bridge and a station have different names
names-apart : (number i j : ℕ) (d : NodeEntry) → i < j → j < bridge_count number + station_count number
    → (get_or (drawn_nodes number) i d).name ≢ (get_or (drawn_nodes number) j d).name
names-apart number i j d lt below e =
    let b = (bridges-between number).1 in
    let s = (stations-between number).1 in
    elim (past-or-not j (bridge_count number)) [
      | inl low ↦
          let one = ap (λ (x : NodeEntry). x.name) (bridge-at number i d (omega (arith, low, lt))) in
          let two = ap (λ (x : NodeEntry). x.name) (bridge-at number j d low) in
          let same = same-number 98 (1 + i) (1 + j) (omega (arith, low, lt, b)) (omega (arith, low, b)) (sym one ∙ e ∙ two) in
          omega (arith, same, lt)
      | inr high ↦
          let two = ap (λ (x : NodeEntry). x.name) (station-at number j d high below) in
          elim (past-or-not i (bridge_count number)) [
            | inl low ↦
                let one = ap (λ (x : NodeEntry). x.name) (bridge-at number i d low) in
                let same = same-letter 98 115 (1 + i) (1 + (j - bridge_count number)) (sym one ∙ e ∙ two) in
                omega (arith, same)
            | inr past ↦
                let one = ap (λ (x : NodeEntry). x.name) (station-at number i d past (omega (arith, lt, below))) in
                let same = same-number 115 (1 + (i - bridge_count number)) (1 + (j - bridge_count number)) (omega (arith, lt, below, s)) (omega (arith, below, s)) (sym one ∙ e ∙ two) in
                omega (arith, same, lt, past)
          ]
    ]

pub names-differ : (number : ℕ) → AllPairs (λ x y. x.name ≢ y.name) (drawn_nodes number)
names-differ number i j d lt below = let n = node-count number in names-apart number i j d lt (omega (arith, n, below))

-- each number from 0 is that of a station
pub station-number : (number s : ℕ) → s < station_count number → IsStationNumber (drawn_nodes number) (station_node (bridge_count number) (1 + s))
station-number number s lt =
    let n = node-count number in
    let place : station_node (bridge_count number) (1 + s) - 1 ≡ bridge_count number + s = omega arith in (
      (omega arith, omega (arith, n, lt)),
      λ d. ap (λ (i : ℕ). is_station (get_or (drawn_nodes number) i d).kind) place
          ∙ ap (λ (x : NodeEntry). is_station x.kind) (station-at number (bridge_count number + s) d (omega arith) (omega (arith, lt))),
    )

-- ---- links

pub links-counted : (number : ℕ) → length (drawn_links number) ≡ link_count number
links-counted number =
    let b = length-map-range_with_len (bridge_link number) 2 (bridge_count number - 1) in
    let s = length-map-range_with_len (station_link number (bridge_count number)) 1 (station_count number) in
    let all = length-append (map (bridge_link number) (range_with_len 2 (bridge_count number - 1))) (map (station_link number (bridge_count number)) (range_with_len 1 (station_count number))) in
    omega (arith, b, s, all)

-- a node is one more than the links before it, and joined with a bridge before it
record IsLinked (number i : ℕ) (l : LinkEntry) : Type 0 where
  a : l.a.0 ≡ 2 + i
  some : 1 ≤ l.b.0
  earlier : l.b.0 < 2 + i
  bridge : l.b.0 ≤ bridge_count number

bridge-linked : (number n i : ℕ) → n ≡ 2 + i → i < bridge_count number - 1 → IsLinked number i (bridge_link number n)
bridge-linked number n i e lt =
    let below = draw-below number (2 + (n - 1)) (n - 1) (omega (arith, e)) in
    record { a = e; some = omega arith; earlier = omega (arith, below, e); bridge = omega (arith, below, e, lt) }

station-linked : (number n i : ℕ) → bridge_count number + n ≡ 2 + i → bridge_count number - 1 ≤ i → IsLinked number i (station_link number (bridge_count number) n)
station-linked number n i e le =
    let two = (bridges-between number).0 in
    let below = draw-below number (2 + (bridge_count number - 1 + n)) (bridge_count number) (omega (arith, two)) in
    record { a = e; some = omega arith; earlier = omega (arith, below, le); bridge = omega (arith, below) }

linked-at : (number i : ℕ) (d : LinkEntry) → i < length (drawn_links number) → IsLinked number i (get_or (drawn_links number) i d)
linked-at number i d lt =
    let two = (bridges-between number).0 in
    let all = links-counted number in
    let b = length-map-range_with_len (bridge_link number) 2 (bridge_count number - 1) in
    elim (past-or-not i (bridge_count number - 1)) [
      | inl low ↦ subst (IsLinked number i)
          (sym (get_or_append_left (map (bridge_link number) (range_with_len 2 (bridge_count number - 1)))
          (map (station_link number (bridge_count number)) (range_with_len 1 (station_count number))) d i (omega (arith, b, low))
          ∙ get_or-map-range_with_len (bridge_link number) 2 (bridge_count number - 1) i (2 + i) d low refl))
          (bridge-linked number (2 + i) i refl low)
      | inr high ↦ subst (IsLinked number i)
          (sym (get_or-append_right (map (bridge_link number) (range_with_len 2 (bridge_count number - 1)))
          (map (station_link number (bridge_count number)) (range_with_len 1 (station_count number))) (bridge_count number - 1) i d b high
          ∙ get_or-map-range_with_len (station_link number (bridge_count number)) 1 (station_count number) (i - (bridge_count number - 1))
          (1 + (i - (bridge_count number - 1))) d (omega (arith, high, lt, all)) refl))
          (station-linked number (1 + (i - (bridge_count number - 1))) i (omega (arith, high, two)) high)
    ]

-- the values of a link
pub links-formed : (number : ℕ) → All (λ l. (l.delta_a + l.delta_b ≤ 90) × (l.latency < 2 ^ 32)) (drawn_links number)
links-formed number =
    All-append (λ (l : LinkEntry). (l.delta_a + l.delta_b ≤ 90) × (l.latency < 2 ^ 32)) (map (bridge_link number) (range_with_len 2 (bridge_count number - 1)))
    (map (station_link number (bridge_count number)) (range_with_len 1 (station_count number)))
    (all-of-range (λ (l : LinkEntry). (l.delta_a + l.delta_b ≤ 90) × (l.latency < 2 ^ 32)) (bridge_link number) 2 (bridge_count number - 1) (λ k lt. (omega arith, omega arith)))
    (all-of-range (λ (l : LinkEntry). (l.delta_a + l.delta_b ≤ 90) × (l.latency < 2 ^ 32)) (station_link number (bridge_count number)) 1 (station_count number) (λ k lt. (omega arith, omega arith)))

-- ---- the tree

grown : (number : ℕ) → IsGrown (bridge_count number) 2 (tree_links (drawn_links number))
grown number = grown-from-each (bridge_count number) 2 (tree_links (drawn_links number)) (λ i d lt.
    let n = length-map (drawn_links number) ends_of_entry in
    let e : LinkEntry = bridge_link number 2 in
    let below : i < length (drawn_links number) = omega (arith, n, lt) in
    let h = linked-at number i e below in
    subst (IsNext (bridge_count number) (2 + i)) (sym (get_or-map ends_of_entry (drawn_links number) i e d below))
    (record { a = h.a; some = h.some; earlier = h.earlier; bridge = h.bridge }))

-- a node whose kind is that of a station stands behind the bridges
station-past : (number x : ℕ) → IsNode (length (node_kinds (drawn_nodes number))) x → ((d : NodeKind) → get_or (node_kinds (drawn_nodes number)) (x - 1) d ≡ Station) → bridge_count number < x
station-past number x is says =
    let some = is.0 in
    let high = is.1 in
    let kinds = length-map (drawn_nodes number) (λ (x : NodeEntry). x.kind) in
    elim (past-or-not (x - 1) (bridge_count number)) [
      | inl low ↦
          let e : NodeEntry = bridge_entry 1 in
          let kind : Bridge ≡ Station =
          sym (get_or-map (λ (x : NodeEntry). x.kind) (drawn_nodes number) (x - 1) e Bridge (omega (arith, some, high, kinds))
          ∙ ap (λ (y : NodeEntry). y.kind) (bridge-at number (x - 1) e low))
          ∙ says Bridge in
          absurd cc
      | inr past ↦ omega (arith, past, some)
    ]

pub network-accepted : (number : ℕ)
    → ((count : ℕ) (ls : List Link) → IsGraph count ls → HasNoLoop ls → ((x : ℕ) → IsNode count x → Connected ls 1 x) → IsTree count ls)
    → IsAccepted (node_kinds (drawn_nodes number)) (tree_links (drawn_links number))
network-accepted number tree =
    let b = bridges-between number in
    let s = stations-between number in
    let two = b.0 in
    let few = b.1 in
    let small = s.1 in
    let kinds = length-map (drawn_nodes number) (λ (x : NodeEntry). x.kind) in
    let links = length-map (drawn_links number) ends_of_entry in
    let nodes = node-count number in
    let all = links-counted number in
    grown-accepted (bridge_count number) (node_kinds (drawn_nodes number)) (tree_links (drawn_links number))
    (omega (arith, two)) (omega (arith, kinds, links, nodes, all, two)) (omega (arith, links, all, few, small)) (grown number) (station-past number) tree

-- the kinds and the ends that the tree is made of
pub tree-ready : (number : ℕ) (nodes : List NodeEntry) (links : List LinkEntry) (kinds : List NodeKind) (ends : List Link) → nodes ≡ drawn_nodes number
    → links ≡ drawn_links number → kinds ≡ node_kinds nodes
    → ends ≡ tree_links links
    → ((count : ℕ) (ls : List Link) → IsGraph count ls → HasNoLoop ls → ((x : ℕ) → IsNode count x → Connected ls 1 x) → IsTree count ls)
    → (IsAccepted kinds ends × (length kinds < 65536) × (length ends < 65536)) × (kinds ≡ node_kinds (drawn_nodes number)) × (ends ≡ tree_links (drawn_links number))
tree-ready number nodes links kinds ends of_nodes of_links is_kinds is_ends tree =
    let k : kinds ≡ node_kinds (drawn_nodes number) = is_kinds ∙ ap node_kinds of_nodes in
    let e : ends ≡ tree_links (drawn_links number) = is_ends ∙ ap tree_links of_links in
    let few = (bridges-between number).1 in
    let small = (stations-between number).1 in
    let n = node-count number in
    let all = links-counted number in
    let kn = ap (λ (xs : List NodeKind). length xs) k in
    let en = ap (λ (xs : List Link). length xs) e in
    let km = length-map (drawn_nodes number) (λ (x : NodeEntry). x.kind) in
    let em = length-map (drawn_links number) ends_of_entry in (
      (
        subst (λ (xs : List NodeKind). IsAccepted xs ends) (sym k) (subst (λ (ls : List Link). IsAccepted (node_kinds (drawn_nodes number)) ls) (sym e) (network-accepted number tree)),
        omega (arith, kn, km, n, few, small),
        omega (arith, en, em, all, few, small),
      ),
      k,
      e,
    )

-- a tree is its kinds and its links
pub same-tree : (t : Topology) (kinds : List NodeKind) (links : List Link) → t.kinds ≡ kinds → t.links ≡ links → t ≡ record { kinds = kinds; links = links }
same-tree t kinds links k l = ap (λ (x : List NodeKind). make x t.links) k ∙ ap (λ (y : List Link). make kinds y) l
  where
    make : List NodeKind → List Link → Topology
    make x y = record { kinds = x; links = y }

pub uncrowded : (number x : ℕ) → length (neighbours (tree_links (drawn_links number)) x) ≤ 16
uncrowded number x =
    let few = (bridges-between number).1 in
    let small = (stations-between number).1 in
    let links = length-map (drawn_links number) ends_of_entry in
    let all = links-counted number in
    let most = few-links x (tree_links (drawn_links number)) in
    omega (arith, few, small, links, all, most)

-- ---- the ends of a link are nodes that a link joins

joined-so : (l : LinkEntry) → joins_both l.a.0 l.b.0 l ≡ true
joined-so l = rw (eq-eqb l.a.0 l.a.0 refl, eq-eqb l.b.0 l.b.0 refl) refl

joined-back : (l : LinkEntry) → joins_both l.b.0 l.a.0 l ≡ true
joined-back l = rw (eq-eqb l.a.0 l.a.0 refl, eq-eqb l.b.0 l.b.0 refl) (or-true (l.a.0 == l.b.0 && l.b.0 == l.a.0))

pub ends-joined : (number i : ℕ) (d : LinkEntry) → i < link_count number → (let l = get_or (drawn_links number) i d in
    AreJoinedNumbers (drawn_nodes number) (drawn_links number) l.a.0 l.b.0 × AreJoinedNumbers (drawn_nodes number) (drawn_links number) l.b.0 l.a.0)
ends-joined number i d lt =
    let l = get_or (drawn_links number) i d in
    let two = (bridges-between number).0 in
    let all = links-counted number in
    let nodes = node-count number in
    let below : i < length (drawn_links number) = omega (arith, all, lt) in
    let h = linked-at number i d below in
    let a = h.a in
    let some = h.some in
    let bridge = h.bridge in
    let first : IsNode (length (drawn_nodes number)) l.a.0 = (omega (arith, a), omega (arith, a, lt, nodes, two)) in
    let second : IsNode (length (drawn_nodes number)) l.b.0 = (some, omega (arith, bridge, nodes)) in (
      (first, second, list_any_at (joins_both l.a.0 l.b.0) (drawn_links number) i d below (joined-so l)),
      (second, first, list_any_at (joins_both l.b.0 l.a.0) (drawn_links number) i d below (joined-back l)),
    )
