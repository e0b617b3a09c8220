-- What the tables of a tree's parents and depths say of its walks.
use Rattle.std.proofs.Common.{◌≡◌, ◌≢◌, ℕ, ◌+◌, ◌-◌, ◌<◌, ◌≤◌, Bool, true, false, not, ◌==◌, List, [], ◌∷◌, ◌++◌, inl, inr, refl, sym, ap, subst, ◌∙◌, length, get_or, reverse, arith}
use Rattle.std.proofs.lemmas.{Bool.cases_eq, Bool.false≢true, Bool.Decides.nat_tests, List.append_assoc, List.reverse-append, List.Sums.position_or_len_is}
use Rattle.srp_base.specs.declared.numbers.EgressPort.{EgressPort}
use Rattle.tree_topology.specs.{Link, NodeKind, IsNode, Joined, IsWalk, IsTree, neighbours, index_in, port_to, IsPort, far_node, egress_ports, link_at, walk_between, path_between, begins_with, is_behind, Routed, IsRooted, IsRouted, ports_made}
use Rattle.tree_topology.proofs.Climbs as climbs
use Rattle.tree_topology.proofs.{Climbs.walk-up, Climbs.walk-down, Climbs.not-top, Climbs.parent-joined, Links.joined-sym, Links.joined-known, Trees.walk-path, Trees.walk-joined, Trees.begins-same, Trees.side-far, Trees.side-near, WalkBetween.within, PortFacts.port-leads, PortFacts.port-joined, ListReads.read-at, Refusals.link-joined}

-- the tables as functions
rooted-by : (count : ℕ) (links : List Link) (parents depths : List ℕ) → IsRooted count links parents depths
    → climbs.IsRooted count links (λ x. get_or parents x 0) (λ x. get_or depths x 0)
rooted-by count links parents depths r = record { top = r.top; joined = r.joined; falls = r.falls }

-- a node's parent is a node
pub parent-known : (count : ℕ) (links : List Link) (parents depths : List ℕ) → IsTree count links
    → IsRooted count links parents depths → (x : ℕ) → IsNode count x → x ≢ 1 → IsNode count (get_or parents x 0)
parent-known count links parents depths tree r x m n =
    (joined-known count links x (get_or parents x 0) tree.graph.known (r.joined x m n)).1

-- the deeper of two nodes isn't the first
pub deeper-not_first : (count : ℕ) (links : List Link) (parents depths : List ℕ) → IsRooted count links parents depths
    → (x y : ℕ) → IsNode count y → x ≢ y → get_or depths y 0 ≤ get_or depths x 0 → x ≢ 1
deeper-not_first count links parents depths r x y m ne le = grind (arith, not-top)

-- the ports of a walk and one step more
pub egress-push : (links : List Link) (x : ℕ) (w : List ℕ) (y z : ℕ) → IsWalk (Joined links) x w y
    → egress_ports links x (w ++ z ∷ []) ≡ egress_ports links x w ++ port_to links y z ∷ []
egress-push links x [] y z h = ap (λ (t : ℕ). port_to links t z ∷ []) h
egress-push links x (v ∷ w) y z h = grind (arith, egress-push links v w y z h.1)

-- from the deeper of two nodes a path goes up first
pub path-up : (count : ℕ) (links : List Link) (parents depths : List ℕ) → IsTree count links
    → IsRooted count links parents depths → (x y : ℕ) → IsNode count x → IsNode count y → x ≢ y
    → get_or depths y 0 ≤ get_or depths x 0 → path_between links x y
    ≡ port_to links x (get_or parents x 0) ∷ path_between links (get_or parents x 0) y
path-up count links parents depths tree r x y m n ne le =
    ap (λ (t : List ℕ). egress_ports links x t)
    (walk-up count links (λ x. get_or parents x 0) (λ x. get_or depths x 0)
    (rooted-by count links parents depths r) tree x y m n ne le)

-- to the deeper one it comes down last
pub path-down : (count : ℕ) (links : List Link) (parents depths : List ℕ) → IsTree count links
    → IsRooted count links parents depths → (x y : ℕ) → IsNode count x → IsNode count y → x ≢ y
    → get_or depths x 0 ≤ get_or depths y 0 → path_between links x y
    ≡ path_between links x (get_or parents y 0) ++ port_to links (get_or parents y 0) y ∷ []
path-down count links parents depths tree r x y m n ne le =
    let up = get_or parents y 0 in
    let k = parent-known count links parents depths tree r y n (deeper-not_first count links parents depths r y x m (λ e. ne (sym e)) le) in
    ap (λ (t : List ℕ). egress_ports links x t)
    (walk-down count links (λ x. get_or parents x 0) (λ x. get_or depths x 0)
    (rooted-by count links parents depths r) tree x y m n ne le)
    ∙ egress-push links x (walk_between links x up) up y (walk-path count links tree x up m k).0

walk-same : (links : List Link) (x : ℕ) → walk_between links x x ≡ []
walk-same [] x = refl
walk-same (l ∷ links) x = within l links x x refl ∙ walk-same links x

-- one step up keeps the ports of the path
pub made-up : (count : ℕ) (links : List Link) (parents depths : List ℕ) (ups ups' downs : List EgressPort)
    → IsTree count links → IsRooted count links parents depths → (x y : ℕ) → IsNode count x → IsNode count y → x ≢ y
    → get_or depths y 0 ≤ get_or depths x 0 → ups' ≡ ups ++ port_to links x (get_or parents x 0) ∷ []
    → ports_made links (get_or parents x 0) y ups' downs ≡ ports_made links x y ups downs
made-up count links parents depths ups ups' downs tree r x y m n ne le e =
    let up = get_or parents x 0 in
    let rest = path_between links up y ++ reverse downs in
    ap (λ (t : List EgressPort). t ++ rest) e ∙ append_assoc ups (port_to links x up ∷ []) rest
    ∙ ap (λ (t : List EgressPort). ups ++ (t ++ reverse downs))
    (sym (path-up count links parents depths tree r x y m n ne le))

-- and so does one step down
pub made-down : (count : ℕ) (links : List Link) (parents depths : List ℕ) (ups downs downs' : List EgressPort)
    → IsTree count links → IsRooted count links parents depths → (x y : ℕ) → IsNode count x → IsNode count y → x ≢ y
    → get_or depths x 0 ≤ get_or depths y 0 → downs' ≡ downs ++ port_to links (get_or parents y 0) y ∷ []
    → ports_made links x (get_or parents y 0) ups downs' ≡ ports_made links x y ups downs
made-down count links parents depths ups downs downs' tree r x y m n ne le e =
    let up = get_or parents y 0 in
    let port = port_to links up y in
    let front = path_between links x up in
    let turned : reverse downs' ≡ port ∷ reverse downs = ap (λ (t : List EgressPort). reverse t) e ∙ reverse-append downs (port ∷ []) in
    ap (λ (t : List EgressPort). ups ++ (front ++ t)) turned
    ∙ ap (λ (t : List EgressPort). ups ++ t) (sym (append_assoc front (port ∷ []) (reverse downs)))
    ∙ ap (λ (t : List EgressPort). ups ++ (t ++ reverse downs))
    (sym (path-down count links parents depths tree r x y m n ne le))

-- at the end what was made is the path
pub made-end : (links : List Link) (x y : ℕ) (ups downs path : List EgressPort) → ports_made links x y ups downs ≡ path → x ≡ y → ups ++ reverse downs ≡ path
made-end links x y ups downs path made e = grind (arith, walk-same)

-- of two joined nodes the deeper one has the other as its parent
pub parent-of_joined : (count : ℕ) (links : List Link) (parents depths : List ℕ) → IsTree count links
    → IsRooted count links parents depths → (u v : ℕ) → Joined links u v → get_or depths u 0 < get_or depths v 0
    → (v ≢ 1) × (get_or parents v 0 ≡ u)
parent-of_joined count links parents depths tree r u v j lt =
    let k = joined-known count links u v tree.graph.known j in
    elim (parent-joined count links (λ x. get_or parents x 0) (λ x. get_or depths x 0) (rooted-by count links parents depths r) tree u v j) [
      | inl e ↦ (let f = r.falls u k.0 e.0 in let d : get_or depths (get_or parents u 0) 0
          ≡ get_or depths v 0 = ap (λ (t : ℕ). get_or depths t 0) e.1 in absurd (omega (arith, f, d, lt)))
      | inr e ↦ e
    ]

pub parent-of_other : (count : ℕ) (links : List Link) (parents depths : List ℕ) → IsTree count links
    → IsRooted count links parents depths → (u v : ℕ) → Joined links u v → get_or depths v 0 ≤ get_or depths u 0
    → (u ≢ 1) × (get_or parents u 0 ≡ v)
parent-of_other count links parents depths tree r u v j le =
    let k = joined-known count links u v tree.graph.known j in
    elim (parent-joined count links (λ x. get_or parents x 0) (λ x. get_or depths x 0) (rooted-by count links parents depths r) tree u v j) [
      | inl e ↦ e
      | inr e ↦ (let f = r.falls v k.1 e.0 in let d : get_or depths (get_or parents v 0) 0
          ≡ get_or depths u 0 = ap (λ (t : ℕ). get_or depths t 0) e.1 in absurd (omega (arith, f, d, le)))
    ]

sides-by : (b c : Bool) → (c ≡ false → b ≡ true) → (b ≡ true → c ≡ false) → b ≡ not c
sides-by b c h1 h2 = grind (arith, false≢true)

-- a node is behind a port, or the port's node is behind it: not both
pub sides : (count : ℕ) (links : List Link) → IsTree count links → (x v y : ℕ) → IsNode count x → IsNode count y
    → Joined links x v → begins_with v (walk_between links x y) ≡ not (begins_with x (walk_between links v y))
sides count links tree x v y m n j =
    sides-by (begins_with v (walk_between links x y)) (begins_with x (walk_between links v y))
    (λ e. side-far count links tree x v y n j e) (λ e. side-near count links tree x v y m n e)

begins-push : (v y : ℕ) (w : List ℕ) → y ≢ v → begins_with v (w ++ y ∷ []) ≡ begins_with v w
begins-push v y w h1 = grind (arith, nat_tests)

-- a climb keeps on which side of a less deep node's link to its parent one is
pub climb-keeps : (count : ℕ) (links : List Link) (parents depths : List ℕ) → IsTree count links
    → IsRooted count links parents depths → (top at : ℕ) → IsNode count top → IsNode count at → top ≢ 1
    → get_or depths top 0 < get_or depths at 0
    → begins_with top (walk_between links (get_or parents top 0) (get_or parents at 0))
    ≡ begins_with top (walk_between links (get_or parents top 0) at)
climb-keeps count links parents depths tree r top at m n first lt =
    let near = get_or parents top 0 in
    let up = get_or parents at 0 in
    let k = parent-known count links parents depths tree r top m first in
    let less = r.falls top m first in
    let deeper : (x : ℕ) → get_or depths x 0 < get_or depths at 0
    → x ≢ at = λ x l e. (let d : get_or depths x 0
    ≡ get_or depths at 0 = ap (λ (t : ℕ). get_or depths t 0) e in absurd (omega (arith, d, l))) in
    let w = walk-down count links (λ x. get_or parents x 0) (λ x. get_or depths x 0)
    (rooted-by count links parents depths r) tree near at k n (deeper near (omega (arith, less, lt)))
    (omega (arith, less, lt)) in
    sym (ap (λ (t : List ℕ). begins_with top t) w ∙ begins-push top at (walk_between links near up) (λ e. deeper top lt (sym e)))

-- once one is no deeper than the node, one is at it or on the other side
pub climb-ends : (count : ℕ) (links : List Link) (parents depths : List ℕ) → IsTree count links
    → IsRooted count links parents depths → (top at : ℕ) → IsNode count top → IsNode count at → top ≢ 1
    → get_or depths at 0 ≤ get_or depths top 0
    → begins_with top (walk_between links (get_or parents top 0) at) ≡ (at == top)
climb-ends count links parents depths tree r top at m n first le =
    let near = get_or parents top 0 in
    let j = r.joined top m first in
    let back = joined-sym links top near j in
    let k = parent-known count links parents depths tree r top m first in
    elim (cases_eq at top) [
      | inl e ↦ (let yes' : (at == top) ≡ true = grind (arith, nat_tests) in let w : walk_between links near at
          ≡ top ∷ [] = ap (λ (t : ℕ). walk_between links near t) e
          ∙ walk-joined count links tree near top back in begins-same top [] (walk_between links near at) w
          ∙ sym yes')
      | inr ne ↦ (let no' : (at == top) ≡ false = grind (arith, nat_tests) in let w = walk-up count links
          (λ x. get_or parents x 0) (λ x. get_or depths x 0) (rooted-by count links parents depths r) tree top at m n
          (λ e. ne (sym e)) le in side-near count links tree top near at m n
          (begins-same near (walk_between links near at) (walk_between links top at) w) ∙ sym no')
    ]

-- behind a port to a child is what is below the child
pub behind-child : (links : List Link) (p : EgressPort) (y far up : ℕ) (b : Bool) → far ≡ far_node links p
    → up ≡ p.node.0 → b ≡ begins_with far (walk_between links up y) → b ≡ is_behind links p y
behind-child links p y far up b e f h = grind arith

-- behind a port to the parent is what isn't below the port's node
pub behind-parent : (count : ℕ) (links : List Link) → IsTree count links → (p : EgressPort) (y up : ℕ) (b : Bool)
    → IsPort count links p → IsNode count y → up ≡ far_node links p
    → b ≡ begins_with p.node.0 (walk_between links up y) → not b ≡ is_behind links p y
behind-parent count links tree p y up b h n e f =
    ap not (f ∙ ap (λ (t : ℕ). begins_with p.node.0 (walk_between links t y)) e)
    ∙ sym (sides count links tree p.node.0 (far_node links p) y h.0 n (port-joined count links p h))

-- the first place at which a node stands
pub place-first : (xs : List ℕ) (v i : ℕ) → i ≤ length xs → ((k : ℕ) → k < i → get_or xs k 0 ≢ v) → (i < length xs → get_or xs i 0 ≡ v) → index_in v xs ≡ i
place-first xs v i le before here =
    position_or_len_is (λ (u : ℕ). u == v) xs i 0 le
    (λ k lt. (let n = before k lt in let t : (get_or xs k 0 == v) ≡ false = grind (arith, nat_tests) in t))
    (λ lt. (let e = here lt in let t : (get_or xs i 0 == v) ≡ true = grind (arith, nat_tests) in t))

-- the number of the port towards a neighbour fits
pub port-fits : (kinds : List NodeKind) (links : List Link) (parents depths : List ℕ) (x v place : ℕ)
    → IsRouted kinds links parents depths → Joined links x v → place ≡ index_in v (neighbours links x)
    → (x ≤ length kinds) × (place + 1 ≤ 255)
port-fits kinds links parents depths x v place h j e =
    let p = port-leads (length kinds) links h.accepted.tree x v j in
    let few = h.accepted.counted_ports x p.0.0 in
    (p.0.0.1, omega (arith, e, p.0.2, few))

-- a link read at its place joins its ends
pub link-ends : (kinds : List NodeKind) (links : List Link) (parents depths : List ℕ) (n i : ℕ) (l : Link)
    → IsRouted kinds links parents depths → 1 ≤ n → n ≤ length links → i ≡ n → l ≡ get_or links (i - 1) l
    → Joined links l.a.0 l.b.0 × (l ≡ link_at links n)
link-ends kinds links parents depths n i l h low high e r =
    let none : Link = record { a = record { 0 = 0 }; b = record { 0 = 0 } } in
    let same : i - 1 ≡ n - 1 = omega (arith, e) in
    let lt : n - 1 < length links = omega (arith, low, high) in
    let at : l ≡ link_at links n = read-at links (n - 1) (i - 1) l none same lt r in
    let F : Link → Type 0 = λ m. Joined links m.a.0 m.b.0 in
    (subst F (sym at) (link-joined links (n - 1) none lt), at)

-- what a port leads to is a node that is joined with the port's
pub far-node : (kinds : List NodeKind) (links : List Link) (parents depths : List ℕ) (p : EgressPort) (far : ℕ)
    → IsRouted kinds links parents depths → IsPort (length kinds) links p → far ≡ far_node links p
    → IsNode (length kinds) far × Joined links p.node.0 far
far-node kinds links parents depths p far h k e =
    let j = port-joined (length kinds) links p k in
    let F : ℕ → Type 0 = λ t. IsNode (length kinds) t × Joined links p.node.0 t in
    subst F (sym e) ((joined-known (length kinds) links p.node.0 (far_node links p) h.accepted.tree.graph.known j).1, j)

-- a node that is deeper than another isn't the first
pub climb-first : (kinds : List NodeKind) (links : List Link) (parents depths : List ℕ) (top at a b : ℕ)
    → IsRouted kinds links parents depths → IsNode (length kinds) top → a ≡ get_or depths top 0
    → b ≡ get_or depths at 0 → a < b → at ≢ 1
climb-first kinds links parents depths top at a b h m ea eb lt = grind (arith, deeper-not_first)

-- a climb of one step
pub climb-step : (kinds : List NodeKind) (links : List Link) (parents depths : List ℕ) (top at up node a b : ℕ)
    → IsRouted kinds links parents depths → IsNode (length kinds) top → IsNode (length kinds) at → top ≢ 1
    → a ≡ get_or depths top 0 → b ≡ get_or depths at 0 → a < b → up ≡ get_or parents at 0
    → begins_with top (walk_between links (get_or parents top 0) at)
    ≡ begins_with top (walk_between links (get_or parents top 0) node)
    → begins_with top (walk_between links (get_or parents top 0) up)
    ≡ begins_with top (walk_between links (get_or parents top 0) node)
climb-step kinds links parents depths top at up node a b h m n first ea eb lt e side =
    ap (λ (t : ℕ). begins_with top (walk_between links (get_or parents top 0) t)) e
    ∙ climb-keeps (length kinds) links parents depths h.accepted.tree h.rooted top at m n first
    (omega (arith, ea, eb, lt)) ∙ side

pub climb-end : (kinds : List NodeKind) (links : List Link) (parents depths : List ℕ) (top at node a b : ℕ)
    → IsRouted kinds links parents depths → IsNode (length kinds) top → IsNode (length kinds) at → top ≢ 1
    → a ≡ get_or depths top 0 → b ≡ get_or depths at 0 → b ≤ a
    → begins_with top (walk_between links (get_or parents top 0) at)
    ≡ begins_with top (walk_between links (get_or parents top 0) node)
    → (at == top) ≡ begins_with top (walk_between links (get_or parents top 0) node)
climb-end kinds links parents depths top at node a b h m n first ea eb le side =
    sym (climb-ends (length kinds) links parents depths h.accepted.tree h.rooted top at m n first (omega (arith, ea, eb, le))) ∙ side

-- the far node of a port is a child of the port's node where it is deeper, else its parent
pub child-of : (kinds : List NodeKind) (links : List Link) (parents depths : List ℕ) (near far a b : ℕ)
    → IsRouted kinds links parents depths → Joined links near far → a ≡ get_or depths near 0 → b ≡ get_or depths far 0
    → a < b → (far ≢ 1) × (get_or parents far 0 ≡ near)
child-of kinds links parents depths near far a b h j ea eb lt =
    parent-of_joined (length kinds) links parents depths h.accepted.tree h.rooted near far j (omega (arith, ea, eb, lt))

pub parent-of : (kinds : List NodeKind) (links : List Link) (parents depths : List ℕ) (near far a b : ℕ)
    → IsRouted kinds links parents depths → Joined links near far → a ≡ get_or depths near 0 → b ≡ get_or depths far 0
    → b ≤ a → (near ≢ 1) × (get_or parents near 0 ≡ far)
parent-of kinds links parents depths near far a b h j ea eb le =
    parent-of_other (length kinds) links parents depths h.accepted.tree h.rooted near far j (omega (arith, ea, eb, le))

-- the far node as it is read from the neighbours
pub far-read : (links : List Link) (p : EgressPort) (row : List ℕ) (i : ℕ) → row ≡ neighbours links p.node.0
    → i ≡ p.port.0 → get_or row (i - 1) 0 ≡ far_node links p
far-read links p row i e f = grind arith

-- one step up, as the code takes it
pub step-up : (kinds : List NodeKind) (links : List Link) (parents depths : List ℕ) (x y up : ℕ) (port : EgressPort)
    (ups ups' downs : List EgressPort) → IsRouted kinds links parents depths → IsNode (length kinds) x
    → IsNode (length kinds) y → x ≢ y → get_or depths y 0 ≤ get_or depths x 0 → up ≡ get_or parents x 0
    → port ≡ port_to links x up → ups' ≡ ups ++ port ∷ []
    → ports_made links up y ups' downs ≡ ports_made links x y ups downs
step-up kinds links parents depths x y up port ups ups' downs h m n ne le eu ep e =
    let whole : ups' ≡ ups ++ port_to links x (get_or parents x 0) ∷ [] = e
    ∙ ap (λ (t : EgressPort). ups ++ t ∷ []) (ep ∙ ap (λ (t : ℕ). port_to links x t) eu) in
    ap (λ (t : ℕ). ports_made links t y ups' downs) eu ∙ made-up (length kinds) links parents depths ups ups' downs h.accepted.tree h.rooted x y m n ne le whole

-- one step down, as the code takes it
pub step-down : (kinds : List NodeKind) (links : List Link) (parents depths : List ℕ) (x y up : ℕ) (port : EgressPort)
    (ups downs downs' : List EgressPort) → IsRouted kinds links parents depths → IsNode (length kinds) x
    → IsNode (length kinds) y → x ≢ y → get_or depths x 0 ≤ get_or depths y 0 → up ≡ get_or parents y 0
    → port ≡ port_to links up y → downs' ≡ downs ++ port ∷ []
    → ports_made links x up ups downs' ≡ ports_made links x y ups downs
step-down kinds links parents depths x y up port ups downs downs' h m n ne le eu ep e =
    let whole : downs' ≡ downs ++ port_to links (get_or parents y 0) y ∷ [] = e
    ∙ ap (λ (t : EgressPort). downs ++ t ∷ []) (ep ∙ ap (λ (t : ℕ). port_to links t y) eu) in
    ap (λ (t : ℕ). ports_made links x t ups downs') eu
    ∙ made-down (length kinds) links parents depths ups downs downs' h.accepted.tree h.rooted x y m n ne le whole

-- the tables of a tree as one
abbrev routed : List NodeKind → List Link → List ℕ → List ℕ → Routed
routed kinds links parents depths = record {
  kinds = kinds;
  links = links;
  parents = parents;
  depths = depths;
}

-- equal tables make the same tree
pub routed-as : (kinds kinds' : List NodeKind) (links links' : List Link) (parents parents' depths depths' : List ℕ)
    → kinds' ≡ kinds → links' ≡ links → parents' ≡ parents → depths' ≡ depths → IsRouted kinds links parents depths
    → IsRouted kinds' links' parents' depths'
routed-as kinds kinds' links links' parents parents' depths depths' e f g i h = rw (e, f, g, i) h

pub routed-same : (kinds kinds' : List NodeKind) (links links' : List Link) (parents parents' depths depths' : List ℕ)
    → kinds' ≡ kinds → links' ≡ links → parents' ≡ parents → depths' ≡ depths
    → routed kinds' links' parents' depths' ≡ routed kinds links parents depths
routed-same kinds kinds' links links' parents parents' depths depths' e f g i = rw (e, f, g, i) refl
