-- A node's neighbours in the order of its links: whom they name, that none stands twice, and the
-- place of each.
use Rattle.std.proofs.Common.{◌≡◌, ◌≢◌, ℕ, suc, zero, ◌+◌, ◌-◌, ◌<◌, Option, Some, None, List, [], ◌∷◌, ◌⊎◌, inl, inr, refl, sym, ap, subst, ◌∙◌, length, get_or, arith}
use Rattle.std.proofs.lemmas.{Bool.cases_eq, Bool.Decides.nat_tests, List.Elements.All-head, List.Elements.All-tail}
use Rattle.std.specs.List.{cons_option}
use Rattle.srp_base.specs.declared.numbers.EgressPort.{EgressPort}
use Rattle.tree_topology.specs.{Link, Joins, Joined, IsAbsent, HasNoRepeat, HasNoSelfLink, IsTree, far_end, neighbours, index_in, port_to, IsPort, far_node, peer_of}
use Rattle.tree_topology.proofs.{Links.joined-sym, Links.joined-known, Forests.IsApart, Forests.apart-from_graph}

-- a link leads from a node to the other end, or not at all
pub far_end-cases : (x : ℕ) (l : Link) → ((v : ℕ) × (far_end x l ≡ Some v) × Joins l x v) ⊎ ((far_end x l ≡ None) × (l.a.0 ≢ x) × (l.b.0 ≢ x))
far_end-cases x l =
    elim (cases_eq l.a.0 x) [
      | inl e ↦ (let f : far_end x l ≡ Some l.b.0 = grind (arith, nat_tests) in inl (l.b.0, f, inl (e, refl)))
      | inr n ↦ elim (cases_eq l.b.0 x) [
        | inl e ↦ (let f : far_end x l ≡ Some l.a.0 = grind (arith, nat_tests) in inl (l.a.0, f, inr (refl, e)))
        | inr k ↦ (let f : far_end x l ≡ None = grind (arith, nat_tests) in inr (f, n, k))
      ]
    ]

neighbours-some : (x v : ℕ) (l : Link) (links : List Link) → far_end x l ≡ Some v → neighbours (l ∷ links) x ≡ v ∷ neighbours links x
neighbours-some x v l links e = ap (λ (o : Option ℕ). cons_option o (neighbours links x)) e

neighbours-none : (x : ℕ) (l : Link) (links : List Link) → far_end x l ≡ None → neighbours (l ∷ links) x ≡ neighbours links x
neighbours-none x l links e = ap (λ (o : Option ℕ). cons_option o (neighbours links x)) e

neighbour-cons : (l : Link) (links : List Link) (x v k d : ℕ) → Joins l x v
    → ((j : ℕ) → j < length (neighbours links x) → Joined links x (get_or (neighbours links x) j d))
    → k < suc (length (neighbours links x)) → Joined (l ∷ links) x (get_or (v ∷ neighbours links x) k d)
neighbour-cons l links x v zero d j rest lt = inl j
neighbour-cons l links x v (suc k) d j rest lt = inr (rest k (omega arith))

-- each of a node's neighbours is joined with it
pub neighbour-joined : (links : List Link) (x k d : ℕ) → k < length (neighbours links x) → Joined links x (get_or (neighbours links x) k d)
neighbour-joined [] x k d lt = absurd (omega (arith, lt))
neighbour-joined (l ∷ links) x k d lt =
    let F : List ℕ → Type 0 = λ t. Joined (l ∷ links) x (get_or t k d) in
    let L : List ℕ → Type 0 = λ t. k < length t in
    elim (far_end-cases x l) [
      | inl h ↦ (let e = neighbours-some x h.0 l links h.1 in subst F (sym e)
          (neighbour-cons l links x h.0 k d h.2 (λ j less. neighbour-joined links x j d less) (subst L e lt)))
      | inr h ↦ (let e = neighbours-none x l links h.0 in subst F (sym e) (inr (neighbour-joined links x k d (subst L e lt))))
    ]

-- a link leads from either end to the other
pub far_end-joins : (x v : ℕ) (l : Link) → l.a.0 ≢ l.b.0 → Joins l x v → far_end x l ≡ Some v
far_end-joins x v l ne j = grind (arith, nat_tests)

-- whom a node is joined with stands among its neighbours
pub joined-neighbour : (links : List Link) → HasNoSelfLink links → (x v : ℕ) → Joined links x v → (k : ℕ)
    × (k < length (neighbours links x)) × ((d : ℕ) → get_or (neighbours links x) k d ≡ v)
joined-neighbour [] other x v j = absurd j
joined-neighbour (l ∷ links) other x v j =
    let P : Link → Type 0 = λ l. l.a.0 ≢ l.b.0 in
    let G : List ℕ → Type 0 = λ t. (k : ℕ) × (k < length t) × ((d : ℕ) → get_or t k d ≡ v) in
    elim j [
      | inl e ↦ (let q = neighbours-some x v l links (far_end-joins x v l (All-head P l links other) e) in subst G (sym q) (0, omega arith, (λ d. refl)))
      | inr i ↦ (let h = joined-neighbour links (All-tail P l links other) x v i in elim (far_end-cases x l) [
        | inl f ↦ subst G (sym (neighbours-some x f.0 l links f.1)) (suc h.0, omega (arith, h.1), h.2)
        | inr f ↦ subst G (sym (neighbours-none x l links f.0)) h
      ])
    ]

-- who isn't joined with a node isn't among its neighbours
absent-neighbours : (links : List Link) (x v : ℕ) → ¬ Joined links x v → IsAbsent v (neighbours links x)
absent-neighbours [] x v n = tt
absent-neighbours (l ∷ links) x v n = grind (arith, absent-neighbours links x v (λ j. n (inr j)), neighbours-some, neighbours-none)

joins-same : (l : Link) (links : List Link) (x v : ℕ) → Joins l x v → Joined links x v → Joined links l.a.0 l.b.0
joins-same l links x v j k =
    let F : ℕ → Type 0 = λ t. Joined links t l.b.0 in
    let G : ℕ → Type 0 = λ t. Joined links x t in
    let H : ℕ → Type 0 = λ t. Joined links v t in
    elim j [ inl e ↦ subst F (sym e.0) (subst G (sym e.1) k) | inr e ↦ subst F (sym e.0) (subst H (sym e.1) (joined-sym links x v k)) ]

-- no neighbour stands twice
pub neighbours-differ : (links : List Link) → IsApart links → (x : ℕ) → HasNoRepeat (neighbours links x)
neighbours-differ [] apart x = tt
neighbours-differ (l ∷ links) apart x =
    let F : List ℕ → Type 0 = λ t. HasNoRepeat t in
    let rest = neighbours-differ links apart.1 x in
    elim (far_end-cases x l) [
      | inl f ↦ subst F (sym (neighbours-some x f.0 l links f.1)) (absent-neighbours links x f.0 (λ j. apart.0 (joins-same l links x f.0 f.2 j)), rest)
      | inr f ↦ subst F (sym (neighbours-none x l links f.0)) rest
    ]

absent-at : (v : ℕ) (xs : List ℕ) (k d : ℕ) → IsAbsent v xs → k < length xs → get_or xs k d ≢ v
absent-at v [] k d a lt = absurd (omega (arith, lt))
absent-at v (x ∷ xs) zero d a lt = λ e. a.0 (sym e)
absent-at v (x ∷ xs) (suc k) d a lt = absent-at v xs k d a.1 (omega (arith, lt))

place-head : (v : ℕ) (x : ℕ) (xs : List ℕ) → x ≡ v → index_in v (x ∷ xs) ≡ 0
place-head v x xs e = grind (arith, nat_tests)

place-tail : (v : ℕ) (x : ℕ) (xs : List ℕ) → x ≢ v → index_in v (x ∷ xs) ≡ 1 + index_in v xs
place-tail v x xs n = grind (arith, nat_tests)

-- in a list without repeats each element has one place
pub place-at : (v : ℕ) (xs : List ℕ) (k d : ℕ) → HasNoRepeat xs → k < length xs → get_or xs k d ≡ v → index_in v xs ≡ k
place-at v [] k d r lt e = absurd (omega (arith, lt))
place-at v (x ∷ xs) zero d r lt e = place-head v x xs e
place-at v (x ∷ xs) (suc k) d r lt e = grind (arith, place-at v xs k d r.1 (omega (arith, lt)) e, absent-at, place-tail)

-- the port towards a neighbour exists, and leads there
pub port-leads : (count : ℕ) (links : List Link) → IsTree count links → (x v : ℕ) → Joined links x v
    → IsPort count links (port_to links x v) × (far_node links (port_to links x v) ≡ v)
port-leads count links tree x v j =
    let h = joined-neighbour links tree.graph.no_self x v j in
    let none = neighbours-differ links (apart-from_graph links tree.graph.no_second) x in
    let p : index_in v (neighbours links x) ≡ h.0 = place-at v (neighbours links x) h.0 0 none h.1 (h.2 0) in
    let known = joined-known count links x v tree.graph.known j in
    let G : ℕ → ℕ = λ t. get_or (neighbours links x) t 0 in
    let back : index_in v (neighbours links x) + 1 - 1 ≡ h.0 = omega (arith, p) in
    ((known.0, omega arith, omega (arith, p, h.1)), ap G back ∙ h.2 0)

-- a port's node is joined with the node that the port leads to
pub port-joined : (count : ℕ) (links : List Link) (p : EgressPort) → IsPort count links p → Joined links p.node.0 (far_node links p)
port-joined count links p h = neighbour-joined links p.node.0 (p.port.0 - 1) 0 (omega (arith, h.1, h.2))

-- a port is the one towards the node that it leads to
pub port-is : (count : ℕ) (links : List Link) → IsTree count links → (p : EgressPort) → IsPort count links p → p ≡ port_to links p.node.0 (far_node links p)
port-is count links tree p h = grind (arith, neighbours-differ, apart-from_graph, place-at)

-- the peer of the port towards a neighbour is the neighbour's port back
pub peer-of_port : (count : ℕ) (links : List Link) → IsTree count links → (x v : ℕ) → Joined links x v → peer_of links (port_to links x v) ≡ port_to links v x
peer-of_port count links tree x v j =
    ap (λ (t : ℕ). port_to links t x) (port-leads count links tree x v j).1
