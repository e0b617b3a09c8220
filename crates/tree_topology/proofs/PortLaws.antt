-- The laws of a tree over its ports.
use Rattle.std.proofs.Common.{◌≡◌, ◌≢◌, ℕ, suc, zero, ◌+◌, ◌-◌, ◌<◌, ◌≤◌, Bool, true, false, not, cond, List, [], ◌∷◌, ◌⊎◌, inl, inr, refl, sym, ap, subst, ◌∙◌, length, get_or, arith}
use Rattle.std.proofs.lemmas.{Bool.false≢true, Bool.false_from_ne_true, Bool.Decides.nat_tests, List.Sums.sum_by-cons, List.FromFn.length-range_with_len, List.FromFn.get_or-range_with_len}
use Rattle.std.specs.{List.count_by, List.range_with_len, Bool.IsTrue}
use Rattle.srp_base.specs.declared.numbers.EgressPort.{EgressPort}
use Rattle.tree_topology.specs.{Link, IsNode, Joined, IsPath, IsTree, IsWalk, port_to, IsPort, far_node, peer_of, egress_ports, IsPortPath, LiesBehind, link_at, ends_of, walk_between, path_between, begins_with, is_behind, count_behind, NodeKind, IsAccepted}
use Rattle.std.specs.Prelude.{◌↔◌}
use Rattle.tree_topology.proofs.{Links.joined-sym, Links.joined-known, Trees.walk-path, Trees.walk-one_path, Trees.walk-self, Trees.walk-first, Trees.walk-begins, Trees.side-far, Trees.side-near, Trees.begins-same, Refusals.link-joined, RouteFacts.sides, PortFacts.port-leads, PortFacts.port-joined, PortFacts.port-is, PortFacts.peer-of_port}

-- the egress ports of the walk without a repeated node are `path_between`
pub ports-of_path : (count : ℕ) (links : List Link) → IsTree count links → (x y : ℕ) (ports : List EgressPort)
    → IsNode count x → IsNode count y → IsPortPath links x y ports → ports ≡ path_between links x y
ports-of_path count links tree x y ports m n h =
    h.2 ∙ ap (λ (w : List ℕ). egress_ports links x w) (walk-one_path count links tree x y h.0 m n h.1)

pub path-of_ports : (count : ℕ) (links : List Link) → IsTree count links → (x y : ℕ) → IsNode count x → IsNode count y
    → IsPortPath links x y (path_between links x y)
path-of_ports count links tree x y m n =
    (walk_between links x y, walk-path count links tree x y m n, refl)

-- a node lies behind a port exactly where its walk begins there
pub behind-from_walk : (count : ℕ) (links : List Link) → IsTree count links → (p : EgressPort) (y : ℕ)
    → IsNode count p.node.0 → IsNode count y → LiesBehind links p y → is_behind links p y ≡ true
behind-from_walk count links tree p y m n h =
    begins-same (far_node links p) h.0 (walk_between links p.node.0 y) (sym (walk-one_path count links tree p.node.0 y (far_node links p ∷ h.0) m n h.1))

pub walk-from_behind : (count : ℕ) (links : List Link) → IsTree count links → (p : EgressPort) (y : ℕ)
    → IsNode count p.node.0 → IsNode count y → is_behind links p y ≡ true → LiesBehind links p y
walk-from_behind count links tree p y m n e =
    let w = walk-begins count links tree p.node.0 y (far_node links p) m n e in
    let F : List ℕ → Type 0 = λ t. IsPath (Joined links) p.node.0 t y in
    (walk_between links (far_node links p) y, subst F w (walk-path count links tree p.node.0 y m n))

pub far-known : (count : ℕ) (links : List Link) → IsTree count links → (p : EgressPort) → IsPort count links p → IsNode count (far_node links p)
far-known count links tree p h =
    (joined-known count links p.node.0 (far_node links p) tree.graph.known (port-joined count links p h)).1

-- the peer is a port of the far node, and its peer is the port
pub peer-port : (count : ℕ) (links : List Link) → IsTree count links → (p : EgressPort) → IsPort count links p
    → IsPort count links (peer_of links p) × (far_node links (peer_of links p) ≡ p.node.0)
peer-port count links tree p h =
    let x = p.node.0 in
    let v = far_node links p in
    let j = joined-sym links x v (port-joined count links p h) in
    port-leads count links tree v x j

pub peer-peer : (count : ℕ) (links : List Link) → IsTree count links → (p : EgressPort) → IsPort count links p → peer_of links (peer_of links p) ≡ p
peer-peer count links tree p h =
    let x = p.node.0 in
    let v = far_node links p in
    let j = joined-sym links x v (port-joined count links p h) in
    peer-of_port count links tree v x j ∙ sym (port-is count links tree p h)

-- ports of one node that lead to one node are one
pub port-same : (count : ℕ) (links : List Link) → IsTree count links → (p q : EgressPort) → IsPort count links p
    → IsPort count links q → p.node.0 ≡ q.node.0 → far_node links p ≡ far_node links q → p ≡ q
port-same count links tree p q h k e f =
    port-is count links tree p h ∙ ap (λ (t : ℕ). port_to links t (far_node links p)) e
    ∙ ap (λ (t : ℕ). port_to links q.node.0 t) f ∙ sym (port-is count links tree q k)

-- the far node lies behind a port
pub behind-far : (count : ℕ) (links : List Link) → IsTree count links → (p : EgressPort) → IsPort count links p → is_behind links p (far_node links p) ≡ true
behind-far count links tree p h =
    let x = p.node.0 in
    let v = far_node links p in
    let m = far-known count links tree p h in
    let e = walk-self count links tree v m in
    let F : List ℕ → Type 0 = λ t. begins_with x t ≡ false in
    side-far count links tree x v v m (port-joined count links p h) (subst F (sym e) refl)

-- the own node doesn't
pub behind-own : (count : ℕ) (links : List Link) → IsTree count links → (p : EgressPort) → IsNode count p.node.0 → is_behind links p p.node.0 ≡ false
behind-own count links tree p m =
    let F : List ℕ → Type 0 = λ t. begins_with (far_node links p) t ≡ false in
    subst F (sym (walk-self count links tree p.node.0 m)) refl

begins-two : (u v : ℕ) (w : List ℕ) → begins_with u w ≡ true → begins_with v w ≡ true → u ≡ v
begins-two u v w h1 h2 = grind (arith, false≢true, nat_tests)

-- what lies behind another port of the far node lies behind the port
pub behind-beyond : (count : ℕ) (links : List Link) → IsTree count links → (p q : EgressPort) (y : ℕ)
    → IsPort count links p → IsPort count links q → IsNode count y → q.node.0 ≡ far_node links p → q ≢ peer_of links p
    → is_behind links q y ≡ true → is_behind links p y ≡ true
behind-beyond count links tree p q y h k n e ne b =
    let x = p.node.0 in
    let v = far_node links p in
    let peer = peer-port count links tree p h in
    let F : ℕ → Type 0 = λ t. begins_with (far_node links q) (walk_between links t y) ≡ true in
    let b' = subst F e b in
    let no : begins_with x (walk_between links v y) ≡ true
    → ⊥ = λ f. ne (port-same count links tree q (peer_of links p) k peer.0 e
    (begins-two (far_node links q) x (walk_between links v y) b' f ∙ sym peer.1)) in
    side-far count links tree x v y n (port-joined count links p h) (false_from_ne_true (begins_with x (walk_between links v y)) no)

walk-end : (count : ℕ) (links : List Link) → IsTree count links → (x y : ℕ) → IsNode count x → IsNode count y → walk_between links x y ≡ [] → x ≡ y
walk-end count links tree x y m n e =
    let F : List ℕ → Type 0 = λ t. IsWalk (Joined links) x t y in
    subst F e (walk-path count links tree x y m n).0

-- every other node lies behind some port of a node
pub first-port-by : (count : ℕ) (links : List Link) → IsTree count links → (x y : ℕ) → IsNode count x → IsNode count y
    → (w : List ℕ) → walk_between links x y ≡ w → (x ≡ y)
    ⊎ ((q : EgressPort) × IsPort count links q × (q.node.0 ≡ x) × (is_behind links q y ≡ true))
first-port-by count links tree x y m n [] e = inl (walk-end count links tree x y m n e)
first-port-by count links tree x y m n (v ∷ w) e =
    let j = (walk-first count links tree x y v w m n e).0 in
    let p = port-leads count links tree x v j in
    let G : ℕ → Type 0 = λ t. begins_with t (walk_between links x y) ≡ true in
    inr (port_to links x v, p.0, refl, subst G (sym p.1) (begins-same v w (walk_between links x y) e))

pub first-port : (count : ℕ) (links : List Link) → IsTree count links → (x y : ℕ) → IsNode count x → IsNode count y
    → (x ≡ y) ⊎ ((q : EgressPort) × IsPort count links q × (q.node.0 ≡ x) × (is_behind links q y ≡ true))
first-port count links tree x y m n = first-port-by count links tree x y m n (walk_between links x y) refl

-- and behind one alone
pub behind-one : (count : ℕ) (links : List Link) → IsTree count links → (p q : EgressPort) (y : ℕ)
    → IsPort count links p → IsPort count links q → p.node.0 ≡ q.node.0 → is_behind links p y ≡ true
    → is_behind links q y ≡ true → p ≡ q
behind-one count links tree p q y h k e b c =
    let G : ℕ → Type 0 = λ t. begins_with (far_node links q) (walk_between links t y) ≡ true in
    port-same count links tree p q h k e (begins-two (far_node links p) (far_node links q) (walk_between links p.node.0 y) b (subst G (sym e) c))

-- what lies behind a port is its far node, or lies behind another port of that
pub behind-splits : (count : ℕ) (links : List Link) → IsTree count links → (p : EgressPort) (y : ℕ)
    → IsPort count links p → IsNode count y → is_behind links p y ≡ true → (y ≡ far_node links p)
    ⊎ ((q : EgressPort) × IsPort count links q × (q.node.0 ≡ far_node links p) × (q ≢ peer_of links p)
    × (is_behind links q y ≡ true))
behind-splits count links tree p y h n b =
    let x = p.node.0 in
    let v = far_node links p in
    let m = far-known count links tree p h in
    elim (first-port count links tree v y m n) [
      | inl e ↦ inl (sym e)
      | inr f ↦
          (let near = side-near count links tree x v y h.0 n b in let peer = peer-port count links tree p h in inr (
            f.0,
            f.1,
            f.2,
            (λ e. (let B : EgressPort → Type 0 = λ t. is_behind links t y
                ≡ true in let back = subst B e f.3 in let G : ℕ
                → Type 0 = λ t. begins_with t (walk_between links v y)
                ≡ true in false≢true (sym near ∙ subst G peer.1 back))),
            f.3,
          ))
    ]

-- a path begins with the port behind which its end lies, and goes on from the far node
pub path-begins : (count : ℕ) (links : List Link) → IsTree count links → (p : EgressPort) (y : ℕ)
    → IsPort count links p → IsNode count y → is_behind links p y ≡ true
    → path_between links p.node.0 y ≡ p ∷ path_between links (far_node links p) y
path-begins count links tree p y h n b =
    let w = walk-begins count links tree p.node.0 y (far_node links p) h.0 n b in
    let rest = egress_ports links (far_node links p) (walk_between links (far_node links p) y) in
    ap (λ (t : List ℕ). egress_ports links p.node.0 t) w ∙ ap (λ (t : EgressPort). t ∷ rest) (sym (port-is count links tree p h))

pub path-empty : (count : ℕ) (links : List Link) → IsTree count links → (x : ℕ) → IsNode count x → path_between links x x ≡ []
path-empty count links tree x m = ap (λ (t : List ℕ). egress_ports links x t) (walk-self count links tree x m)

count-cons : (f : ℕ → Bool) (x : ℕ) (xs : List ℕ) → count_by f (x ∷ xs) ≡ cond (f x) 1 0 + count_by f xs
count-cons f x xs = sum_by-cons (λ (t : ℕ). cond (f t) 1 0) x xs

weight-within : (b c : Bool) → (b ≡ true → c ≡ true) → cond b 1 0 ≤ cond c 1 0
weight-within b c h1 = grind (arith, false≢true)

count-within : (f g : ℕ → Bool) (xs : List ℕ) → ((k : ℕ) → k < length xs → f (get_or xs k 0) ≡ true → g (get_or xs k 0) ≡ true) → count_by f xs ≤ count_by g xs
count-within f g [] h = omega arith
count-within f g (x ∷ xs) h =
    let rest = count-within f g xs (λ k lt e. h (suc k) (omega (arith, lt)) e) in
    let here = weight-within (f x) (g x) (h 0 (omega arith)) in
    omega (arith, count-cons f x xs, count-cons g x xs, rest, here)

weight-less : (b c : Bool) → b ≡ false → c ≡ true → cond b 1 0 < cond c 1 0
weight-less b c h1 h2 = grind (arith, false≢true)

-- a test that passes fewer numbers of a list counts fewer
count-less : (f g : ℕ → Bool) (xs : List ℕ) (n : ℕ)
    → ((k : ℕ) → k < length xs → f (get_or xs k 0) ≡ true → g (get_or xs k 0) ≡ true) → n < length xs
    → f (get_or xs n 0) ≡ false → g (get_or xs n 0) ≡ true → count_by f xs < count_by g xs
count-less f g [] n h lt e q = absurd (omega (arith, lt))
count-less f g (x ∷ xs) zero h lt e q =
    let rest = count-within f g xs (λ k less t. h (suc k) (omega (arith, less)) t) in
    let here = weight-less (f x) (g x) e q in
    omega (arith, count-cons f x xs, count-cons g x xs, rest, here)
count-less f g (x ∷ xs) (suc n) h lt e q =
    let rest = count-less f g xs n (λ k less t. h (suc k) (omega (arith, less)) t) (omega (arith, lt)) e q in
    let here = weight-within (f x) (g x) (h 0 (omega arith)) in
    omega (arith, count-cons f x xs, count-cons g x xs, rest, here)

-- fewer nodes lie behind the far node's other ports
pub behind-falls : (count : ℕ) (links : List Link) → IsTree count links → (p q : EgressPort) → IsPort count links p
    → IsPort count links q → q.node.0 ≡ far_node links p → q ≢ peer_of links p
    → count_behind count links q < count_behind count links p
behind-falls count links tree p q h k e ne =
    let v = far_node links p in
    let m = far-known count links tree p h in
    let xs = range_with_len 1 count in
    let f : ℕ → Bool = λ y. is_behind links q y in
    let g : ℕ → Bool = λ y. is_behind links p y in
    let size = length-range_with_len 1 count in
    let read = λ (i : ℕ) (lt : i < count). get_or-range_with_len 1 count i 0 lt in
    let node : (i : ℕ) → i < length xs → IsNode count (get_or xs i 0) = λ i lt.
    (let r = read i (omega (arith, lt, size)) in (omega (arith, r), omega (arith, r, lt, size))) in
    let at_v : get_or xs (v - 1) 0 ≡ v = read (v - 1) (omega (arith, m.0, m.1)) ∙ omega (arith, m.0) in
    let F : ℕ → Type 0 = λ t. f t ≡ false in
    let G : ℕ → Type 0 = λ t. g t ≡ true in
    let own : f v ≡ false = (let O : ℕ → Type 0 = λ t. f t ≡ false in subst O e (behind-own count links tree q k.0)) in
    count-less f g xs (v - 1) (λ i lt b. behind-beyond count links tree p q (get_or xs i 0) h k (node i lt) e ne b)
    (omega (arith, size, m.0, m.1)) (subst F (sym at_v) own)
    (subst G (sym at_v) (behind-far count links tree p h))

-- the exact answer of a path, in the words of the graph
pub path-answer : (kinds : List NodeKind) (links : List Link) → IsAccepted kinds links
    → (x y : ℕ) (ports : List EgressPort) → IsNode (length kinds) x → IsNode (length kinds) y
    → ports ≡ path_between links x y → IsPortPath links x y ports
path-answer kinds links h x y ports m n e =
    let F : List EgressPort → Type 0 = λ t. IsPortPath links x y t in
    subst F (sym e) (path-of_ports (length kinds) links h.tree x y m n)

-- the exact answer of what lies behind a port, in the words of the graph
pub behind-answer : (kinds : List NodeKind) (links : List Link) → IsAccepted kinds links
    → (p : EgressPort) (y : ℕ) (b : Bool) → IsPort (length kinds) links p → IsNode (length kinds) y
    → b ≡ is_behind links p y → IsTrue b ↔ LiesBehind links p y
behind-answer kinds links h p y b port n e =
    ((λ t. walk-from_behind (length kinds) links h.tree p y port.0 n (sym e ∙ t)), (λ l. e ∙ behind-from_walk (length kinds) links h.tree p y port.0 n l))

-- a node lies on one side of a port's link
pub behind-sides : (count : ℕ) (links : List Link) → IsTree count links → (p : EgressPort) (y : ℕ)
    → IsPort count links p → IsNode count y → is_behind links p y ≡ not (is_behind links (peer_of links p) y)
behind-sides count links tree p y h n =
    let x = p.node.0 in
    let v = far_node links p in
    let peer = peer-port count links tree p h in
    sides count links tree x v y h.0 n (port-joined count links p h) ∙ ap (λ (t : ℕ). not (begins_with t (walk_between links v y))) (sym peer.1)

-- the ends of a link are two ports, each the other's peer
pub ends-peers : (count : ℕ) (links : List Link) → IsTree count links → (n : ℕ) → 1 ≤ n → n ≤ length links
    → IsPort count links (ends_of links n).0 × IsPort count links (ends_of links n).1
    × (peer_of links (ends_of links n).0 ≡ (ends_of links n).1)
    × (peer_of links (ends_of links n).1 ≡ (ends_of links n).0)
ends-peers count links tree n low high =
    let l = link_at links n in
    let none : Link = record { a = record { 0 = 0 }; b = record { 0 = 0 } } in
    let j : Joined links l.a.0 l.b.0 = link-joined links (n - 1) none (omega (arith, low, high)) in
    let k = joined-sym links l.a.0 l.b.0 j in (
      (port-leads count links tree l.a.0 l.b.0 j).0,
      (port-leads count links tree l.b.0 l.a.0 k).0,
      peer-of_port count links tree l.a.0 l.b.0 j,
      peer-of_port count links tree l.b.0 l.a.0 k,
    )
