-- Laws that join ports over a tree: the ends of links, the last step of a path, the order in which
-- frames go, and what is propagated from node to node.
use Rattle.std.proofs.Common.{◌≡◌, ◌≢◌, ℕ, suc, zero, ◌+◌, ◌-◌, ◌<◌, ◌≤◌, Bool, false, List, [], ◌∷◌, ◌++◌, ◌⊎◌, inl, inr, sym, ap, subst, ◌∙◌, length, get_or, arith}
use Rattle.std.specs.Bool.{IsTrue}
use Rattle.std.specs.Prelude.{◌↔◌}
use Rattle.srp_base.specs.declared.numbers.EgressPort.{EgressPort}
use Rattle.tree_topology.specs.{Link, IsNode, Joins, IsTree, port_to, IsPort, far_node, peer_of, egress_ports, link_at, ends_of, HasPort, IsSound, walk_between, path_between, is_behind, count_behind, IsPropagated, HasBehind, HasPortLaws}
use Rattle.tree_topology.specs.Topology.{Topology}
use Rattle.tree_topology.proofs.{Links.joined-at, Links.joined-sym, Trees.walk-path, Trees.walk-begins, Trees.walk-last, Trees.side-far, RouteFacts.egress-push, PortFacts.port-leads, PortFacts.port-joined, PortFacts.port-is, PortLaws.far-known, PortLaws.peer-port, PortLaws.peer-peer, PortLaws.ends-peers, PortLaws.behind-far, PortLaws.behind-own, PortLaws.behind-beyond, PortLaws.behind-one, PortLaws.behind-sides, PortLaws.behind-splits, PortLaws.behind-falls, PortLaws.first-port, PortLaws.path-begins, PortLaws.path-empty}
use Rattle.std.proofs.lemmas.Bool.{false≢true, false_from_ne_true}

-- a port is an end of the link that joins its node with the far one
port-end : (count : ℕ) (links : List Link) → IsTree count links → (p : EgressPort) → IsPort count links p
    → (n : ℕ) × ((1 ≤ n) × (n ≤ length links)) × ((p ≡ (ends_of links n).0) ⊎ (p ≡ (ends_of links n).1))
port-end count links tree p h =
    let v = far_node links p in
    let found = joined-at links p.node.0 v (port-joined count links p h) in
    let none : Link = record { a = record { 0 = 0 }; b = record { 0 = 0 } } in
    let J : ℕ → Type 0 = λ t. Joins (get_or links t none) p.node.0 v in
    let back : found.0 ≡ found.0 + 1 - 1 = omega arith in
    let is = port-is count links tree p h in
    let l = link_at links (found.0 + 1) in
    let at : Joins l p.node.0 v = subst J back (found.2 none) in
    let to = λ (x y : ℕ). port_to links x y in (
      found.0 + 1,
      (omega arith, omega (arith, found.1)),
      elim at [
        | inl e ↦ inl (is ∙ ap (λ (t : ℕ). to t v) (sym e.0) ∙ ap (λ (t : ℕ). to l.a.0 t) (sym e.1))
        | inr e ↦ inr (is ∙ ap (λ (t : ℕ). to t v) (sym e.1) ∙ ap (λ (t : ℕ). to l.b.0 t) (sym e.0))
      ],
    )

-- a path to the far node of a port behind which its start doesn't lie ends with that port
path-last : (count : ℕ) (links : List Link) → IsTree count links → (p : EgressPort) (x : ℕ) → IsPort count links p → IsNode count x
    → is_behind links p x ≡ false → path_between links x (far_node links p) ≡ path_between links x p.node.0 ++ p ∷ []
path-last count links tree p x h m e =
    let u = p.node.0 in
    let y = far_node links p in
    let n = far-known count links tree p h in
    let back = side-far count links tree y u x m (joined-sym links u y (port-joined count links p h)) e in
    let last = walk-last count links tree x y u m n h.0 (walk-begins count links tree y x u n m back) in
    let to_u = walk_between links x u in
    ap (λ (w : List ℕ). egress_ports links x w) last
    ∙ egress-push links x to_u u y (walk-path count links tree x u m h.0).0
    ∙ ap (λ (t : EgressPort). path_between links x u ++ t ∷ []) (sym (port-is count links tree p h))

-- more nodes lie behind the peer of a port than behind the peer of one from which frames come to it
back-falls : (count : ℕ) (links : List Link) → IsTree count links → (p q : EgressPort) → IsPort count links p → IsPort count links q
    → q.node.0 ≡ far_node links p → q ≢ peer_of links p
    → count_behind count links (peer_of links p) < count_behind count links (peer_of links q)
back-falls count links tree p q h k e ne =
    let to = peer-port count links tree q k in
    behind-falls count links tree (peer_of links q) (peer_of links p) to.0 (peer-port count links tree p h).0 (sym e
    ∙ sym to.1) (λ s. ne (sym (s ∙ peer-peer count links tree q k)))

-- ---- what is propagated

begun-behind : (tree : Topology) (test : EgressPort → Bool) (own : ℕ → Bool) → IsTree (length tree.kinds) tree.links → IsPropagated tree test own
    → (n : ℕ) → ((q : EgressPort) → HasPort tree q → count_behind (length tree.kinds) tree.links q < n → IsTrue (test q) ↔ HasBehind tree own q)
    → (p : EgressPort) → HasPort tree p → count_behind (length tree.kinds) tree.links p < n + 1 → IsTrue (test p) → HasBehind tree own p
begun-behind tree test own t local n known p h lt is =
    let links = tree.links in
    let count = length tree.kinds in
    elim ((local p h).0 is) [
      | inl here ↦ (far_node links p, far-known count links t p h, behind-far count links t p h, here)
      | inr q ↦ (
          let less = behind-falls count links t p q.0 h q.1 q.2 q.3 in
          let y = (known q.0 q.1 (omega (arith, less, lt))).0 q.4 in
          (y.0, y.1, behind-beyond count links t p q.0 y.0 h q.1 y.1 q.2 q.3 y.2, y.3))
    ]

arrives : (tree : Topology) (test : EgressPort → Bool) (own : ℕ → Bool) → IsTree (length tree.kinds) tree.links → IsPropagated tree test own
    → (n : ℕ) → ((q : EgressPort) → HasPort tree q → count_behind (length tree.kinds) tree.links q < n → IsTrue (test q) ↔ HasBehind tree own q)
    → (p : EgressPort) → HasPort tree p → count_behind (length tree.kinds) tree.links p < n + 1 → HasBehind tree own p → IsTrue (test p)
arrives tree test own t local n known p h lt y =
    let links = tree.links in
    let count = length tree.kinds in
    let Own : ℕ → Type 0 = λ x. IsTrue (own x) in
    elim (behind-splits count links t p y.0 h y.1 y.2) [
      | inl e ↦ (local p h).1 (inl (subst Own e y.3))
      | inr q ↦ (
          let less = behind-falls count links t p q.0 h q.1 q.2 q.3 in
          (local p h).1 (inr (q.0, q.1, q.2, q.3, (known q.0 q.1 (omega (arith, less, lt))).1 (y.0, y.1, q.4, y.3))))
    ]

propagated-upto : (tree : Topology) (test : EgressPort → Bool) (own : ℕ → Bool) → IsTree (length tree.kinds) tree.links → IsPropagated tree test own
    → (n : ℕ) (p : EgressPort) → HasPort tree p → count_behind (length tree.kinds) tree.links p < n → IsTrue (test p) ↔ HasBehind tree own p
propagated-upto tree test own t local zero p h lt = absurd (omega (arith, lt))
propagated-upto tree test own t local (suc n) p h lt =
    let known = propagated-upto tree test own t local n in
    let less : count_behind (length tree.kinds) tree.links p < n + 1 = omega (arith, lt) in
    (begun-behind tree test own t local n known p h less, arrives tree test own t local n known p h less)

propagated : (tree : Topology) (test : EgressPort → Bool) (own : ℕ → Bool) (p : EgressPort) → IsTree (length tree.kinds) tree.links
    → IsPropagated tree test own → HasPort tree p → IsTrue (test p) ↔ HasBehind tree own p
propagated tree test own p t local h =
    propagated-upto tree test own t local (count_behind (length tree.kinds) tree.links p + 1) p h (omega arith)

-- ---- all of them

pub port-laws : (tree : Topology) → IsSound tree → HasPortLaws tree
port-laws tree sound =
    let count = length tree.kinds in
    let links = tree.links in
    let t = sound.tree in
    record {
      joined_port = (λ x v j. (port-leads count links t x v j).0);
      joined_far = (λ x v j. (port-leads count links t x v j).1);
      port_joined = (λ p h. port-joined count links p h);
      port_is = (λ p h. port-is count links t p h);
      peer_port = (λ p h. (peer-port count links t p h).0);
      peer_back = (λ p h. (peer-port count links t p h).1);
      peer_twice = (λ p h. peer-peer count links t p h);
      end_a = (λ n h. (ends-peers count links t n h.0 h.1).0);
      end_b = (λ n h. (ends-peers count links t n h.0 h.1).1);
      end_peers = (λ n h. (ends-peers count links t n h.0 h.1).2);
      port_end = (λ p h. port-end count links t p h);
      some_port = (λ x y m n. first-port count links t x y m n);
      one_port = (λ p q y h k e b d. behind-one count links t p q y h k e b d);
      own = (λ p h b. false≢true (sym (behind-own count links t p h.0) ∙ b));
      sides = (λ p y h n. behind-sides count links t p y h n);
      far = (λ p h. behind-far count links t p h);
      beyond = (λ p q y h k n e ne b. behind-beyond count links t p q y h k n e ne b);
      no_more = (λ p y h n b. behind-splits count links t p y h n b);
      path_none = (λ x m. path-empty count links t x m);
      path_first = (λ p y h n b. path-begins count links t p y h n b);
      path_last = (λ p x h m no. path-last count links t p x h m (false_from_ne_true (is_behind links p x) no));
      ahead_falls = (λ p q h k e ne. behind-falls count links t p q h k e ne);
      back_falls = (λ p q h k e ne. back-falls count links t p q h k e ne);
      propagation = (λ test own p local h. propagated tree test own p t local h);
    }
