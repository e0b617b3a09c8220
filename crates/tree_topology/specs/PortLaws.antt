-- What every accepted tree keeps of its ports.
--
--   behind p:   p.node --p--> far node --q1--> behind q1
--                                      --q2--> behind q2
use Rattle.std.specs.Prelude.{◌≡◌, ◌≢◌, ◌⊎◌, ◌↔◌, ◌<◌, ℕ, Bool, [], ◌∷◌, ◌++◌, IsTrue, not, length}
use Rattle.srp_base.specs.declared.numbers.EgressPort.{EgressPort}
use Rattle.tree_topology.specs.{Graph.Joined, Ports.port_to, Ports.far_node, Ports.peer_of, Ports.ends_of, Topology.Topology, Topology.HasNode, Topology.HasLink, Topology.HasPort, Walk.path_between, Walk.is_behind, Walk.count_behind}

-- the port is the end `a` of the link of this number, or its end `b`
abbrev pub IsEndOf : Topology → EgressPort → ℕ → Type 0
IsEndOf tree p n = (p ≡ (ends_of tree.links n).0) ⊎ (p ≡ (ends_of tree.links n).1)

-- another port of a port's far node than the one that leads back passes the test
abbrev pub HasBeyond : Topology → (EgressPort → Bool) → EgressPort → Type 0
HasBeyond tree test p =
    (q : EgressPort) × HasPort tree q × (q.node.0 ≡ far_node tree.links p) × (q ≢ peer_of tree.links p) × IsTrue (test q)

-- the local rule: a port passes the test exactly where its far node passes the test on nodes, or
-- another port of the far node passes the test, as what is registered at ports is propagated from
-- node to node (IEEE Std 802.1Q-2018, 10.3.1)
abbrev pub IsPropagated : Topology → (EgressPort → Bool) → (ℕ → Bool) → Type 0
IsPropagated tree test own =
    (p : EgressPort) → HasPort tree p → (IsTrue (test p) ↔ (IsTrue (own (far_node tree.links p)) ⊎ HasBeyond tree test p))

-- some node behind the port passes the test on nodes
abbrev pub HasBehind : Topology → (ℕ → Bool) → EgressPort → Type 0
HasBehind tree own p = (y : ℕ) × HasNode tree y × IsTrue (is_behind tree.links p y) × IsTrue (own y)

-- each law of a tree and its ports
pub record HasPortLaws (tree : Topology) : Type 0 where
  -- the port in the words of joined nodes exists and leads there, and each port is one
  pub joined_port : (x v : ℕ) → Joined tree.links x v → HasPort tree (port_to tree.links x v)
  pub joined_far : (x v : ℕ) → Joined tree.links x v → far_node tree.links (port_to tree.links x v) ≡ v
  pub port_joined : (p : EgressPort) → HasPort tree p → Joined tree.links p.node.0 (far_node tree.links p)
  pub port_is : (p : EgressPort) → HasPort tree p → p ≡ port_to tree.links p.node.0 (far_node tree.links p)
  -- the peer of a port is a port of the far node, which leads back, and whose peer is the port
  pub peer_port : (p : EgressPort) → HasPort tree p → HasPort tree (peer_of tree.links p)
  pub peer_back : (p : EgressPort) → HasPort tree p → far_node tree.links (peer_of tree.links p) ≡ p.node.0
  pub peer_twice : (p : EgressPort) → HasPort tree p → peer_of tree.links (peer_of tree.links p) ≡ p
  -- the two ends of a link are ports, each other's peers, and each port is an end of a link
  pub end_a : (n : ℕ) → HasLink tree n → HasPort tree (ends_of tree.links n).0
  pub end_b : (n : ℕ) → HasLink tree n → HasPort tree (ends_of tree.links n).1
  pub end_peers : (n : ℕ) → HasLink tree n → peer_of tree.links (ends_of tree.links n).0 ≡ (ends_of tree.links n).1
  pub port_end : (p : EgressPort) → HasPort tree p → (n : ℕ) × HasLink tree n × IsEndOf tree p n
  -- every node but the own lies behind exactly one port of a node, and the own behind none
  pub some_port : (x y : ℕ) → HasNode tree x → HasNode tree y
      → (x ≡ y) ⊎ ((p : EgressPort) × HasPort tree p × (p.node.0 ≡ x) × IsTrue (is_behind tree.links p y))
  pub one_port : (p q : EgressPort) (y : ℕ) → HasPort tree p → HasPort tree q → p.node.0 ≡ q.node.0
      → IsTrue (is_behind tree.links p y) → IsTrue (is_behind tree.links q y) → p ≡ q
  pub own : (p : EgressPort) → HasPort tree p → ¬ IsTrue (is_behind tree.links p p.node.0)
  -- a node lies on one side of a port's link
  pub sides : (p : EgressPort) (y : ℕ) → HasPort tree p → HasNode tree y
      → is_behind tree.links p y ≡ not (is_behind tree.links (peer_of tree.links p) y)
  -- what lies behind a port is its far node, and what lies behind the far node's ports but the peer
  pub far : (p : EgressPort) → HasPort tree p → IsTrue (is_behind tree.links p (far_node tree.links p))
  pub beyond : (p q : EgressPort) (y : ℕ) → HasPort tree p → HasPort tree q → HasNode tree y
      → q.node.0 ≡ far_node tree.links p → q ≢ peer_of tree.links p
      → IsTrue (is_behind tree.links q y) → IsTrue (is_behind tree.links p y)
  pub no_more : (p : EgressPort) (y : ℕ) → HasPort tree p → HasNode tree y → IsTrue (is_behind tree.links p y)
      → (y ≡ far_node tree.links p) ⊎ HasBeyond tree (λ q. is_behind tree.links q y) p
  -- a path begins with the port behind which its end lies and goes on from the far node, and ends
  -- with a port that leads to its end and behind which its start doesn't lie
  pub path_none : (x : ℕ) → HasNode tree x → path_between tree.links x x ≡ []
  pub path_first : (p : EgressPort) (y : ℕ) → HasPort tree p → HasNode tree y → IsTrue (is_behind tree.links p y)
      → path_between tree.links p.node.0 y ≡ p ∷ path_between tree.links (far_node tree.links p) y
  pub path_last : (p : EgressPort) (x : ℕ) → HasPort tree p → HasNode tree x → ¬ IsTrue (is_behind tree.links p x)
      → path_between tree.links x (far_node tree.links p) ≡ path_between tree.links x p.node.0 ++ p ∷ []
  -- along a way, fewer and fewer nodes lie ahead, and more and more behind: measures for inductions
  -- against and along the way that frames go
  pub ahead_falls : (p q : EgressPort) → HasPort tree p → HasPort tree q
      → q.node.0 ≡ far_node tree.links p → q ≢ peer_of tree.links p
      → count_behind (length tree.kinds) tree.links q < count_behind (length tree.kinds) tree.links p
  pub back_falls : (p q : EgressPort) → HasPort tree p → HasPort tree q
      → q.node.0 ≡ far_node tree.links p → q ≢ peer_of tree.links p
      → count_behind (length tree.kinds) tree.links (peer_of tree.links p) < count_behind (length tree.kinds) tree.links (peer_of tree.links q)
  -- what is propagated from node to node holds at a port exactly where some node behind it began it
  pub propagation : (test : EgressPort → Bool) (own : ℕ → Bool) (p : EgressPort) → IsPropagated tree test own → HasPort tree p
      → (IsTrue (test p) ↔ HasBehind tree own p)
