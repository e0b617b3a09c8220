-- A graph: nodes, numbered from 1, and undirected links. Its walks, and what makes it a tree.
-- The tree is the active topology of a bridged network (IEEE Std 802.1Q-2018, 7.3, 10.3.1).
use Rattle.std.specs.Prelude.{◌≡◌, ◌≢◌, ℕ, ◌≤◌, ◌<◌, ◌⊎◌, List, [], ◌∷◌, length, All}
use Rattle.std.proofs.Common.{take, get_or}
use Rattle.tree_topology.specs.declared.graph.Link.{Link}

-- the nodes of a graph of so many
abbrev pub IsNode : ℕ → ℕ → Type 0
IsNode count x = (1 ≤ x) × (x ≤ count)

-- the link's ends are these two nodes, in one order or the other
abbrev pub Joins : Link → ℕ → ℕ → Type 0
Joins l x y = ((l.a.0 ≡ x) × (l.b.0 ≡ y)) ⊎ ((l.a.0 ≡ y) × (l.b.0 ≡ x))

-- some link joins these two nodes
abbrev pub Joined : List Link → ℕ → ℕ → Type 0
Joined [] x y = ⊥
Joined (l ∷ links) x y = Joins l x y ⊎ Joined links x y

-- a walk: where one starts, the nodes that one comes to, each joined to the one before, and where
-- one ends
abbrev pub IsWalk : (ℕ → ℕ → Type 0) → ℕ → List ℕ → ℕ → Type 0
IsWalk Adjacent x [] y = x ≡ y
IsWalk Adjacent x (v ∷ walk) y = Adjacent x v × IsWalk Adjacent v walk y

-- the node isn't in the list
abbrev pub IsAbsent : ℕ → List ℕ → Type 0
IsAbsent x [] = Unit {0}
IsAbsent x (y ∷ ys) = (x ≢ y) × IsAbsent x ys

-- no node stands twice
abbrev pub HasNoRepeat : List ℕ → Type 0
HasNoRepeat [] = Unit {0}
HasNoRepeat (x ∷ xs) = IsAbsent x xs × HasNoRepeat xs

-- a walk without a repeated node
abbrev pub IsPath : (ℕ → ℕ → Type 0) → ℕ → List ℕ → ℕ → Type 0
IsPath Adjacent x walk y = IsWalk Adjacent x walk y × HasNoRepeat (x ∷ walk)

-- some walk leads from the one node to the other
abbrev pub Connected : List Link → ℕ → ℕ → Type 0
Connected links x y = (walk : List ℕ) × IsWalk (Joined links) x walk y

-- there is exactly one walk without a repeated node
abbrev pub HasOnePath : List Link → ℕ → ℕ → Type 0
HasOnePath links x y =
    (walk : List ℕ) × IsPath (Joined links) x walk y × ((other : List ℕ) → IsPath (Joined links) x other y → other ≡ walk)

-- both ends of each link are nodes
abbrev pub HasKnownEnds : ℕ → List Link → Type 0
HasKnownEnds count links = All (λ l. IsNode count l.a.0 × IsNode count l.b.0) links

-- no link joins a node with itself
abbrev pub HasNoSelfLink : List Link → Type 0
HasNoSelfLink links = All (λ l. l.a.0 ≢ l.b.0) links

-- no two links join the same nodes
abbrev pub HasNoSecondLink : List Link → Type 0
HasNoSecondLink links =
    (i : ℕ) (d : Link) → i < length links → ¬ Joined (take i links) (get_or links i d).a.0 (get_or links i d).b.0

-- the links are a set of pairs of different nodes
pub record IsGraph (count : ℕ) (links : List Link) : Type 0 where
  pub known : HasKnownEnds count links
  pub no_self : HasNoSelfLink links
  pub no_second : HasNoSecondLink links

-- a graph with exactly one walk without a repeated node between any two nodes
pub record IsTree (count : ℕ) (links : List Link) : Type 0 where
  pub graph : IsGraph count links
  pub one_path : (x y : ℕ) → IsNode count x → IsNode count y → HasOnePath links x y
