-- What the tables of a tree hold.
use Rattle.std.specs.Prelude.{◌≡◌, ◌≢◌, ℕ, ◌+◌, ◌<◌, ◌≤◌, nat_lt, max, if◌then◌else◌, List, [], ◌∷◌, ◌++◌, length}
use Rattle.std.proofs.Common.{get_or, set}
use Rattle.tree_topology.specs.declared.graph.Link.{Link}
use Rattle.std.specs.List.{count_by}
use Rattle.tree_topology.specs.{Graph.IsNode, Graph.Joined, Graph.Connected, Ports.neighbours}

-- row x has the neighbours of node x; row 0 has none
pub record HasRows (count : ℕ) (links : List Link) (rows : List (List ℕ)) : Type 0 where
  pub size : length rows ≡ count + 1
  pub rows_are : (x : ℕ) (d : List ℕ) → x ≤ count → get_or rows x d ≡ neighbours links x

-- the rows with one neighbour more at the end of a row
abbrev pub with_neighbour : List (List ℕ) → ℕ → ℕ → List (List ℕ)
with_neighbour rows x v = set rows x (get_or rows x [] ++ v ∷ [])

-- the rows with one link more
abbrev pub with_link : List (List ℕ) → Link → List (List ℕ)
with_link rows l = with_neighbour (with_neighbour rows l.a.0 l.b.0) l.b.0 l.a.0

-- each place but a leader's leads to one of higher rank
pub record HasLeaders (leaders ranks : List ℕ) : Type 0 where
  pub size : length ranks ≡ length leaders
  pub within : (x : ℕ) → x < length leaders → get_or leaders x 0 < length leaders
  pub small : (x : ℕ) → x < length leaders → get_or ranks x 0 < 65536
  pub rises : (x : ℕ) → x < length leaders → get_or leaders x 0 ≢ x → get_or ranks x 0 < get_or ranks (get_or leaders x 0) 0

-- each node is connected with the one that it leads to
abbrev pub LeadsAlong : List Link → List ℕ → Type 0
LeadsAlong links leaders = (x : ℕ) → x < length leaders → Connected links x (get_or leaders x 0)

-- the leaders once the one of lower rank follows the other
abbrev pub joined_leaders : List ℕ → List ℕ → ℕ → ℕ → List ℕ
joined_leaders leaders ranks a b =
    if nat_lt (get_or ranks a 0) (get_or ranks b 0) then set leaders a b else set leaders b a

-- the ranks once the one of lower rank follows the other: the other's rises where they were alike
abbrev pub joined_ranks : List ℕ → ℕ → ℕ → List ℕ
joined_ranks ranks a b =
    if nat_lt (get_or ranks a 0) (get_or ranks b 0) then ranks else set ranks a (max (get_or ranks a 0) (get_or ranks b 0 + 1))

-- the nodes that a search from node 1 has reached, in order; each but the first with the node that
-- it was reached from as its parent, and deeper than that
pub record IsSpan (count : ℕ) (links : List Link) (parents depths order : List ℕ) : Type 0 where
  pub parents_size : length parents ≡ count + 1
  pub depths_size : length depths ≡ count + 1
  pub none : get_or parents 0 0 ≡ 0
  pub first : 1 ≤ count → get_or parents 1 0 ≢ 0
  pub top : get_or depths 1 0 ≡ 0
  pub listed : (k : ℕ) → k < length order → IsNode count (get_or order k 0) × (get_or parents (get_or order k 0) 0 ≢ 0)
  pub found : (x : ℕ) → IsNode count x → get_or parents x 0 ≢ 0 → (k : ℕ) × (k < length order) × (get_or order k 0 ≡ x)
  pub connected : (x : ℕ) → IsNode count x → get_or parents x 0 ≢ 0 → Connected links 1 x
  pub joined : (x : ℕ) → IsNode count x → get_or parents x 0 ≢ 0 → x ≢ 1 → Joined links x (get_or parents x 0)
  pub above : (x : ℕ) → IsNode count x → get_or parents x 0 ≢ 0 → x ≢ 1 → get_or parents (get_or parents x 0) 0 ≢ 0
  pub falls : (x : ℕ) → IsNode count x → get_or parents x 0 ≢ 0 → x ≢ 1 → get_or depths (get_or parents x 0) 0 < get_or depths x 0
  pub shallow : (x : ℕ) → x ≤ count → get_or depths x 0 ≤ length order
  pub counted : count_by (λ p. nat_lt 0 p) parents ≡ length order

-- a search reaches more, and keeps what it had
pub record Grows (parents order more longer : List ℕ) : Type 0 where
  pub reached : (x : ℕ) → get_or parents x 0 ≢ 0 → get_or more x 0 ≢ 0
  pub at_least : length order ≤ length longer
  pub same : (k : ℕ) → k < length order → get_or longer k 0 ≡ get_or order k 0

-- whom a reached node is joined with is reached
abbrev pub IsClosed : ℕ → List Link → List ℕ → Type 0
IsClosed count links parents =
    (x v : ℕ) → IsNode count x → get_or parents x 0 ≢ 0 → Joined links x v → get_or parents v 0 ≢ 0

-- each node is reached
abbrev pub HasReachedAll : ℕ → List ℕ → Type 0
HasReachedAll count parents = (x : ℕ) → IsNode count x → get_or parents x 0 ≢ 0
