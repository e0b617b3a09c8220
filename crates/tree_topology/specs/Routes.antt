-- A tree with the parent and the depth of each node.
use Rattle.std.specs.Prelude.{◌≡◌, ◌≢◌, ℕ, ◌+◌, ◌<◌, List, ◌++◌, length, reverse}
use Rattle.std.proofs.Common.{get_or}
use Rattle.srp_base.specs.declared.numbers.EgressPort.{EgressPort}
use Rattle.tree_topology.specs.declared.{graph.Link.Link, graph.NodeKind.NodeKind}
use Rattle.tree_topology.specs.{Graph.IsNode, Graph.Joined, Refusal.IsAccepted, Walk.path_between}

-- the kinds and links of a tree, with the parent and the depth of each node at the place of its
-- number
pub record Routed : Type 0 where
  pub kinds : List NodeKind
  pub links : List Link
  pub parents : List ℕ
  pub depths : List ℕ

-- each node but the first is joined with its parent, which is less deep
pub record IsRooted (count : ℕ) (links : List Link) (parents depths : List ℕ) : Type 0 where
  pub parents_size : length parents ≡ count + 1
  pub depths_size : length depths ≡ count + 1
  pub top : get_or depths 1 0 ≡ 0
  pub joined : (x : ℕ) → IsNode count x → x ≢ 1 → Joined links x (get_or parents x 0)
  pub falls : (x : ℕ) → IsNode count x → x ≢ 1 → get_or depths (get_or parents x 0) 0 < get_or depths x 0

-- an accepted tree with its parents
pub record IsRouted (kinds : List NodeKind) (links : List Link) (parents depths : List ℕ) : Type 0 where
  pub accepted : IsAccepted kinds links
  pub rooted : IsRooted (length kinds) links parents depths

-- the egress ports of a path in the making: up from where it began, on from here to there, and down
-- to where it ends
abbrev pub ports_made : List Link → ℕ → ℕ → List EgressPort → List EgressPort → List EgressPort
ports_made links here there ups downs = ups ++ (path_between links here there ++ reverse downs)
