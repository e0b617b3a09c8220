use Rattle.std.proofs.Common.{length}
use Rattle.tree_topology.proofs.PortLaws.{ports-of_path, path-answer, behind-from_walk, walk-from_behind}
use Rattle.tree_topology.proofs.laws.the_walk.Goals as goal

pub returns-clause-path : goal.returns-clause-path
returns-clause-path c =
    λ tree x y ports h m n. (ports-of_path (length tree.kinds) tree.links h.tree x y ports m n, path-answer tree.kinds tree.links h x y ports m n)

pub returns-clause-behind : goal.returns-clause-behind
returns-clause-behind c =
    λ tree p y h port n. (
      behind-from_walk (length tree.kinds) tree.links h.tree p y port.0 n,
      walk-from_behind (length tree.kinds) tree.links h.tree p y port.0 n,
    )
