use Rattle.tree_topology.proofs.WalkBetween.{connected-from_component, component-walk}
use Rattle.tree_topology.proofs.laws.components.Goals as goal

pub returns : goal.returns
returns c =
    λ links x y. (connected-from_component links x y, (λ walk. component-walk links x walk.0 y walk.1))
