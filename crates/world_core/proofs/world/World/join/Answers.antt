use Rattle.std.proofs.Common.{List, sym, subst}
use Rattle.std.specs.List.{AllByRecursion}
use Rattle.node_core.specs.{Holding.NodeHolding, Holding.states_in, Proper.IsProperNode}
use Rattle.world_core.specs.{IsKeptWorld, world_with}
use Rattle.world_core.proofs.world.World.join.Goals as goal

pub invariant_of-result : goal.invariant_of-result
invariant_of-result c =
    let rest = c.args.rest in
    subst (λ (nodes : List NodeHolding). IsKeptWorld (world_with rest.tree (states_in nodes) rest.marks)) (sym c.into_vec.ensures)
    (c.what_is_kept_is_whole.ensures.kept (world_with rest.tree (states_in c.args.nodes) rest.marks) c.requires
    (subst (λ (nodes : List NodeHolding). AllByRecursion IsProperNode (states_in nodes)) c.as_slice.ensures c.each_is_proper.ensures))
