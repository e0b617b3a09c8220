use Rattle.std.proofs.Common.{List, sym, subst}
use Rattle.node_core.specs.Holding.{NodeHolding, states_in}
use Rattle.world_core.specs.{IsWhole, world_with}
use Rattle.world_core.proofs.world.World.part.Goals as goal

pub returns-clause-whole : goal.returns-clause-whole
returns-clause-whole c =
    let inside = c.self.inside in
    subst (λ (nodes : List NodeHolding). IsWhole (world_with inside.tree (states_in nodes) inside.marks)) (sym c.from_vec.ensures)
    (c.what_is_kept_is_whole.ensures.whole (world_with inside.tree (states_in inside.nodes.items) inside.marks) c.self.invariant)
