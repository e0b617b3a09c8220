use Rattle.std.proofs.Common.{List, sym, ap, ◌∙◌}
use Rattle.std.specs.List.{list_all}
use Rattle.node_core.specs.{Holding.NodeHolding, State.is_still_node}
use Rattle.world_core.specs.{is_quiet}
use Rattle.world_core.proofs.InStep.{still_states}
use Rattle.world_core.proofs.world.World.quiet.Goals as goal

pub returns : goal.returns
returns c =
    c.are_still.ensures ∙ (ap (λ (nodes : List NodeHolding). list_all (λ n. is_still_node n.state) nodes) c.as_slice.ensures.value
    ∙ (sym (still_states c.self.inside.nodes.items) ∙ ap is_quiet c.self.view_is))
