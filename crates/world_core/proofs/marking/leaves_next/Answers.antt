use Rattle.std.proofs.Common.{◌∙◌}
use Rattle.node_core.specs.Holding.{states_in}
use Rattle.world_core.proofs.{Happenings.port_there, Happenings.get_there, Marked.next_is}
use Rattle.world_core.proofs.marking.leaves_next.Goals as goal

pub leaves_next-requires : goal.leaves_next-requires
leaves_next-requires c = port_there c.args.at c.args.nodes.now.items c.place.result c.index.result.now c.requires c.place.ensures c.index.ensures

pub returns : goal.returns
returns c = λ tree marks.
    c.leaves_next.ensures
    ∙ next_is c.args.app c.args.at (record { tree = tree; nodes = states_in c.args.nodes.now.items; marks = marks }) c.index.result.now.state
    (get_there c.args.at c.args.nodes.now.items c.place.result c.index.result.now c.requires c.place.ensures c.index.ensures)
