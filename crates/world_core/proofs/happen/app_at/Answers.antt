use Rattle.std.proofs.Common.{◌∙◌}
use Rattle.node_core.specs.Holding.{states_in}
use Rattle.world_core.proofs.Happenings.{port_there, get_there, app_is}
use Rattle.world_core.proofs.happen.app_at.Goals as goal

pub app_at-requires : goal.app_at-requires
app_at-requires c = port_there c.args.at c.args.nodes.now.items c.place.result c.index.result.now c.requires c.place.ensures c.index.ensures

pub returns : goal.returns
returns c = λ tree marks.
    c.app_at.ensures ∙ app_is c.args.at c.args.index tree marks (states_in c.args.nodes.now.items) c.index.result.now.state
    (get_there c.args.at c.args.nodes.now.items c.place.result c.index.result.now c.requires c.place.ensures c.index.ensures)
