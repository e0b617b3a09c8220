use Rattle.std.proofs.Common.{length, sym, ap, ◌∙◌}
use Rattle.node_core.specs.declared.types.Wire.{Wire}
use Rattle.std.proofs.Common.{List}
use Rattle.node_core.specs.Holding.{states_in}
use Rattle.world_core.proofs.{Happenings.port_there, Happenings.get_there, Nodes.outbox_is}
use Rattle.world_core.proofs.marking.out_count.Goals as goal

pub outgoing_pdus-requires : goal.outgoing_pdus-requires
outgoing_pdus-requires c = port_there c.args.at c.args.nodes.now.items c.place.result c.index.result.now c.requires c.place.ensures c.index.ensures

pub returns-clause-count : goal.returns-clause-count
returns-clause-count c = λ tree marks.
    c.outgoing_pdus.ensures
    ∙ ap (λ (ws : List Wire). length ws) (sym (outbox_is c.args.at (record { tree = tree; nodes = states_in c.args.nodes.now.items; marks = marks }) c.index.result.now.state
    (get_there c.args.at c.args.nodes.now.items c.place.result c.index.result.now c.requires c.place.ensures c.index.ensures)))
