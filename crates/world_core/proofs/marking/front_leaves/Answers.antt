use Rattle.std.proofs.Common.{List, false, sym, ap, ◌∙◌}
use Rattle.std.specs.Prelude.{Option, slice_get}
use Rattle.std.specs.Option.{option_map_or}
use Rattle.srp_base.proofs.Arithmetic.{if_ok}
use Rattle.node_core.specs.declared.types.Wire.{Wire}
use Rattle.node_core.specs.{Holding.states_in, Leaving.has_leave_all}
use Rattle.world_core.specs.{world_with}
use Rattle.world_core.proofs.{Happenings.port_there, Happenings.get_there, Nodes.inbox_is}
use Rattle.world_core.proofs.marking.front_leaves.Goals as goal

pub front_pdu-requires : goal.front_pdu-requires
front_pdu-requires c = port_there c.args.at c.args.nodes.now.items c.place.result c.index-node.result.now c.requires c.place.ensures c.index-node.ensures

pub returns-in-Some : goal.returns-in-Some
returns-in-Some c =
    if_ok c.short_leaves.result _ _
    (λ leaves h. λ tree marks.
    h ∙ ap (λ (o : Option Wire). option_map_or has_leave_all o false)
    (c.in-Some.ensures.front
    ∙ ap (λ (ws : List Wire). slice_get ws 0) (sym (inbox_is c.args.at (world_with tree (states_in c.args.nodes.now.items) marks) c.index-node.result.now.state
    (get_there c.args.at c.args.nodes.now.items c.place.result c.index-node.result.now c.requires c.place.ensures c.index-node.ensures))))) c.short_leaves.ensures

pub returns-in-None : goal.returns-in-None
returns-in-None c = λ tree marks.
    ap (λ (o : Option Wire). option_map_or has_leave_all o false)
    (c.in-None.ensures.front
    ∙ ap (λ (ws : List Wire). slice_get ws 0) (sym (inbox_is c.args.at (world_with tree (states_in c.args.nodes.now.items) marks) c.index-node.result.now.state
    (get_there c.args.at c.args.nodes.now.items c.place.result c.index-node.result.now c.requires c.place.ensures c.index-node.ensures))))
