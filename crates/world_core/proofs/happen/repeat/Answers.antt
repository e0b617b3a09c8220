use Rattle.std.proofs.Common.{sym, ap, ◌∙◌, List, []}
use Rattle.tree_topology.specs.Topology.{Topology}
use Rattle.attribute_propagation.specs.Ports.{place_of}
use Rattle.node_core.specs.{Holding.states_in, State.NodeState, Links.repeated_at}
use Rattle.world_core.specs.{MarksState, WorldState, after_repeat, Done}
use Rattle.world_core.proofs.Happenings.{index_there, changed_is}
use Rattle.world_core.proofs.happen.repeat.Goals as goal

pub returns-in-None-clause-ok : goal.returns-in-None-clause-ok
returns-in-None-clause-ok c = λ tree marks.
    ap (λ o. after_repeat c.args.at c.args.index o (record { tree = tree; nodes = states_in c.args.nodes.now.items; marks = marks })) (sym (c.app_at.ensures tree marks) ∙ c.in-None.is)

pub repeat_at-requires-clause-there : goal.repeat_at-requires-clause-there
repeat_at-requires-clause-there c =
    let tree : Topology = record { kinds = []; links = [] } in
    let marks : MarksState = record { tree = tree; ends = [] } in
    index_there c.args.at c.args.index tree marks (states_in c.args.nodes.now.items) _ (sym (c.app_at.ensures tree marks) ∙ c.in-Some.is)

pub returns-in_ok-repeat_at-in-Some-clause-ok : goal.returns-in_ok-repeat_at-in-Some-clause-ok
returns-in_ok-repeat_at-in-Some-clause-ok c = λ tree marks.
    ap (λ o. after_repeat c.args.at c.args.index o (record { tree = tree; nodes = states_in c.args.nodes.now.items; marks = marks })) (sym (c.app_at.ensures tree marks) ∙ c.in-Some.is)
    ∙ ap (λ (v : WorldState). (v, Done))
    (changed_is c.args.at.node (repeated_at (place_of c.args.at.port) c.args.index) (record { tree = tree; nodes = states_in c.args.nodes.now.items; marks = marks })
    ∙ ap (λ (nodes : List NodeState). let v : WorldState = record { tree = tree; nodes = nodes; marks = marks } in v) (sym c.in_ok-repeat_at-in-Some.ensures.ok))
