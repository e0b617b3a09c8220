use Rattle.std.proofs.Common.{sym, ap, ◌∙◌, []}
use Rattle.attribute_propagation.specs.Ports.{place_of}
use Rattle.node_core.specs.{Holding.states_in, Links.lost_at}
use Rattle.world_core.specs.{MarksState, WorldState, with_loss, Done}
use Rattle.world_core.proofs.Happenings.{index_there, spoilt_after}
use Rattle.world_core.proofs.happen.lose.Goals as goal

pub returns-in-None : goal.returns-in-None
returns-in-None c = λ marks.
    ap (λ o. with_loss c.args.at c.args.index o (record { tree = c.args.tree.now; nodes = states_in c.args.nodes.now.items; marks = marks }))
    (sym (c.app_at.ensures c.args.tree.now marks) ∙ c.in-None.is)

pub lose_at-requires-clause-there : goal.lose_at-requires-clause-there
lose_at-requires-clause-there c =
    let marks : MarksState = record { tree = c.args.tree.now; ends = [] } in
    index_there c.args.at c.args.index c.args.tree.now marks (states_in c.args.nodes.now.items) c.in-Some.app (sym (c.app_at.ensures c.args.tree.now marks) ∙ c.in-Some.is)

pub returns-in-Some : goal.returns-in-Some
returns-in-Some c = λ marks.
    ap (λ o. with_loss c.args.at c.args.index o (record { tree = c.args.tree.now; nodes = states_in c.args.nodes.now.items; marks = marks }))
    (sym (c.app_at.ensures c.args.tree.now marks) ∙ c.in-Some.is)
    ∙ ap (λ (v : WorldState). (v, Done))
    (spoilt_after c.args.at c.in-Some.app (lost_at (place_of c.args.at.port) c.args.index) c.args.tree.now marks (states_in c.args.nodes.now.items) _ _
    c.lose_at.ensures.after (c.spoil_ends.ensures marks))
