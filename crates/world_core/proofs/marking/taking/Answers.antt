use Rattle.std.proofs.Common.{sym, ◌∙◌}
use Rattle.node_core.specs.Holding.{states_in}
use Rattle.world_core.specs.{WorldState}
use Rattle.world_core.proofs.{Standing.stands, Marked.takes_nothing, Marked.takes_counted, Marked.can_take}
use Rattle.world_core.proofs.marking.taking.Goals as goal

pub app_at-requires : goal.app_at-requires
app_at-requires c = stands (record { tree = c.args.tree.now; nodes = states_in c.args.nodes.now.items; marks = c.args.marks.now }) c.requires.kept c.args.at c.requires.port

pub counts-requires : goal.counts-requires
counts-requires c = stands (record { tree = c.args.tree.now; nodes = states_in c.args.nodes.now.items; marks = c.args.marks.now }) c.requires.kept c.args.at c.requires.port

pub returns-in-None-clause-noted : goal.returns-in-None-clause-noted
returns-in-None-clause-noted c = λ reply.
    let w : WorldState = record { tree = c.args.tree.now; nodes = states_in c.args.nodes.now.items; marks = c.args.marks.now } in
    takes_nothing c.args.at w (sym c.in-None.is ∙ c.app_at.ensures c.args.tree.now c.args.marks.now)

pub returns-in_ok-leave_all-in-Some-clause-noted : goal.returns-in_ok-leave_all-in-Some-clause-noted
returns-in_ok-leave_all-in-Some-clause-noted c = λ reply.
    let w : WorldState = record { tree = c.args.tree.now; nodes = states_in c.args.nodes.now.items; marks = c.args.marks.now } in
    takes_counted c.args.at w c.in-Some.app _ (sym c.in-Some.is ∙ c.app_at.ensures c.args.tree.now c.args.marks.now) (c.in_ok-leave_all-in-Some.ensures c.args.tree.now c.args.marks.now)

pub returns-in_ok-leave_all-in-Some-clause-can : goal.returns-in_ok-leave_all-in-Some-clause-can
returns-in_ok-leave_all-in-Some-clause-can c =
    let w : WorldState = record { tree = c.args.tree.now; nodes = states_in c.args.nodes.now.items; marks = c.args.marks.now } in
    can_take w c.requires.kept (c.ports.ensures c.args.tree.now c.requires.kept.tree) c.args.at c.requires.port c.in-Some.app (sym c.in-Some.is ∙ c.app_at.ensures c.args.tree.now c.args.marks.now)
