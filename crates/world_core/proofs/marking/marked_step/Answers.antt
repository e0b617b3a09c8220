use Rattle.std.proofs.Common.{◌∙◌}
use Rattle.node_core.specs.Holding.{states_in}
use Rattle.world_core.proofs.{Standing.stands, Marked.port_of_marks, Marked.stepped_with}
use Rattle.world_core.proofs.marking.marked_step.Goals as goal

pub make_step-requires-clause-some : goal.make_step-requires-clause-some
make_step-requires-clause-some c = c.requires.port.0.0

pub make_step-requires-clause-few : goal.make_step-requires-clause-few
make_step-requires-clause-few c = (stands (record { tree = c.args.tree.now; nodes = states_in c.args.nodes.now.items; marks = c.args.marks.now }) c.requires.kept c.args.at c.requires.port).few

pub make_step-requires-clause-can : goal.make_step-requires-clause-can
make_step-requires-clause-can c = (stands (record { tree = c.args.tree.now; nodes = states_in c.args.nodes.now.items; marks = c.args.marks.now }) c.requires.kept c.args.at c.requires.port).port

pub note-requires-clause-port : goal.note-requires-clause-port
note-requires-clause-port c = port_of_marks (record { tree = c.args.tree.now; nodes = states_in c.args.nodes.now.items; marks = c.args.marks.now }) c.requires.kept c.args.at c.requires.port

pub returns-clause-ok : goal.returns-clause-ok
returns-clause-ok c =
    stepped_with c.args.at c.args.step c.args.tree.now c.args.marks.now _ (states_in c.args.nodes.now.items) _ _ (c.in_ok-reply.ensures.ok c.args.tree.now c.args.marks.now)
    (c.note.ensures ∙ c.in_ok-noted.ensures.noted _)
