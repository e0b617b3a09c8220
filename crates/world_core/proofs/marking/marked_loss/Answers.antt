use Rattle.node_core.specs.Holding.{states_in}
use Rattle.world_core.specs.{WorldState}
use Rattle.world_core.proofs.{Standing.stands, Standing.peer_stands, Marked.port_of_marks, Marked.if_counted, Marked.lost_with}
use Rattle.world_core.proofs.marking.marked_loss.Goals as goal

pub app_at-app-requires : goal.app_at-app-requires
app_at-app-requires c = stands (record { tree = c.args.tree.now; nodes = states_in c.args.nodes.now.items; marks = c.args.marks.now }) c.requires.kept c.args.at c.requires.port

pub note_loss-requires-clause-port : goal.note_loss-requires-clause-port
note_loss-requires-clause-port c = port_of_marks (record { tree = c.args.tree.now; nodes = states_in c.args.nodes.now.items; marks = c.args.marks.now }) c.requires.kept c.args.at c.requires.port

pub note_loss-requires-clause-some : goal.note_loss-requires-clause-some
note_loss-requires-clause-some c =
    let w : WorldState = record { tree = c.args.tree.now; nodes = states_in c.args.nodes.now.items; marks = c.args.marks.now } in
    if_counted w c.requires.kept (c.ports.ensures c.args.tree.now c.requires.kept.tree) c.args.at c.requires.port c.args.index _ (c.app_at-app.ensures c.args.tree.now c.args.marks.now)

pub lose-requires-clause-here : goal.lose-requires-clause-here
lose-requires-clause-here c = stands (record { tree = c.args.tree.now; nodes = states_in c.args.nodes.now.items; marks = c.args.marks.now }) c.requires.kept c.args.at c.requires.port

pub lose-requires-clause-there : goal.lose-requires-clause-there
lose-requires-clause-there c =
    let w : WorldState = record { tree = c.args.tree.now; nodes = states_in c.args.nodes.now.items; marks = c.args.marks.now } in
    peer_stands w c.requires.kept (c.ports.ensures c.args.tree.now c.requires.kept.tree) c.args.at c.requires.port

pub returns : goal.returns
returns c = lost_with c.args.at c.args.index c.args.tree.now c.args.marks.now _ (states_in c.args.nodes.now.items) _ _ _
    (c.app_at-app.ensures c.args.tree.now c.args.marks.now) (c.lose.ensures c.args.marks.now) c.note_loss.ensures
