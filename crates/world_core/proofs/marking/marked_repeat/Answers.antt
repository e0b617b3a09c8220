use Rattle.std.proofs.Common.{sym, subst}
use Rattle.std.specs.Prelude.{◌<◌, ◌^◌}
use Rattle.srp_base.specs.declared.numbers.EgressPort.{EgressPort}
use Rattle.tree_topology.specs.Topology.{HasPort}
use Rattle.node_core.specs.Holding.{states_in}
use Rattle.world_core.specs.{mark_at, WorldState}
use Rattle.world_core.proofs.{Standing.stands, Marked.port_of_marks, Marked.if_counted, Marked.few_from_peer, Marked.copied_with}
use Rattle.world_core.proofs.marking.marked_repeat.Goals as goal

pub few_wait-requires-clause-port : goal.few_wait-requires-clause-port
few_wait-requires-clause-port c = subst (λ (r : EgressPort). HasPort c.args.tree.now r) (sym c.peer.ensures)
    ((c.ports.ensures c.args.tree.now c.requires.kept.tree).peer_port c.args.at c.requires.port)

pub app_at-app-requires : goal.app_at-app-requires
app_at-app-requires c = stands (record { tree = c.args.tree.now; nodes = states_in c.args.nodes.now.items; marks = c.args.marks.now }) c.requires.kept c.args.at c.requires.port

pub repeat-requires : goal.repeat-requires
repeat-requires c = stands (record { tree = c.args.tree.now; nodes = states_in c.args.nodes.now.items; marks = c.args.marks.now }) c.requires.kept c.args.at c.requires.port

pub note_copy-requires-clause-port : goal.note_copy-requires-clause-port
note_copy-requires-clause-port c = port_of_marks (record { tree = c.args.tree.now; nodes = states_in c.args.nodes.now.items; marks = c.args.marks.now }) c.requires.kept c.args.at c.requires.port

pub note_copy-requires-clause-some : goal.note_copy-requires-clause-some
note_copy-requires-clause-some c =
    let w : WorldState = record { tree = c.args.tree.now; nodes = states_in c.args.nodes.now.items; marks = c.args.marks.now } in
    if_counted w c.requires.kept (c.ports.ensures c.args.tree.now c.requires.kept.tree) c.args.at c.requires.port c.args.index _ (c.app_at-app.ensures c.args.tree.now c.args.marks.now)

pub note_copy-requires-clause-few : goal.note_copy-requires-clause-few
note_copy-requires-clause-few c =
    let w : WorldState = record { tree = c.args.tree.now; nodes = states_in c.args.nodes.now.items; marks = c.args.marks.now } in
    few_from_peer w c.requires.kept c.args.at (λ app. subst (λ (r : EgressPort). (mark_at app r c.args.marks.now).flying < 2 ^ 100) c.peer.ensures (c.few_wait.ensures app))

pub returns-clause-ok : goal.returns-clause-ok
returns-clause-ok c = copied_with c.args.at c.args.index c.args.tree.now c.args.marks.now _ (states_in c.args.nodes.now.items) _ _ _
    (c.app_at-app.ensures c.args.tree.now c.args.marks.now) (c.in_ok-reply.ensures.ok c.args.tree.now c.args.marks.now) c.note_copy.ensures
