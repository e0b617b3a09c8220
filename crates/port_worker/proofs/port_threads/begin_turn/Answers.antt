use denote.Param.Send.{sendable}
use Rattle.srp_base.proofs.list.Seq.TheSendSync as lists
use Rattle.node_core.proofs.types.PortStep.TheSendSync as steps
use Rattle.bridge_book.proofs.hub.NodeHub.TheSendSync as hubs
use Rattle.port_worker.proofs.CrossingLemmas.{pass_crosses, turn_crosses}
use Rattle.port_worker.proofs.port_threads.begin_turn.Goals as goal

pub spawn_scoped_with-requires-send-F : goal.spawn_scoped_with-requires-send-F
spawn_scoped_with-requires-send-F g c κs within =
    let r = c.type_bounds.sync-R in
    let h = c.type_bounds.sync-G in
    search (sendable, pass_crosses, lists.the_sync, steps.the_sync, hubs.the_sync) depth 20

pub spawn_scoped_with-requires-send-T : goal.spawn_scoped_with-requires-send-T
spawn_scoped_with-requires-send-T g c κs within = search (sendable, turn_crosses) depth 20
