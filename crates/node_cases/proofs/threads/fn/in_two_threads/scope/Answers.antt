use denote.Param.Send.{sendable}
use Rattle.node_cases.proofs.CrossingLemmas.{pass_crosses, lock_is_shared}
use Rattle.node_cases.proofs.threads.Inside.TheSendSync as seen
use Rattle.node_cases.proofs.threads.fn.in_two_threads.scope.Goals as goal

pub spawn_with-one-requires-send-F : goal.spawn_with-one-requires-send-F
spawn_with-one-requires-send-F g c κs within =
    let here = c.requires.0 in search (sendable, pass_crosses, lock_is_shared, seen.the_sync) depth 20

pub spawn_with-one-requires-send-T : goal.spawn_with-one-requires-send-T
spawn_with-one-requires-send-T g c κs within = search (sendable, pass_crosses) depth 20

pub spawn_with-two-requires-send-F : goal.spawn_with-two-requires-send-F
spawn_with-two-requires-send-F g c κs within =
    let here = c.requires.0 in search (sendable, pass_crosses, lock_is_shared, seen.the_sync) depth 20

pub spawn_with-two-requires-send-T : goal.spawn_with-two-requires-send-T
spawn_with-two-requires-send-T g c κs within = search (sendable, pass_crosses) depth 20
