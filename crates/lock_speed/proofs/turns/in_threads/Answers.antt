use denote.Param.Send.{sendable}
use Rattle.lock_speed.proofs.CrossingLemmas.{pass_crosses}
use Rattle.lock_speed.proofs.turns.in_threads.Goals as goal

pub map_vec-requires-send-J : goal.map_vec-requires-send-J
map_vec-requires-send-J g c = search (sendable, pass_crosses) depth 20

pub map_vec-requires-send-X : goal.map_vec-requires-send-X
map_vec-requires-send-X g c = search (sendable, pass_crosses) depth 20
