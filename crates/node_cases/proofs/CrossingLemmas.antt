-- What a thread is given may go to it: a pass, and references to the lock and to what is seen from inside.
use denote.Struct.Field.{u64-field}
use denote.Param.Send.{IsSend, IsSync, plain_send}
use Rattle.std.specs.contracts.prelude.U64Clone.TheImpl as numbers
use Rattle.turn_lock.specs.contracts.lock.Pass as passes
use Rattle.turn_lock.specs.contracts.lock.TurnLock as locks
use Rattle.turn_lock.proofs.lock.TurnLock.TheSendSync as shares
use Rattle.turn_lock.proofs.CrossingLemmas.{pass_send}
use Rattle.node_cases.specs.contracts.sum.Counter as counters
use Rattle.node_cases.specs.contracts.sum.CounterSequential.TheImpl as steps
use Rattle.node_cases.proofs.sum.Counter.TheSendSync as counts

number : IsSend (u64-field).row
number = plain_send _ _ _ _ _

pub pass_crosses : IsSend (passes.the_row counters.the_row (u64-field).row (u64-field).row steps.ghosts)
pass_crosses = pass_send counters.the_row (u64-field).row (u64-field).row steps.ghosts counts.the_send number number

pub lock_is_shared : IsSync (locks.the_row counters.the_row (u64-field).row (u64-field).row steps.ghosts numbers.ghosts numbers.ghosts)
lock_is_shared = shares.the_sync counters.the_row (u64-field).row (u64-field).row steps.ghosts numbers.ghosts numbers.ghosts counts.the_send number number
