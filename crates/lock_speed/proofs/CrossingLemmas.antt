-- What a thread is given may go to it: a pass, and a reference to the lock.
use denote.Struct.Field.{u64-field}
use denote.Param.Send.{IsSend, IsSync, plain_send}
use Rattle.std.specs.contracts.prelude.U64Clone.TheImpl as numbers
use Rattle.turn_lock.specs.contracts.lock.Pass as passes
use Rattle.turn_lock.proofs.CrossingLemmas.{pass_send}
use Rattle.lock_speed.specs.contracts.counter.Counter as counters
use Rattle.lock_speed.specs.contracts.counter.CounterSequential.TheImpl as steps
use Rattle.lock_speed.proofs.counter.Counter.TheSendSync as counts

number : IsSend (u64-field).row
number = plain_send _ _ _ _ _

pub pass_crosses : IsSend (passes.the_row counters.the_row (u64-field).row (u64-field).row steps.ghosts)
pass_crosses = pass_send counters.the_row (u64-field).row (u64-field).row steps.ghosts counts.the_send number number
