use Rattle.std.proofs.Common.{◌≡◌, ◌++◌}
use Rattle.port_worker.specs.Working.{AreWorking}
use Rattle.port_worker.proofs.node_threads.begin_all.Given as goal

abbrev pub invariant-loop-task : goal.invariant-loop-task
invariant-loop-task g l = AreWorking l.yielded l.all.items × (l.yielded ++ l.task-iterator.rest.items ≡ l.fn.tasks.items)
