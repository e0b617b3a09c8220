use Rattle.std.proofs.Common.{◌≡◌, ◌++◌, List}
use Rattle.port_worker.specs.{Task, AreWorked, AreWorking}
use Rattle.port_worker.proofs.node_threads.end_all.Given as goal

abbrev pub invariant-loop-one : goal.invariant-loop-one
invariant-loop-one g l =
    ((tasks : List Task) → AreWorking tasks l.yielded → AreWorked tasks l.all.items)
    × (l.yielded ++ l.one-iterator.rest.items ≡ l.fn.working.items)
