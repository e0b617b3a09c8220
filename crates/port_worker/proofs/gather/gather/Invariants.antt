use Rattle.std.proofs.Common.{◌≡◌, ◌++◌}
use Rattle.port_worker.specs.{CanFollow, marks_made, nodes_of, steps_made}
use Rattle.port_worker.proofs.gather.gather.Given as goal

abbrev pub invariant-loop-worked : goal.invariant-loop-worked
invariant-loop-worked l =
    (l.nodes.items ≡ nodes_of l.yielded) × (l.made.items ≡ steps_made l.yielded) × (l.marks ≡ marks_made l.yielded l.fn.marks)
    × CanFollow l.worked-iterator.rest.items l.marks × (l.yielded ++ l.worked-iterator.rest.items ≡ l.fn.all.items)
