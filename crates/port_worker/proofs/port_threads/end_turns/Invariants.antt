use Rattle.std.proofs.Common.{◌≡◌, ◌++◌, List, length}
use Rattle.node_core.specs.declared.types.PortStep.{PortStep}
use Rattle.bridge_book.specs.Hub.{Hub}
use Rattle.port_worker.specs.{AreTaken, ArePartly}
use Rattle.port_worker.proofs.port_threads.end_turns.Given as goal

abbrev pub invariant-loop-one : goal.invariant-loop-one
invariant-loop-one g l =
    ((hub : Hub) (jobs : List (List PortStep)) → ArePartly hub jobs l.yielded → AreTaken hub jobs l.turns.items)
    × (length l.turns.items ≡ length l.yielded)
    × (l.yielded ++ l.one-iterator.rest.items ≡ l.fn.begun.items)
