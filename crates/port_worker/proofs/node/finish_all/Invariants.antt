use Rattle.std.proofs.Common.{◌≡◌, ◌++◌, length}
use Rattle.port_worker.specs.{AreDone}
use Rattle.port_worker.proofs.node.finish_all.Given as goal

abbrev pub invariant-loop-turn : goal.invariant-loop-turn
invariant-loop-turn g l =
    AreDone l.hub l.jobs l.passes.items × (length l.passes.items ≡ length l.yielded)
    × (l.yielded ++ l.turn-iterator.rest.items ≡ l.fn.turns.items)
