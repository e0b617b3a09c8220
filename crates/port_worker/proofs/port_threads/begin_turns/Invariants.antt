use Rattle.std.proofs.Common.{◌≡◌, ◌++◌, length}
use Rattle.port_worker.specs.Begun.{ArePartly}
use Rattle.port_worker.proofs.port_threads.begin_turns.Given as goal

abbrev pub invariant-loop-pass : goal.invariant-loop-pass
invariant-loop-pass g l =
    ArePartly l.hub l.jobs l.all.items × (length l.all.items ≡ length l.yielded)
    × (l.yielded ++ l.pass-iterator.rest.items ≡ l.fn.passes.items)
