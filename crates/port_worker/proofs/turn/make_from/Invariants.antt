use Rattle.std.proofs.Common.{◌≡◌, take}
use Rattle.port_worker.specs.{asks_of, asked_by}
use Rattle.port_worker.proofs.turn.make_from.Given as goal

abbrev pub invariant-loop-i : goal.invariant-loop-i
invariant-loop-i g l =
    (l.pass.lock ≡ l.hub.lock) × (l.pass.number ≡ l.fn.pass.number) × (asked_by l.pass ≡ asks_of l.pass.number (take l.i l.steps))
