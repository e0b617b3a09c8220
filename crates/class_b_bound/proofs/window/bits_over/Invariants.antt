-- What the departures up to here take, and what the rest take, are all.
use Rattle.std.proofs.Common.{◌≡◌, ◌+◌, drop}
use Rattle.class_b_bound.specs.{bits_over}
use Rattle.class_b_bound.proofs.window.bits_over.Given as goal

abbrev pub invariant-loop-d : goal.invariant-loop-d
invariant-loop-d l =
    l.bits + bits_over l.from l.to (drop l.d-index l.sent) ≡ bits_over l.from l.to l.sent
