-- What is pushed, and what the rest of the arrivals gives, are all that wait.
use Rattle.std.proofs.Common.{◌≡◌, ◌++◌, map, drop}
use Rattle.credit_shaper.specs.{pending}
use Rattle.credit_shaper.proofs.trace.PortTrace.left.Given as goal

abbrev pub invariant-loop-i : goal.invariant-loop-i
invariant-loop-i l =
    map (λ x. x.frame) (pending l.fn.self.heads 0 l.arrivals) ≡ l.left.items ++ map (λ x. x.frame) (pending l.fn.self.heads l.i (drop l.i l.arrivals))
