-- The lowest so far, among the rest, is the lowest of all.
use Rattle.std.proofs.Common.{◌≡◌, ◌≤◌, drop}
use Rattle.delay_bound.specs.Bounds.{least_in, bases_with}
use Rattle.delay_bound.proofs.bound.lowest.Given as goal

abbrev pub invariant-loop-bound : goal.invariant-loop-bound
invariant-loop-bound l =
    record {
      least : least_in l.span l.lowest (drop l.bound-index l.more) ≡ least_in l.span l.fn.first l.more;
      small : bases_with l.lowest (drop l.bound-index l.more) ≤ bases_with l.fn.first l.more;
    }
