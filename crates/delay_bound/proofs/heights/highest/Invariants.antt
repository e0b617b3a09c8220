-- The height stands at 0 and at the crossings so far, and isn't too great.
use Rattle.std.specs.List.{AllWithin}
use Rattle.delay_bound.specs.Bounds.{bounds_of}
use Rattle.delay_bound.specs.Crossings.{IsBelowIn, IsBelowOver, IsNoHigher}
use Rattle.delay_bound.proofs.heights.highest.Given as goal

abbrev pub invariant-loop-group : goal.invariant-loop-group
invariant-loop-group l =
    record {
      none : IsBelowIn l.groups l.slope l.height 0;
      each : AllWithin (λ g. IsBelowOver l.groups l.slope l.height (bounds_of g)) l.groups 0 l.group-index;
      least : IsNoHigher l.groups l.slope l.height;
    }
