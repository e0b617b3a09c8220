-- The height stands at the crossings so far, and isn't too great.
use Rattle.std.specs.List.{AllWithin}
use Rattle.delay_bound.specs.Crossings.{IsBelowAt, IsNoHigher}
use Rattle.delay_bound.proofs.heights.highest_with.Given as goal

abbrev pub invariant-loop-flat : goal.invariant-loop-flat
invariant-loop-flat l =
    record {
      first : IsBelowAt l.groups l.slope l.height l.steep l.first;
      each : AllWithin (λ b. IsBelowAt l.groups l.slope l.height l.steep b) l.more 0 l.flat-index;
      least : IsNoHigher l.groups l.slope l.height;
    }
