-- The height stands at the crossings so far, and isn't too great.
use Rattle.std.specs.Prelude.{◌∷◌}
use Rattle.std.specs.List.{AllWithin}
use Rattle.delay_bound.specs.Crossings.{IsBelowWith, IsNoHigher}
use Rattle.delay_bound.proofs.heights.highest_over.Given as goal

abbrev pub invariant-loop-steep : goal.invariant-loop-steep
invariant-loop-steep l =
    record {
      first : IsBelowWith l.groups l.slope l.height (l.first ∷ l.more) l.first;
      each : AllWithin (λ b. IsBelowWith l.groups l.slope l.height (l.first ∷ l.more) b) l.more 0 l.steep-index;
      least : IsNoHigher l.groups l.slope l.height;
    }
