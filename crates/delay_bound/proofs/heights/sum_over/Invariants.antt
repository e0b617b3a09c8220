-- What the groups so far bring in, and the rest, are all.
use Rattle.std.proofs.Common.{◌≡◌, ◌+◌, ◌*◌, ◌^◌, ◌≤◌, drop}
use Rattle.delay_bound.specs.Bounds.{brought_in, bases_of}
use Rattle.delay_bound.proofs.heights.sum_over.Given as goal

abbrev pub invariant-loop-group : goal.invariant-loop-group
invariant-loop-group l =
    record {
      value : l.sum.base + l.sum.slope * l.span + brought_in (drop l.group-index l.groups) l.span ≡ brought_in l.groups l.span;
      small : l.sum.base + bases_of (drop l.group-index l.groups) ≤ bases_of l.groups;
      slope : l.sum.slope ≤ l.group-index * 2 ^ 64;
    }
