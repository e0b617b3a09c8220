-- The area up to here, and that of the rest of the slopes, are all.
use Rattle.std.proofs.Common.{◌≡◌, ◌+◌, ◌*◌, ◌^◌, ◌≤◌, drop}
use Rattle.class_b_bound.specs.{area_over}
use Rattle.class_b_bound.proofs.window.area_over.Given as goal

abbrev pub invariant-loop-change : goal.invariant-loop-change
invariant-loop-change l =
    record {
      whole : l.area + area_over l.at l.to l.slope (drop l.change-index l.slopes) ≡ area_over l.from l.to 0 l.slopes;
      from : l.from ≤ l.at;
      to : l.at ≤ l.to;
      slope : l.slope ≤ 2 ^ 34;
      small : l.area ≤ l.at * 2 ^ 34;
    }
