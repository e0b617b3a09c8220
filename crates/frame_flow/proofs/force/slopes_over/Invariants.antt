use Rattle.std.proofs.Common.{◌≡◌, ◌++◌, map, drop}
use Rattle.frame_flow.specs.{later_slopes, slopes_over}
use Rattle.frame_flow.proofs.force.slopes_over.Given as goal

abbrev pub invariant-loop-c : goal.invariant-loop-c
invariant-loop-c l =
    l.slopes.items ++ later_slopes l.rate l.ticks l.last (map (λ c. c.now) (drop l.c-index l.changes)) ≡ slopes_over l.rate l.ticks (map (λ c. c.now) l.changes)
