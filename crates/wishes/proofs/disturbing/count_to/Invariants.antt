use Rattle.std.proofs.Common.{◌≡◌, ◌+◌, drop}
use Rattle.wishes.specs.{count_to}
use Rattle.wishes.proofs.disturbing.count_to.Given as goal

-- so many so far and as many of those that are left are all
abbrev pub invariant-loop-i : goal.invariant-loop-i
invariant-loop-i l = l.i + count_to l.tick (drop l.i l.events) ≡ count_to l.tick l.events
