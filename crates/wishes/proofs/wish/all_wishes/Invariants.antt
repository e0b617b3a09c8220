use Rattle.std.proofs.Common.{◌≡◌, ◌++◌, drop}
use Rattle.wishes.specs.{wishes_from, wishes_in}
use Rattle.wishes.proofs.wish.all_wishes.Given as goal

-- the wishes so far with those for the streams that are left are all
abbrev pub invariant-loop-i : goal.invariant-loop-i
invariant-loop-i l = l.wishes.items ++ wishes_from l.world l.i (drop l.i l.scenario.streams) ≡ wishes_in l.scenario l.world
