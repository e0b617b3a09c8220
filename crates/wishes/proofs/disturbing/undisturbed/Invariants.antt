use Rattle.std.proofs.Common.{◌≡◌, ◌++◌, drop}
use Rattle.wishes.specs.{undisturbed}
use Rattle.wishes.proofs.disturbing.undisturbed.Given as goal

-- the flags so far with those of the nodes that are left are all
abbrev pub invariant-loop-x : goal.invariant-loop-x
invariant-loop-x l =
    l.rests.items ++ undisturbed l.streams l.events l.x (drop l.x l.idle) ≡ undisturbed l.streams l.events 0 l.idle
