use Rattle.std.proofs.Common.{◌≡◌, take}
use Rattle.wishes.specs.{count_that, grants}
use Rattle.wishes.proofs.text.count_granted.Given as goal

abbrev pub invariant-loop-wish : goal.invariant-loop-wish
invariant-loop-wish l = l.count ≡ count_that grants (take l.wish-index l.wishes)
