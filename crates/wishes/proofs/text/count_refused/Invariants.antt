use Rattle.std.proofs.Common.{◌≡◌, take}
use Rattle.wishes.specs.{count_that, refuses}
use Rattle.wishes.proofs.text.count_refused.Given as goal

abbrev pub invariant-loop-wish : goal.invariant-loop-wish
invariant-loop-wish l = l.count ≡ count_that refuses (take l.wish-index l.wishes)
