use Rattle.std.proofs.Common.{◌≡◌, take}
use Rattle.wishes.specs.{count_that, is_silent}
use Rattle.wishes.proofs.text.count_silent.Given as goal

abbrev pub invariant-loop-wish : goal.invariant-loop-wish
invariant-loop-wish l = l.count ≡ count_that is_silent (take l.wish-index l.wishes)
