use Rattle.std.proofs.Common.{◌≡◌, take, not}
use Rattle.wishes.specs.{count_that, grants}
use Rattle.wishes.proofs.text.count_ungranted.Given as goal

abbrev pub invariant-loop-wish : goal.invariant-loop-wish
invariant-loop-wish l = l.count ≡ count_that (λ answer. not (grants answer)) (take l.wish-index l.wishes)
