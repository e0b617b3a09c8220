use Rattle.std.proofs.Common.{◌≡◌, ◌++◌, ◌+◌, ◌-◌, ℕ, Bool, filter}
use Rattle.plan_file.specs.{numbers_from}
use Rattle.plan_file.proofs.numbers.numbers_where.Given as goal

abbrev pub invariant-loop-i : goal.invariant-loop-i
invariant-loop-i g l =
    (said : ℕ → Bool) → ((n : ℕ) (r : Bool) → goal.F-post g l.fn.test n r → r ≡ said n)
    → l.found.items ++ filter said (numbers_from (l.fn.from + l.i) (l.fn.count - l.i)) ≡ filter said (numbers_from l.fn.from l.fn.count)
