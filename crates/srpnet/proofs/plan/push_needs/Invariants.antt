use Rattle.std.proofs.Common.{◌≡◌, ◌++◌, drop}
use Rattle.wishes.specs.Needs.{needs_of}
use Rattle.srpnet.proofs.plan.push_needs.Given as goal

-- what is needed so far with what the wishes that are left need is the whole
abbrev pub invariant-loop-i : goal.invariant-loop-i
invariant-loop-i l = l.needs.items ++ needs_of (drop l.i l.wishes) ≡ l.fn.needs.items ++ needs_of l.wishes
