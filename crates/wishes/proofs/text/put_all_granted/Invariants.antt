use Rattle.std.proofs.Common.{◌≡◌, ◌++◌, drop}
use Rattle.wishes.specs.{granted_lines}
use Rattle.wishes.proofs.text.put_all_granted.Given as goal

-- the text so far with the lines of the wishes that are left is the whole
abbrev pub invariant-loop-i : goal.invariant-loop-i
invariant-loop-i l =
    l.out.items ++ granted_lines l.scenario l.facts (drop l.i l.wishes)
    ≡ l.fn.out.items ++ granted_lines l.scenario l.facts l.wishes
