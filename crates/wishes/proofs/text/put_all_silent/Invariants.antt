use Rattle.std.proofs.Common.{◌≡◌, ◌++◌, drop}
use Rattle.wishes.specs.{silent_lines}
use Rattle.wishes.proofs.text.put_all_silent.Given as goal

-- the text so far with the lines of the wishes that are left is the whole
abbrev pub invariant-loop-wish : goal.invariant-loop-wish
invariant-loop-wish l =
    l.out.items ++ silent_lines l.scenario (drop l.wish-index l.wishes) ≡ l.fn.out.items ++ silent_lines l.scenario l.wishes
