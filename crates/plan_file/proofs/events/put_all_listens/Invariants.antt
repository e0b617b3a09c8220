use Rattle.std.proofs.Common.{◌≡◌, ◌++◌, ◌+◌, drop}
use Rattle.plan_file.specs.{at_each, listens_at, listens_of}
use Rattle.plan_file.proofs.events.put_all_listens.Given as goal

-- the events so far with those of the nodes that are left are the whole
abbrev pub invariant-loop-i : goal.invariant-loop-i
invariant-loop-i l =
    l.out.items ++ at_each (λ x. listens_at x 1 l.streams) (l.i + 1) (drop l.i l.nodes) ≡ l.initial.out.items ++ listens_of l.nodes l.streams
