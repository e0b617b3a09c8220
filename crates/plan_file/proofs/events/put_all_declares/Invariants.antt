use Rattle.std.proofs.Common.{◌≡◌, ◌++◌, ◌+◌, drop}
use Rattle.plan_file.specs.{at_each, declares_at}
use Rattle.plan_file.proofs.events.put_all_declares.Given as goal

-- the events so far with those of the nodes that are left are the whole
abbrev pub invariant-loop-i : goal.invariant-loop-i
invariant-loop-i l =
    l.out.items ++ at_each (declares_at l.streams l.vids) (l.i + 1) (drop l.i l.nodes)
    ≡ l.initial.out.items ++ at_each (declares_at l.streams l.vids) 1 l.nodes
