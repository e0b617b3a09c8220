use Rattle.std.proofs.Common.{◌≡◌, ◌++◌, ◌+◌, drop}
use Rattle.plan_file.specs.{talks_from}
use Rattle.plan_file.proofs.events.put_talks.Given as goal

-- the events so far with those of the streams that are left are the whole
abbrev pub invariant-loop-i : goal.invariant-loop-i
invariant-loop-i l =
    l.out.items ++ talks_from (l.i + 1) (drop l.i l.streams) ≡ l.initial.out.items ++ talks_from 1 l.streams
