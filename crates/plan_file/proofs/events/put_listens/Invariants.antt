use Rattle.std.proofs.Common.{◌≡◌, ◌++◌, ◌+◌, drop}
use Rattle.plan_file.specs.{listens_at}
use Rattle.plan_file.proofs.events.put_listens.Given as goal

-- the events so far with those of the streams that are left are the whole
abbrev pub invariant-loop-i : goal.invariant-loop-i
invariant-loop-i l =
    l.out.items ++ listens_at l.x.0 (l.i + 1) (drop l.i l.streams) ≡ l.initial.out.items ++ listens_at l.x.0 1 l.streams
