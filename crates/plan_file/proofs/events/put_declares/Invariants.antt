use Rattle.std.proofs.Common.{◌≡◌, ◌++◌, drop}
use Rattle.plan_file.specs.{declares_at}
use Rattle.plan_file.proofs.events.put_declares.Given as goal

-- the events so far with those of the VIDs that are left are the whole
abbrev pub invariant-loop-vid : goal.invariant-loop-vid
invariant-loop-vid l =
    l.out.items ++ declares_at l.streams (drop l.vid-index l.vids) l.x.0 ≡ l.initial.out.items ++ declares_at l.streams l.vids l.x.0
