use Rattle.std.proofs.Common.{◌≡◌, ◌++◌, drop}
use Rattle.link_replay.specs.{doubted}
use Rattle.link_replay.proofs.link_watch.keep_doubted.Given as goal

-- the words so far with those of the events that are left are all
abbrev pub invariant-loop-event : goal.invariant-loop-event
invariant-loop-event g l =
    l.kept.items ++ doubted g.A.Key.Ord.cmp l.ways l.who (drop l.event-index l.events)
    ≡ l.initial.kept.items ++ doubted g.A.Key.Ord.cmp l.ways l.who l.events
