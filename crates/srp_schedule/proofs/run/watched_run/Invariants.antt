use Rattle.std.proofs.Common.{◌≡◌}
use Rattle.srp_schedule.specs.{AreRests, ends_of, having_seen}
use Rattle.srp_schedule.proofs.NotedLemmas.{IsNotedTo}
use Rattle.srp_schedule.proofs.run.watched_run.Given as goal

abbrev pub invariant-loop-t : goal.invariant-loop-t
invariant-loop-t g l =
    IsNotedTo l.scenario l.t l.ticks.items l.world l.cursor l.history.changes × (l.history.tree ≡ l.scenario.tree) × AreRests l.world l.rests.items
    × (l.watcher ≡ having_seen g.W.RunWatcher.after l.fn.watcher (ends_of l.scenario l.ticks.items))
