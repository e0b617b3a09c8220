use Rattle.std.proofs.Common.{◌≡◌}
use Rattle.world_core.specs.{Carrying.NothingWaits, Cursor.IsCursor, NotedRuns.IsNotedRun}
use Rattle.port_worker.proofs.run.run_ports.Given as goal

abbrev pub invariant-loop-t : goal.invariant-loop-t
invariant-loop-t g l =
    IsNotedRun l.scenario l.t l.ticks.items l.world l.history.changes × NothingWaits l.world × IsCursor l.scenario.events l.t l.cursor
    × (l.history.tree ≡ l.scenario.tree)
