use Rattle.std.proofs.Common.{◌≡◌}
use Rattle.group_run.specs.{IsInTick, IsCursor, after_ticks}
use Rattle.group_run.proofs.run.run_groups.Given as goal

-- the ticks so far, and the next one begins with its events
abbrev pub invariant-loop : goal.invariant-loop
invariant-loop l = record {
  run : l.course ≡ after_ticks l.scenario l.counter;
  at : IsInTick l.scenario.tree l.counter l.course.net;
  cursor : IsCursor l.scenario.events l.counter l.cursor;
}
