use Rattle.world_core.specs.Cursor.{IsCursor}
use Rattle.journal_audit.specs.{AreTicksRead}
use Rattle.journal_audit.proofs.replay.replay.Given as goal

-- the ticks so far have been read and noted
abbrev pub invariant-loop-t : goal.invariant-loop-t
invariant-loop-t l = AreTicksRead l.scenario l.t l.fn.lines l.ticks.items l.world l.history l.lines × IsCursor l.scenario.events l.t l.cursor
