use Rattle.group_run.proofs.Happening.{allowed_can, allowed_stays}
use Rattle.group_run.proofs.laws.what_is_allowed_may_happen.Goals as goal

pub returns-clause-can : goal.returns-clause-can
returns-clause-can c = allowed_can

pub returns-clause-stays : goal.returns-clause-stays
returns-clause-stays c =
    allowed_stays (record { tree = c.what_events_leave_alone.ensures.tree; clock = c.what_events_leave_alone.ensures.clock })
