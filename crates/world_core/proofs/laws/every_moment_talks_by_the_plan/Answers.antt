use Rattle.world_core.proofs.{Talks.TalksByPlan, Talks.IsPlanned, Talks.talks_sides, Talks.talks_own, Talks.talks_start, Talks.run_planned, Talks.one_talker, Runs.at_moment}
use Rattle.world_core.proofs.laws.every_moment_talks_by_the_plan.Goals as goal

pub returns-clause-talks : goal.returns-clause-talks
returns-clause-talks c = λ plan ticks end w rules legal moment.
    at_moment (TalksByPlan plan) (talks_sides plan) (IsPlanned plan) (talks_own plan) plan ticks w (run_planned plan rules 0 ticks) (talks_start plan) moment

pub returns-clause-one : goal.returns-clause-one
returns-clause-one c = λ plan ticks end w rules legal moment.
    one_talker plan rules w
    (at_moment (TalksByPlan plan) (talks_sides plan) (IsPlanned plan) (talks_own plan) plan ticks w (run_planned plan rules 0 ticks) (talks_start plan) moment)
