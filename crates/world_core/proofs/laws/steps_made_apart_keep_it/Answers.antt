use Rattle.std.proofs.Common.{subst}
use Rattle.world_core.specs.{IsKeptWorld, step_events}
use Rattle.world_core.proofs.OwnSteps.{own_after, own_replies, all_after, all_replies, all_can}
use Rattle.world_core.proofs.laws.steps_made_apart_keep_it.Goals as goal

pub returns-clause-one : goal.returns-clause-one
returns-clause-one c = λ n made w s is own. own_after n made w s is own

pub returns-clause-own : goal.returns-clause-own
returns-clause-own c = λ n made w s is own. own_replies n made w s is own

pub returns-clause-all : goal.returns-clause-all
returns-clause-all c = λ made w apart. all_after made w apart.nodes apart.own

pub returns-clause-replies : goal.returns-clause-replies
returns-clause-replies c = λ made w apart. all_replies made w apart.nodes apart.own

pub returns-clause-keeps : goal.returns-clause-keeps
returns-clause-keeps c = λ made w apart kept.
    let can = all_can made w apart in
    subst IsKeptWorld (all_after made w apart.nodes apart.own) (c.every_event_keeps_it.ensures.events (step_events made) w can.0 can.1 kept)
