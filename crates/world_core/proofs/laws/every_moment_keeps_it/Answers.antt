use Rattle.std.proofs.Common.{sym, subst, take}
use Rattle.srp_base.proofs.Lists.{all_taken as each_take}
use Rattle.world_core.specs.{IsEventInRange, world_of, events_from, IsKeptWorld}
use Rattle.world_core.proofs.Runs.{can_take}
use Rattle.world_core.proofs.laws.every_moment_keeps_it.Goals as goal

pub returns : goal.returns
returns c = λ plan ticks end w rules legal moment.
    subst IsKeptWorld (sym moment.reached)
    (c.every_event_keeps_it.ensures.events (take moment.count (events_from plan 0 ticks)) (world_of plan)
    (can_take moment.count (events_from plan 0 ticks) (world_of plan) (c.every_event_of_a_run_may_happen.ensures.can plan ticks end rules legal))
    (each_take IsEventInRange moment.count (events_from plan 0 ticks) (c.every_event_of_a_run_may_happen.ensures.named plan ticks end rules legal))
    (c.a_scenario_begins_well.ensures plan rules))
