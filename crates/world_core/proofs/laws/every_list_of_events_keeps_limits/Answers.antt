use Rattle.world_core.specs.{world_of, world_after}
use Rattle.world_core.proofs.{Limits.HasCapsOfLinks, Limits.IsSetUp, Limits.set_up_sides, Limits.set_up_own, Limits.set_up_start, Limits.within_limits, Runs.all_along, Runs.each_event, Runs.trees_stay}
use Rattle.world_core.proofs.laws.every_list_of_events_keeps_limits.Goals as goal

pub returns : goal.returns
returns c = λ plan es rules can fits.
    within_limits (record { class_a = c.bookings_are_within_caps.ensures.class_a; both = c.bookings_are_within_caps.ensures.both }) plan (world_after es (world_of plan))
    (trees_stay es (world_of plan))
    (c.every_event_keeps_it.ensures.events es (world_of plan) can fits (c.a_scenario_begins_well.ensures plan rules))
    (all_along (IsSetUp plan) (set_up_sides (HasCapsOfLinks plan)) _ (λ e w ok. set_up_own c.a_port_stays_set_up.ensures.ports (HasCapsOfLinks plan) e w) es (world_of plan) (each_event es) (set_up_start plan))
