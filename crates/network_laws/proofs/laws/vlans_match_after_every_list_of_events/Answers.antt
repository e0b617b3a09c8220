use Rattle.world_core.specs.{World.world_after, Start.world_of}
use Rattle.network_laws.proofs.laws.vlans_match_after_every_list_of_events.Goals as goal

pub returns : goal.returns
returns c = λ plan events rules can named rest.
    c.vlans_are_those_declared_behind.ensures.law (world_after events (world_of plan))
    (c.every_event_keeps_it.ensures.events events (world_of plan) can named (c.a_scenario_begins_well.ensures plan rules))
    rest
