use Rattle.mmrp.specs.{groups_after, net_of}
use Rattle.mmrp.proofs.laws.groups_match_after_every_list_of_events.Goals as goal

pub returns-clause-kept : goal.returns-clause-kept
returns-clause-kept c = λ ticks tree leave_time periodic nodes links es rules can small.
    c.every_event_keeps_it.ensures.events es (net_of tree leave_time periodic nodes links) can small (c.a_network_begins_well.ensures ticks tree leave_time periodic nodes links rules)

pub returns-clause-at_rest : goal.returns-clause-at_rest
returns-clause-at_rest c = λ ticks tree leave_time periodic nodes links es rules can small rest.
    c.groups_are_those_joined_behind.ensures.law (groups_after es (net_of tree leave_time periodic nodes links))
    (c.every_event_keeps_it.ensures.events es (net_of tree leave_time periodic nodes links) can small (c.a_network_begins_well.ensures ticks tree leave_time periodic nodes links rules)) rest
