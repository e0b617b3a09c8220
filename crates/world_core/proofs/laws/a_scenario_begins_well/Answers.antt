use Rattle.world_core.proofs.Beginnings.{begins}
use Rattle.world_core.proofs.laws.a_scenario_begins_well.Goals as goal

pub returns : goal.returns
returns c = λ plan rules.
    begins plan rules c.ports.ensures c.a_new_node_is_proper.ensures
    (record { new = c.a_new_marked_link_meets_both_duties.ensures.new; turns = c.a_new_marked_link_meets_both_duties.ensures.turned })
    (record { new = c.a_new_marked_link_meets_both_duties-2.ensures.new; turns = c.a_new_marked_link_meets_both_duties-2.ensures.turned })
    c.every_event_keeps_marked_duties.ensures.event
