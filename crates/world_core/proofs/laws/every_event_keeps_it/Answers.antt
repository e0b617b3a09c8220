use Rattle.world_core.proofs.{BaseSteps.NodeLaws, VlanSteps.VlanLaws, StreamSteps.StreamLaws, Keeping.KeepingLaws, Keeping.kept_event, Keeping.kept_events, laws.every_event_keeps_it.Goals.After-steps_keep_what_a_node_is}
use Rattle.world_core.proofs.laws.every_event_keeps_it.Goals as goal

vlans : After-steps_keep_what_a_node_is → VlanLaws
vlans c =
    record {
      event = c.every_event_keeps_marked_duties.ensures.event;
      turns = c.a_new_marked_link_meets_both_duties.ensures.turned;
      fewer = c.fewer_marks_keep_marked_duties.ensures;
      unsound = c.spoiling_keeps_duties.ensures.own;
      written = c.what_is_sent_is_read.ensures;
    }

streams : After-steps_keep_what_a_node_is → StreamLaws
streams c =
    record {
      event = c.every_event_keeps_marked_duties-2.ensures.event;
      turns = c.a_new_marked_link_meets_both_duties-2.ensures.turned;
      fewer = c.fewer_marks_keep_marked_duties-2.ensures;
      unsound = c.spoiling_keeps_duties-2.ensures.own;
      written = c.what_is_sent_is_read-2.ensures.written;
      each_key = c.what_is_sent_is_read-2.ensures.each_key;
    }

nodes : After-steps_keep_what_a_node_is → NodeLaws
nodes c =
    record {
      step = c.every_step_keeps_a_node_proper.ensures;
      kind = c.steps_keep_what_a_node_is.ensures.kind;
      ports = c.steps_keep_what_a_node_is.ensures.ports;
      clock = c.steps_keep_what_a_node_is.ensures.clock;
      asked = c.steps_keep_what_a_node_is.ensures.asked;
      taken = c.links_keep_a_node_proper.ensures.taken;
      carried = c.links_keep_a_node_proper.ensures.carried;
      lost = c.links_keep_a_node_proper.ensures.lost;
      repeated = c.links_keep_a_node_proper.ensures.repeated;
      says = c.octets_say_what_fits.ensures;
      forged = c.links_keep_a_node_proper.ensures.forged;
      spoilt = c.links_keep_a_node_proper.ensures.spoilt;
    }

laws : After-steps_keep_what_a_node_is → KeepingLaws
laws c = record { nodes = nodes c; vlans = vlans c; streams = streams c; ports = c.ports.ensures }

pub returns-clause-event : goal.returns-clause-event
returns-clause-event c = λ e w can fits kept. kept_event (laws c) e w can fits kept

pub returns-clause-events : goal.returns-clause-events
returns-clause-events c = λ es w can fits kept. kept_events (laws c) es w can fits kept
