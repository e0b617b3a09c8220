use Rattle.node_core.proofs.{ProperSteps.SideLaws, ProperSteps.StreamLaws, ProperSteps.proper-step, laws.every_step_keeps_a_node_proper.Goals.After-what_is_read_belongs_to_its_keys}
use Rattle.node_core.proofs.laws.every_step_keeps_a_node_proper.Goals as goal

vlans : After-what_is_read_belongs_to_its_keys → SideLaws
vlans c = record {
  receive = c.every_call_keeps_a_side_proper.ensures.receive;
  due = c.every_call_keeps_a_side_proper.ensures.due;
  leave_now = c.every_call_keeps_a_side_proper.ensures.leave_now;
  leaveall_now = c.every_call_keeps_a_side_proper.ensures.leaveall_now;
  periodic_now = c.every_call_keeps_a_side_proper.ensures.periodic_now;
  send = c.every_call_keeps_a_side_proper.ensures.send;
  settle = c.settling_and_requests_keep_a_side_proper.ensures.settle;
  request = c.settling_and_requests_keep_a_side_proper.ensures.request;
  reads = c.what_is_read_has_vids.ensures;
  written = c.what_is_sent_is_read.ensures;
}

streams : After-what_is_read_belongs_to_its_keys → StreamLaws
streams c =
    let calls = c.every_call_keeps_a_side_proper-2.ensures in
    let others = c.settling_and_requests_keep_a_side_proper-2.ensures in
    let ports = c.calls_keep_the_ports.ensures in
    let sent = c.what_is_sent_is_read-2.ensures in
    record {
      receive = λ now at pdu side belong fit h. record { proper = calls.receive now at pdu side belong fit h; setups = ports.receive now at pdu side };
      due = λ now at side h. record { proper = calls.due now at side h; setups = ports.due now at side };
      leave_now = λ at key side h. record { proper = calls.leave_now at key side h; setups = ports.leave_now at key side };
      leaveall_now = λ now at side h. record { proper = calls.leaveall_now now at side h; setups = ports.leaveall_now now at side };
      periodic_now = λ at side h. record { proper = calls.periodic_now at side h; setups = ports.periodic_now at side };
      send = λ now at side h. record { proper = calls.send now at side h; setups = ports.send now at side };
      settle = λ at side h. record { proper = others.settle at side h; setups = ports.settle at side };
      request = λ request side fits h. record { proper = others.request request side fits h; setups = ports.request request side };
      clock = λ now side le h. record { proper = others.clock now side le h; setups = ports.clock now side };
      reads = λ octets read is. c.what_is_read_belongs_to_its_keys.ensures octets read ((c.reading_is_the_grammar.ensures.reads octets read).0 is);
      written = sent.written;
      in_range = sent.in_range;
      count = ports.count;
    }

pub returns : goal.returns
returns c = λ event s can fits h. proper-step (vlans c) (streams c) event s can fits h
