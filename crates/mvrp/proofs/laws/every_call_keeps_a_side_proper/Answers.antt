use Rattle.mvrp.proofs.laws.every_call_keeps_a_side_proper.Goals as goal

pub returns-clause-receive : goal.returns-clause-receive
returns-clause-receive c = λ now at pdu side vids proper. c.every_call_keeps_a_side_proper.ensures.receive now at pdu.leave_all pdu.events side vids proper

pub returns-clause-due : goal.returns-clause-due
returns-clause-due c = c.every_call_keeps_a_side_proper.ensures.due

pub returns-clause-leave_now : goal.returns-clause-leave_now
returns-clause-leave_now c = c.every_call_keeps_a_side_proper.ensures.leave_now

pub returns-clause-leaveall_now : goal.returns-clause-leaveall_now
returns-clause-leaveall_now c = c.every_call_keeps_a_side_proper.ensures.leaveall_now

pub returns-clause-periodic_now : goal.returns-clause-periodic_now
returns-clause-periodic_now c = c.every_call_keeps_a_side_proper.ensures.periodic_now

pub returns-clause-spoil : goal.returns-clause-spoil
returns-clause-spoil c = c.every_call_keeps_a_side_proper.ensures.spoil

pub returns-clause-send : goal.returns-clause-send
returns-clause-send c = c.every_call_keeps_a_side_proper.ensures.send
