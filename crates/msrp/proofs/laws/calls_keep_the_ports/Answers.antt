use Rattle.std.proofs.Common.{false}
use Rattle.mrp_participant.specs.State.{due_state, leave_all_state, left_keys, left_state, periodic_state}
use Rattle.msrp.specs.Part.{Part}
use Rattle.msrp.specs.{key_cmp, received_part, sent_part, told_by_receipt, left_key}
use Rattle.msrp.proofs.Setups.{same_count, setups-clocked, setups-replaced, setups-requested, setups-retold, setups-settled}
use Rattle.msrp.proofs.laws.calls_keep_the_ports.Goals as goal

pub returns-clause-receive : goal.returns-clause-receive
returns-clause-receive c = λ now at pdu side. setups-retold at (received_part now pdu) (told_by_receipt now pdu) side

pub returns-clause-due : goal.returns-clause-due
returns-clause-due c = λ now at side. setups-retold at (due_state now) (left_keys now) side

pub returns-clause-leave_now : goal.returns-clause-leave_now
returns-clause-leave_now c = λ at key side. setups-retold at (left_state key_cmp key) (left_key key) side

pub returns-clause-leaveall_now : goal.returns-clause-leaveall_now
returns-clause-leaveall_now c = λ now at side. setups-replaced at (leave_all_state now) side

pub returns-clause-periodic_now : goal.returns-clause-periodic_now
returns-clause-periodic_now c = λ at side. setups-replaced at periodic_state side

pub returns-clause-spoil : goal.returns-clause-spoil
returns-clause-spoil c = λ at side. setups-replaced at (λ (s : Part). record s { sound = false }) side

pub returns-clause-send : goal.returns-clause-send
returns-clause-send c = λ now at side. setups-replaced at (sent_part now) side

pub returns-clause-settle : goal.returns-clause-settle
returns-clause-settle c = setups-settled

pub returns-clause-request : goal.returns-clause-request
returns-clause-request c = setups-requested

pub returns-clause-clock : goal.returns-clause-clock
returns-clause-clock c = setups-clocked

pub returns-clause-count : goal.returns-clause-count
returns-clause-count c = same_count
