use Rattle.mrp_participant.specs.{after, is_active, takes}
use Rattle.mrp_participant.proofs.{Transitions.AreRows-declare, Transitions.AreRows-withdraw, Transitions.AreRows-leave, Transitions.AreRows-receive, Transitions.AreRows-due, Transitions.AreRows-periodic, Transitions.AreRows-filter_mapped, Sendings.sent-keeps}
use Rattle.mrp_participant.proofs.laws.rows_stay_rows.Goals as goal

pub returns-clause-declare : goal.returns-clause-declare
returns-clause-declare g c = λ s key content are. AreRows-declare g.met.A.Key.Ord.total g.A.Content.PartialEq.eq key content s.rows are

pub returns-clause-withdraw : goal.returns-clause-withdraw
returns-clause-withdraw g c = λ s key are. AreRows-withdraw g.met.A.Key.Ord.total key s.rows are

pub returns-clause-leave_due : goal.returns-clause-leave_due
returns-clause-leave_due g c = λ s key are. AreRows-leave g.met.A.Key.Ord.total key s.rows are

pub returns-clause-receive : goal.returns-clause-receive
returns-clause-receive g c = λ s now leave_all events are. AreRows-receive g.met.A.Key.Ord.total (after now s.leave_time) leave_all events s.rows are

pub returns-clause-due : goal.returns-clause-due
returns-clause-due g c = λ s now are. AreRows-due g.A.Key.Ord.cmp now s are

pub returns-clause-leaveall_due : goal.returns-clause-leaveall_due
returns-clause-leaveall_due g c = λ s now are. are

pub returns-clause-periodic_due : goal.returns-clause-periodic_due
returns-clause-periodic_due g c = λ s are. AreRows-periodic g.A.Key.Ord.cmp s.rows are

pub returns-clause-send : goal.returns-clause-send
returns-clause-send g c = λ s now are.
    AreRows-filter_mapped g.A.Key.Ord.cmp _ (sent-keeps (is_active s.leave_all)
    (takes g.A.MrpApp.base g.A.MrpApp.octets g.A.Key.Ord.cmp s) (after now s.leave_time)) s.rows are
