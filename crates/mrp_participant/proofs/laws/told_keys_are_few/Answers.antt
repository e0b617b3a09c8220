use Rattle.mrp_participant.specs.{key_of, leave_is_due, after}
use Rattle.mrp_participant.proofs.Few.{filter-fewer, told_few}
use Rattle.mrp_participant.proofs.laws.told_keys_are_few.Goals as goal

pub returns-clause-receive : goal.returns-clause-receive
returns-clause-receive g c = λ s now leave_all events are.
    told_few g.met.A.Key.Ord.total g.met.A.MrpApp.one_key g.A.Content.PartialEq.eq g.met.A.Content.Eq.laws
    (after now s.leave_time) leave_all events s.rows are

pub returns-clause-due : goal.returns-clause-due
returns-clause-due g c = λ s now. filter-fewer (leave_is_due now.0) key_of s.rows
