use Rattle.mrp_participant.specs.{after, is_active, takes}
use Rattle.mrp_participant.proofs.SentEvents.{taken-says, not_taken-says}
use Rattle.mrp_participant.proofs.laws.what_a_row_says.Goals as goal

pub returns-clause-taken : goal.returns-clause-taken
returns-clause-taken g c = λ s now r h. taken-says (is_active s.leave_all) _ (after now s.leave_time) r h

pub returns-clause-not_taken : goal.returns-clause-not_taken
returns-clause-not_taken g c = λ s now r h. not_taken-says (is_active s.leave_all)
    (takes g.A.MrpApp.base g.A.MrpApp.octets g.A.Key.Ord.cmp s r) (after now s.leave_time) r h
