use Rattle.mrp_participant.proofs.EachKey.{each-declare, each-withdraw, each-leave}
use Rattle.mrp_participant.proofs.laws.one_key_changes.Goals as goal

pub returns-clause-declare : goal.returns-clause-declare
returns-clause-declare g c = λ s key content are. each-declare g.met.A.Key.Ord.total g.A.Content.PartialEq.eq key content s.rows are

pub returns-clause-withdraw : goal.returns-clause-withdraw
returns-clause-withdraw g c = λ s key are. each-withdraw g.met.A.Key.Ord.total key s.rows are

pub returns-clause-leave_due : goal.returns-clause-leave_due
returns-clause-leave_due g c = λ s key are. each-leave g.met.A.Key.Ord.total key s.rows are
