use Rattle.mrp_participant.specs.{after, is_active, takes}
use Rattle.mrp_participant.proofs.StateLemmas.{one-sent}
use Rattle.mrp_participant.proofs.laws.each_key_in_what_is_sent.Goals as goal

pub returns : goal.returns
returns g c = λ s now are k. one-sent g.met.A.Key.Ord.total (is_active s.leave_all)
    (takes g.A.MrpApp.base g.A.MrpApp.octets g.A.Key.Ord.cmp s) (after now s.leave_time) s.rows are.0 k
