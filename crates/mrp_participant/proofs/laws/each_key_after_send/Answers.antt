use Rattle.mrp_participant.proofs.{EachKey.each-kept, Sendings.sent-keeps}
use Rattle.mrp_participant.specs.{after, is_active, takes}
use Rattle.mrp_participant.proofs.laws.each_key_after_send.Goals as goal

pub returns : goal.returns
returns g c = λ s now are k. each-kept g.met.A.Key.Ord.total _
    (sent-keeps (is_active s.leave_all) (takes g.A.MrpApp.base g.A.MrpApp.octets g.A.Key.Ord.cmp s)
    (after now s.leave_time)) s.rows are.0 k
