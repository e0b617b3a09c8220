use Rattle.mrp_participant.proofs.EachKey.{each-receive}
use Rattle.mrp_participant.specs.{after}
use Rattle.mrp_participant.proofs.laws.each_key_after_receive.Goals as goal

pub returns : goal.returns
returns g c = λ s now leave_all events are k. each-receive g.met.A.Key.Ord.total (after now s.leave_time) leave_all events s.rows are k
