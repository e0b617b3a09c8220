use Rattle.mrp_participant.proofs.StateLemmas.{each-due}
use Rattle.mrp_participant.proofs.laws.each_key_after_due.Goals as goal

pub returns : goal.returns
returns g c = λ s now are k. each-due g.met.A.Key.Ord.total now s are.0 k
