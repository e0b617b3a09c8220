use Rattle.mrp_participant.proofs.StateLemmas.{none-due}
use Rattle.mrp_participant.proofs.laws.none_due.Goals as goal

pub returns : goal.returns
returns g c = λ s now. none-due now s
