use Rattle.mrp_participant.proofs.Idle.{still_is_silent}
use Rattle.mrp_participant.proofs.laws.still_is_silent.Goals as goal

pub returns : goal.returns
returns g c = λ s still. still_is_silent s still
