use Rattle.mrp_participant.proofs.Duties.{still-held}
use Rattle.mrp_participant.proofs.duty_laws.stillness_registers_what_is_declared.Goals as goal

pub returns : goal.returns
returns g c = λ near far sound near_still far_still met k. still-held g.A.Key.Ord.cmp near far sound near_still far_still met k
