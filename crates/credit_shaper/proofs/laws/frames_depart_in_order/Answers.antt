use Rattle.credit_shaper.proofs.DepartureLemmas.{in_order}
use Rattle.credit_shaper.proofs.laws.frames_depart_in_order.Goals as goal

pub returns : goal.returns
returns c = in_order
