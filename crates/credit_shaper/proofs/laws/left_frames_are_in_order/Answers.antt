use Rattle.credit_shaper.proofs.DepartureLemmas.{left_order}
use Rattle.credit_shaper.proofs.laws.left_frames_are_in_order.Goals as goal

pub returns : goal.returns
returns c = left_order
