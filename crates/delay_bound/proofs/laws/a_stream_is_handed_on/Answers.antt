use Rattle.delay_bound.proofs.FrameLemmas.{handed_on}
use Rattle.delay_bound.proofs.laws.a_stream_is_handed_on.Goals as goal

pub returns : goal.returns
returns c = handed_on
