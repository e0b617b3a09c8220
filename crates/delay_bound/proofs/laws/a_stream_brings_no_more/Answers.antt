use Rattle.delay_bound.proofs.FrameLemmas.{brings_no_more}
use Rattle.delay_bound.proofs.laws.a_stream_brings_no_more.Goals as goal

pub returns : goal.returns
returns c = brings_no_more
