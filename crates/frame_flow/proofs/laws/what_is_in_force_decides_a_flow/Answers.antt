use Rattle.frame_flow.proofs.SayingLemmas.{flow-stays}
use Rattle.frame_flow.proofs.laws.what_is_in_force_decides_a_flow.Goals as goal

pub returns : goal.returns
returns c s changes flows sound some one other same is = flow-stays s (c.ports.ensures s.tree sound) changes flows some one other same is
