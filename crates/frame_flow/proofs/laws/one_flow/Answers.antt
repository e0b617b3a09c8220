use Rattle.frame_flow.proofs.LevelLemmas.{one_flow}
use Rattle.frame_flow.proofs.laws.one_flow.Goals as goal

pub returns : goal.returns
returns c s one other sound is_one is_other = one_flow s (c.ports.ensures s.tree sound) one other is_one is_other
