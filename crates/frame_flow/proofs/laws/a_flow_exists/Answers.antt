use Rattle.frame_flow.proofs.LevelLemmas.{some_flow}
use Rattle.frame_flow.proofs.laws.a_flow_exists.Goals as goal

pub returns : goal.returns
returns c s sound = some_flow s (c.ports.ensures s.tree sound)
