use Rattle.frame_flow.proofs.OriginLemmas.{flow-of}
use Rattle.frame_flow.proofs.laws.a_flow_is_that_of_its_place.Goals as goal

pub returns : goal.returns
returns c s flows p x is e = flow-of s flows is p x e
