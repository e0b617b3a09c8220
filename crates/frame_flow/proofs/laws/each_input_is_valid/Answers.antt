use Rattle.frame_flow.proofs.LawLemmas.{inputs_valid}
use Rattle.frame_flow.proofs.laws.each_input_is_valid.Goals as goal

pub returns : goal.returns
returns c s flows given is = inputs_valid s given flows is
