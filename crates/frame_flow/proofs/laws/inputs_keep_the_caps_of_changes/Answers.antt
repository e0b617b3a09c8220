use Rattle.frame_flow.proofs.CapLemmas.{caps_a-kept, caps-kept}
use Rattle.frame_flow.proofs.laws.inputs_keep_the_caps_of_changes.Goals as goal

pub returns-clause-class_a : goal.returns-clause-class_a
returns-clause-class_a c = caps_a-kept

pub returns-clause-both : goal.returns-clause-both
returns-clause-both c = caps-kept
