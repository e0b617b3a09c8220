use Rattle.world_core.proofs.Whole.{kept_of, whole_of}
use Rattle.world_core.proofs.laws.what_is_kept_is_whole.Goals as goal

pub returns-clause-whole : goal.returns-clause-whole
returns-clause-whole c = λ w kept. whole_of w kept

pub returns-clause-kept : goal.returns-clause-kept
returns-clause-kept c = λ w whole proper. kept_of w whole proper
