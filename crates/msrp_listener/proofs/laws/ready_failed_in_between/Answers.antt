use Rattle.msrp_listener.proofs.MergingLemmas.{ready_failed_declared}
use Rattle.msrp_listener.proofs.laws.ready_failed_in_between.Goals as goal

pub returns : goal.returns
returns c = ready_failed_declared
