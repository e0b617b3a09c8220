use Rattle.msrp_listener.proofs.MergingLemmas.{none_declared}
use Rattle.msrp_listener.proofs.laws.none_without_listeners.Goals as goal

pub returns : goal.returns
returns c = none_declared
