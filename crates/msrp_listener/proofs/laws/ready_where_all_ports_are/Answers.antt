use Rattle.msrp_listener.proofs.MergingLemmas.{ready_declared}
use Rattle.msrp_listener.proofs.laws.ready_where_all_ports_are.Goals as goal

pub returns : goal.returns
returns c = ready_declared
