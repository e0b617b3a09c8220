use Rattle.msrp_listener.proofs.MergingLemmas.{asking_failed_declared}
use Rattle.msrp_listener.proofs.laws.asking_failed_where_no_port_can.Goals as goal

pub returns : goal.returns
returns c = asking_failed_declared
