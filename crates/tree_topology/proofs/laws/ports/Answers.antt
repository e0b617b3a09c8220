use Rattle.tree_topology.proofs.Propagation.{port-laws}
use Rattle.tree_topology.proofs.laws.ports.Goals as goal

pub returns : goal.returns
returns c = port-laws
