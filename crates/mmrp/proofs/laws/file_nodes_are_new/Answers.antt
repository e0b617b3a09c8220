use Rattle.mmrp.proofs.Beginnings.{new_nodes}
use Rattle.mmrp.proofs.laws.file_nodes_are_new.Goals as goal

pub returns : goal.returns
returns c = new_nodes
