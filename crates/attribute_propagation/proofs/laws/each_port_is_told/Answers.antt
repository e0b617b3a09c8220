use Rattle.attribute_propagation.proofs.PortsLemmas.{told}
use Rattle.attribute_propagation.proofs.laws.each_port_is_told.Goals as goal

pub returns : goal.returns
returns g c = told g.K.Ord.cmp g.met.K.Ord.total
