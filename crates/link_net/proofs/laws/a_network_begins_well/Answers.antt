use Rattle.link_net.proofs.Beginnings.{begins}
use Rattle.link_net.proofs.laws.a_network_begins_well.Goals as goal

pub returns : goal.returns
returns g c = λ tree nodes new. begins g.N.LinkNode.meaning c.keeps_laws.ensures c.ports.ensures tree nodes new
