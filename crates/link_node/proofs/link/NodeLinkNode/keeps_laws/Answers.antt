use Rattle.link_node.proofs.NodeLaws.{has_laws}
use Rattle.link_node.proofs.link.NodeLinkNode.keeps_laws.Goals as goal

pub returns : goal.returns
returns g c = has_laws g.A.LinkApp.words c.laws.ensures
