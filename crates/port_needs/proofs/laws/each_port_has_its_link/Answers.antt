use Rattle.port_needs.proofs.LinkLemmas.{each_has_link}
use Rattle.port_needs.proofs.laws.each_port_has_its_link.Goals as goal

pub returns : goal.returns
returns c plan rules = each_has_link plan rules
