use Rattle.mmrp.specs.{nodes_from}
use Rattle.mmrp.proofs.laws.a_network_begins_well.Goals as goal

pub returns : goal.returns
returns c = λ ticks tree leave_time periodic nodes links rules.
    c.a_network_begins_well.ensures tree (nodes_from leave_time periodic links 1 nodes) (c.file_nodes_are_new.ensures ticks tree leave_time periodic nodes links rules)
