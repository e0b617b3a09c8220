use Rattle.attribute_propagation.specs.Ports.{place_of}
use Rattle.link_net.proofs.{Keeping.tree_stays, Keeping.clock_stays, Nodes.node_other}
use Rattle.link_net.proofs.laws.what_events_leave_alone.Goals as goal

pub returns-clause-tree : goal.returns-clause-tree
returns-clause-tree g c = tree_stays g.N.LinkNode.meaning

pub returns-clause-clock : goal.returns-clause-clock
returns-clause-clock g c = clock_stays g.N.LinkNode.meaning

pub returns-clause-nodes : goal.returns-clause-nodes
returns-clause-nodes g c = λ p step n w ne. node_other p.node (λ s. (g.N.LinkNode.meaning.stepped w.clock step (place_of p.port) s).0) w n ne
