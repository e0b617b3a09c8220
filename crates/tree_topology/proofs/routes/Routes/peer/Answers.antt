use Rattle.tree_topology.proofs.Links.{joined-sym}
use Rattle.tree_topology.proofs.routes.Routes.peer.Goals as goal

pub port_to-requires : goal.port_to-requires
port_to-requires c = joined-sym c.args.self.now.links c.args.at.node.0 c.far_node.result c.far_node.ensures.joined
