use Rattle.world_core.proofs.LinkPorts.{link-port}
use Rattle.network_laws.proofs.streams.refusal_by.Goals as goal

pub refusal_of_node-requires : goal.refusal_of_node-requires
refusal_of_node-requires c = link-port c.args.world.now c.keeps.ensures c.args.at c.requires c.node.result.now.state c.node.ensures
