use Rattle.world_core.proofs.LinkPorts.{link-port}
use Rattle.wishes.proofs.way.is_registered.Goals as goal

pub registrar-requires : goal.registrar-requires
registrar-requires c = link-port c.args.world.now c.keeps.ensures c.args.at c.requires c.node.result.now.state c.node.ensures
