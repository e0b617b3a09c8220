use Rattle.world_core.proofs.LinkPorts.{link-port}
use Rattle.srp_report.proofs.registered.put_place.Goals as goal

pub keys-requires : goal.keys-requires
keys-requires c = link-port c.args.world.now c.keeps.ensures c.args.at c.requires c.node-node.result.now.state c.node-node.ensures

pub put_keys-requires : goal.put_keys-requires
put_keys-requires c = link-port c.args.world.now c.keeps.ensures c.args.at c.requires c.node-node.result.now.state c.node-node.ensures

pub bookings-requires : goal.bookings-requires
bookings-requires c = link-port c.args.world.now c.keeps.ensures c.args.at c.requires c.node-node.result.now.state c.node-node.ensures
