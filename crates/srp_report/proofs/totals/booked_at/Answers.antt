use Rattle.world_core.proofs.LinkPorts.{link-port}
use Rattle.srp_report.proofs.totals.booked_at.Goals as goal

pub bookings-requires : goal.bookings-requires
bookings-requires c = link-port c.args.world.now c.keeps.ensures c.args.at c.requires c.node-node.result.now.state c.node-node.ensures
