use Rattle.node_core.proofs.Steps.{state_of, streams_periodic, vlans_periodic}
use Rattle.node_core.proofs.node.Node.periodic_now.Goals as goal

pub invariant_of-self : goal.invariant_of-self
invariant_of-self c = vlans_periodic c.every_step_keeps_a_node_proper.ensures c.args.port _ c.args.self.now.state (state_of c.self.view_is) c.requires c.self.invariant _ c.periodic_vlans.ensures.after

pub invariant_of-self-in-Msrp : goal.invariant_of-self-in-Msrp
invariant_of-self-in-Msrp c =
    streams_periodic c.every_step_keeps_a_node_proper.ensures c.args.port _ c.args.self.now.state (state_of c.self.view_is) c.requires c.self.invariant _ c.periodic_streams.ensures.after
