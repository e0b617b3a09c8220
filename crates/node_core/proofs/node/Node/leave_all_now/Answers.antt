use Rattle.node_core.proofs.Steps.{state_of, streams_left_all, vlans_left_all}
use Rattle.node_core.proofs.node.Node.leave_all_now.Goals as goal

pub invariant_of-self : goal.invariant_of-self
invariant_of-self c =
    vlans_left_all c.every_step_keeps_a_node_proper.ensures c.args.port _ c.args.self.now.state (state_of c.self.view_is) c.requires c.self.invariant _ c.leave_all_vlans.ensures.after

pub invariant_of-self-in-Msrp : goal.invariant_of-self-in-Msrp
invariant_of-self-in-Msrp c =
    streams_left_all c.every_step_keeps_a_node_proper.ensures c.args.port _ c.args.self.now.state (state_of c.self.view_is) c.requires c.self.invariant _ c.leave_all_streams.ensures.after
