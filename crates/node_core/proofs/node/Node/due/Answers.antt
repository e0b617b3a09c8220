use Rattle.node_core.proofs.Steps.{both_due, state_of}
use Rattle.node_core.proofs.node.Node.due.Goals as goal

pub invariant_of-self : goal.invariant_of-self
invariant_of-self c =
    let now = c.due_of.ensures in
    both_due c.every_step_keeps_a_node_proper.ensures c.args.port _ c.args.self.now.state (state_of c.self.view_is) c.requires c.self.invariant _ _ _ now.ok_vlans
    now.ok_streams now.err_vlans now.err_streams
