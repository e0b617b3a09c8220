use Rattle.node_core.proofs.Steps.{key_left, state_of, vid_left}
use Rattle.node_core.proofs.node.Node.leave_now.Goals as goal

pub invariant_of-self : goal.invariant_of-self
invariant_of-self c =
    vid_left c.every_step_keeps_a_node_proper.ensures c.args.port _ c.args.self.now.state (state_of c.self.view_is) c.requires c.self.invariant _ _ _
    c.left_vid.ensures.ok c.left_vid.ensures.err

pub invariant_of-self-in-Srp : goal.invariant_of-self-in-Srp
invariant_of-self-in-Srp c =
    key_left c.every_step_keeps_a_node_proper.ensures c.args.port _ c.args.self.now.state (state_of c.self.view_is) c.requires c.self.invariant _ _ _ c.left_key.ensures.ok c.left_key.ensures.err
