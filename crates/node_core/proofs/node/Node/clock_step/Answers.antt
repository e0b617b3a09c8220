use Rattle.std.proofs.Common.{◌<◌, ◌^◌, sym, subst}
use Rattle.node_core.specs.{NodeState}
use Rattle.node_core.proofs.Steps.{clocked, of_streams, state_of}
use Rattle.node_core.proofs.node.Node.clock_step.Goals as goal

-- after want of memory the node is as it was
pub invariant_of-self : goal.invariant_of-self
invariant_of-self c =
    let before : NodeState
    = record {
      kind = c.self.inside.kind;
      bridge = c.self.inside.bridge;
      clock = c.self.inside.clock;
      vlans = c.self.inside.mvrp.state;
      streams = c.self.inside.msrp.state;
      inboxes = c.self.inside.inboxes.items;
      outboxes = c.self.inside.outboxes.items;
    } in
    of_streams before _ before.streams c.in_err-go_on.ensures.err c.self.invariant

pub invariant_of-self-2 : goal.invariant_of-self-2
invariant_of-self-2 c =
    clocked _ _ c.in_ok-go_on.ensures.ok c.every_step_keeps_a_node_proper.ensures
    (subst (λ (s : NodeState). s.clock.0 < 2 ^ 61) (sym (state_of c.self.view_is)) c.requires) c.self.invariant
