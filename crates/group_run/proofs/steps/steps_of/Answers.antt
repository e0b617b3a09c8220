use Rattle.std.proofs.Common.{[]}
use Rattle.group_run.specs.{node_steps}
use Rattle.group_run.proofs.Listed.{extend-more}
use Rattle.group_run.proofs.steps.steps_of.Goals as goal

pub loop-x-preserved : goal.loop-x-preserved
loop-x-preserved c =
    extend-more (λ x. node_steps c.args.net.now (record { 0 = x })) c.loop-x.x [] _ _ c.loop-x.invariant c.in_ok-push_node.ensures
