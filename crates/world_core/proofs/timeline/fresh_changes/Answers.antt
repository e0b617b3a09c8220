use Rattle.frame_flow.specs.Force.{changes_at}
use Rattle.world_core.specs.{force_at, lacking}
use Rattle.world_core.proofs.Noting.{more_of_node}
use Rattle.world_core.proofs.timeline.fresh_changes.Goals as goal

pub loop-x-preserved : goal.loop-x-preserved
loop-x-preserved c =
    let w = c.args.world.now in
    let cs = c.args.changes.now in
    more_of_node (λ p. lacking c.args.tick p (force_at p w) (changes_at cs p)) w.tree.links c.loop-x.x c.loop-x.fresh.items c.add_of_node.new.fresh.items c.loop-x.invariant c.in_ok-add_of_node.ensures
