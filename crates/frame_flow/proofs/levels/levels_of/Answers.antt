use Rattle.frame_flow.specs.{level_of}
use Rattle.frame_flow.proofs.ListFacts.{pushed-map}
use Rattle.frame_flow.proofs.levels.levels_of.Goals as goal

pub loop-place-preserved : goal.loop-place-preserved
loop-place-preserved c =
    pushed-map (level_of c.args.tree.now) c.args.places.now c.loop-place.place-index _ _ _ _ c.loop-place-test.true c.loop-place.invariant
    c.in_ok-push.ensures.items c.level.ensures
