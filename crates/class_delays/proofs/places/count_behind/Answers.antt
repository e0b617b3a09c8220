use Rattle.std.proofs.Common.{arith}
use Rattle.frame_flow.proofs.ListFacts.{count-range-push}
use Rattle.tree_topology.specs.Walk.{is_behind}
use Rattle.std.proofs.lemmas.Grind.{common_steps}
use Rattle.class_delays.proofs.places.count_behind.Goals as goal

pub loop-n-preserved : goal.loop-n-preserved
loop-n-preserved c =
    let more = count-range-push (λ y. is_behind c.args.tree.now.links c.args.at y) c.loop-n.n in
    record { few = omega arith; counted = grind (arith, common_steps, more) }
