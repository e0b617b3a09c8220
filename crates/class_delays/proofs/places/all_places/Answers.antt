use Rattle.std.proofs.Common.{arith}
use Rattle.frame_flow.specs.Copies.{places_of_link}
use Rattle.frame_flow.proofs.ListFacts.{flat-range-push}
use Rattle.std.proofs.lemmas.Grind.{common_steps}
use Rattle.class_delays.proofs.places.all_places.Goals as goal

pub loop-n-preserved : goal.loop-n-preserved
loop-n-preserved c =
    let more = flat-range-push (places_of_link c.args.tree.now.links c.args.rates.now) 1 c.loop-n.n in
    grind (arith, common_steps, more)
