use Rattle.frame_flow.specs.declared.place.Place.{Place}
use Rattle.class_delays.specs.{delays_at}
use Rattle.class_delays.proofs.Orders.{in-more}
use Rattle.class_delays.proofs.order.in_order.Goals as goal

pub loop-place-preserved : goal.loop-place-preserved
loop-place-preserved c =
    in-more (λ (x : Place). delays_at c.args.ports.now x.at) c.args.places.now c.loop-place.place-index _ _ _ c.loop-place-test.true c.loop-place.invariant c.in_ok-add_found.ensures
