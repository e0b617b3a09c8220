use Rattle.std.proofs.Common.{◌≡◌, take}
use Rattle.std.specs.Prelude.{filter_map}
use Rattle.class_delays.specs.{delays_at}
use Rattle.class_delays.proofs.order.in_order.Given as goal

abbrev pub invariant-loop-place : goal.invariant-loop-place
invariant-loop-place l = l.listed.items ≡ filter_map (λ x. delays_at l.ports x.at) (take l.place-index l.places)
