use Rattle.std.proofs.Common.{◌≡◌, map, take}
use Rattle.frame_flow.proofs.levels.no_flows.Given as goal

abbrev pub invariant-loop-place : goal.invariant-loop-place
invariant-loop-place l = map (λ x. x.at) l.flows.items ≡ map (λ x. x.at) (take l.place-index l.places)
