use Rattle.std.proofs.Common.{◌≡◌, map, take}
use Rattle.std.specs.Prelude.{filter}
use Rattle.frame_flow.specs.{is_port}
use Rattle.frame_flow.proofs.force.changes_at.Given as goal

abbrev pub invariant-loop-c : goal.invariant-loop-c
invariant-loop-c l = map (λ c. c.now) l.found.items ≡ filter (λ c. is_port c.at l.at) (take l.c-index l.changes)
