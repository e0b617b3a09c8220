use Rattle.std.proofs.Common.{◌≡◌, ℕ, [], map}
use Rattle.std.specs.List.{range_with_len}
use Rattle.frame_flow.specs.Copies.{port_of}
use Rattle.world_core.proofs.history.empty_ports.Given as goal

abbrev pub invariant-loop : goal.invariant-loop
invariant-loop l = (x : ℕ) → l.ports.items ≡ map (λ _. []) (map (port_of x) (range_with_len 1 l.counter))
