use Rattle.std.proofs.Common.{◌≡◌, map}
use Rattle.std.specs.List.{range_with_len}
use Rattle.scenario_generator.specs.{drawn, state_after}
use Rattle.scenario_generator.proofs.draws.Draws.new.Given as goal

abbrev pub invariant-loop : goal.invariant-loop
invariant-loop l = (l.state ≡ state_after l.fn.number l.counter) × (l.halves.items ≡ map (drawn l.fn.number) (range_with_len 0 l.counter))
