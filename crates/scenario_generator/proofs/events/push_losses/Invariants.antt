use Rattle.std.proofs.Common.{◌≡◌, ◌++◌, map}
use Rattle.std.specs.List.{range_with_len}
use Rattle.scenario_generator.specs.{loss}
use Rattle.scenario_generator.proofs.events.push_losses.Given as goal

abbrev pub invariant-loop-n : goal.invariant-loop-n
invariant-loop-n l = l.events.items ≡ l.initial.events.items ++ map (loss l.fn.draws) (range_with_len 0 l.n)
