use Rattle.std.proofs.Common.{◌≡◌, ◌++◌, map}
use Rattle.std.specs.List.{range_with_len}
use Rattle.scenario_generator.specs.{declaration}
use Rattle.scenario_generator.proofs.events.push_declarations.Given as goal

abbrev pub invariant-loop-i : goal.invariant-loop-i
invariant-loop-i l = l.events.items ≡ l.initial.events.items ++ map (declaration l.fn.draws) (range_with_len 1 l.i)
