use Rattle.std.proofs.Common.{◌≡◌, ◌++◌, drop}
use Rattle.std.specs.Prelude.{flat_map}
use Rattle.srpnet.specs.{bound_line}
use Rattle.srpnet.proofs.bounds.text.put_each.Given as goal

abbrev pub invariant-loop-flow : goal.invariant-loop-flow
invariant-loop-flow l =
    l.out.items ++ flat_map (bound_line l.scenario) (drop l.flow-index l.flows)
    ≡ l.initial.out.items ++ flat_map (bound_line l.scenario) l.flows
