use Rattle.std.proofs.Common.{◌≡◌, ◌++◌, map, drop}
use Rattle.world_core.specs.declared.events.WorldEvent.TheVariants.{Port}
use Rattle.node_core.specs.declared.types.NodeStep.{NodeStep}
use Rattle.link_capture.proofs.ticks.put_steps.Given as goal

abbrev pub invariant-loop-st : goal.invariant-loop-st
invariant-loop-st l =
    l.events.items ++ map (λ (st : NodeStep). Port l.node st.port st.step) (drop l.st-index l.steps) ≡ l.initial.events.items ++ map (λ (st : NodeStep). Port l.node st.port st.step) l.steps
