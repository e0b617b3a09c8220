use Rattle.std.proofs.Common.{◌≡◌, ◌++◌, drop}
use Rattle.world_core.specs.Ticks.{step_events}
use Rattle.link_capture.proofs.ticks.step_events.Given as goal

abbrev pub invariant-loop-made : goal.invariant-loop-made
invariant-loop-made l = l.events.items ++ step_events (drop l.made-index l.steps) ≡ step_events l.steps
