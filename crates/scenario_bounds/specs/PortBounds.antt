-- What holds of class B at a port of a scenario's flow.
use Rattle.std.specs.Prelude.{ℕ, ◌≤◌}
use Rattle.class_b_bound.specs.declared.bound.BoundB.{BoundB}
use Rattle.class_b_bound.specs.{Bound.HasCaps, Bound.bound_of, Waits.IsLongestWait, Waits.IsWorstWait, Waits.worst_wait_of, Window.IsWindowBWithin}
use Rattle.frame_flow.specs.declared.result.PortFlow.{PortFlow}
use Rattle.topology_file.specs.Plan.{Plan}
use Rattle.scenario_bounds.specs.Caps.{caps_at}

-- class B's bound at a port, by its rate and its caps
abbrev pub bound_at : Plan → PortFlow → BoundB
bound_at plan x = bound_of x.input.rate (caps_at plan x.at).class_a (caps_at plan x.at).both

-- at a port class B stays within its bound: the slopes keep the port's caps; over every window of
-- the port's bit times class B has the line for no more than the area of its idleSlope plus
-- hiCredit minus loCredit; and the most bit times in a row in which it was kept waiting are the
-- longest wait of a frame, with credit at the head of its queue, and at most the bound's
pub record IsWithinBoundB (plan : Plan) (x : PortFlow) : Type 0 where
  pub caps : HasCaps x.input (caps_at plan x.at).class_a (caps_at plan x.at).both
  pub windows : (a b : ℕ) → a ≤ b → IsWindowBWithin x.input (bound_at plan x) a b
  pub longest : IsWorstWait x.input (worst_wait_of x.input)
  pub frame : IsLongestWait x.input (worst_wait_of x.input)
  pub wait : worst_wait_of x.input ≤ (bound_at plan x).wait
