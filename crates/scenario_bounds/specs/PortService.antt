-- What each class gets at a port of a scenario's flow (IEEE Std 802.1Q-2018, 8.6.8.2 and Annex L in
-- outline; for every flow, own).
use Rattle.std.specs.Prelude.{ℕ, ◌≤◌}
use Rattle.srp_base.specs.Bandwidth.{bits_of}
use Rattle.credit_shaper.specs.declared.{shaper.Traffic.TheVariants.A, shaper.Traffic.TheVariants.B}
use Rattle.credit_shaper.specs.Bounds.{hi_credit, lo_credit}
use Rattle.class_service.specs.{Class.IsBusy, Service.IsServed, Service.IsServedB}
use Rattle.frame_flow.specs.declared.result.PortFlow.{PortFlow}
use Rattle.topology_file.specs.Plan.{Plan}
use Rattle.scenario_bounds.specs.{Caps.caps_at, PortBounds.bound_at}

-- a class that has something to send at a port gets its bandwidth: over bit times in each of which
-- a frame of it waits or is on the line, the area of its idleSlope is at most the rate times the
-- bits that it has of the line, plus hiCredit minus loCredit: for class A those of the port's cap,
-- as its windows keep them, and for class B those of its bound at the port
pub record GetsBandwidth (plan : Plan) (x : PortFlow) : Type 0 where
  pub class_a : (a b : ℕ) → a ≤ b → IsBusy x.input A a b
      → IsServed x.input A (lo_credit (bits_of x.input.rate) 0) (hi_credit (caps_at plan x.at).class_a) a b
  pub class_b : (a b : ℕ) → a ≤ b → IsBusy x.input B a b → IsServedB x.input (bound_at plan x) a b
