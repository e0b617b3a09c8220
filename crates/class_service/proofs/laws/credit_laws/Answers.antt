use Rattle.std.proofs.Common.{◌≡◌, ℕ, suc, refl}
use Rattle.std.specs.Prelude.{pos}
use Rattle.srp_base.specs.Bandwidth.{bits_of}
use Rattle.credit_shaper.specs.declared.{shaper.Traffic.Traffic, port.PortInput.PortInput}
use Rattle.credit_shaper.specs.declared.shaper.Traffic.TheVariants.{A, B, Other}
use Rattle.credit_shaper.specs.{Credit.credit_after, Bounds.is_on_line, Steps.is_waiting}
use Rattle.class_service.specs.{IsClass, credit_at, slope_at}
use Rattle.class_service.proofs.laws.credit_laws.Goals as goal

pub returns : goal.returns
returns c = record { first = first; step = step }
  where
    first : (input : PortInput) (traffic : Traffic) → IsClass traffic → credit_at input traffic 0 ≡ pos 0
    first input A class = c.credits_go_on.ensures.first_a input
    first input B class = c.credits_go_on.ensures.first_b input
    first input Other class = refl

    step : (input : PortInput) (traffic : Traffic) (t : ℕ) → IsClass traffic
        → credit_at input traffic (suc t) ≡ credit_after (bits_of input.rate) (slope_at input traffic t) (is_on_line input traffic t) (is_waiting input traffic t) (credit_at input traffic t)
    step input A t class = c.credits_go_on.ensures.class_a input t
    step input B t class = c.credits_go_on.ensures.class_b input t
    step input Other t class = absurd class
