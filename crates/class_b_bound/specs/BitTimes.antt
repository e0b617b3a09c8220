-- The laws of a bit time that the bounds stand on, those of credit_shaper. No public contract names
-- them.
use Rattle.std.specs.Prelude.{◌≡◌, ℕ, suc, ◌-◌, ◌≤◌, pos}
use Rattle.srp_base.specs.Bandwidth.{bits_of}
use Rattle.credit_shaper.specs.declared.{shaper.Traffic.Traffic, shaper.Traffic.TheVariants.A, shaper.Traffic.TheVariants.B, port.PortInput.PortInput}
use Rattle.credit_shaper.specs.{Credit.credit_after, Port.IsPortInput, Bounds.credit_a_at, Bounds.credit_b_at, Bounds.slope_a_at, Bounds.slope_b_at, Bounds.is_on_line, Bounds.KeepCaps, Bounds.AreSlopesWithin, Steps.is_waiting, Steps.was_on_line, Steps.bits_left, Steps.bits_ahead, Steps.IsOneOfThree}

-- what is known of each bit time, in one record
pub record BitLaws : Type 0 where
  pub three : (input : PortInput) (t : ℕ) → IsPortInput input → IsOneOfThree input t
  pub line_first : (input : PortInput) → bits_left input 0 ≡ 0
  pub line_next : (input : PortInput) (traffic : Traffic) (t : ℕ) → was_on_line input traffic (suc t) ≡ is_on_line input traffic t
  pub left_next : (input : PortInput) (t : ℕ) → bits_left input (suc t) ≡ bits_ahead input t - 1
  pub left_most : (input : PortInput) (t : ℕ) → IsPortInput input → bits_left input t ≤ 12335
  pub first_a : (input : PortInput) → credit_a_at input 0 ≡ pos 0
  pub first_b : (input : PortInput) → credit_b_at input 0 ≡ pos 0
  pub class_a : (input : PortInput) (t : ℕ) → credit_a_at input (suc t) ≡ credit_after (bits_of input.rate) (slope_a_at input t) (is_on_line input A t) (is_waiting input A t) (credit_a_at input t)
  pub class_b : (input : PortInput) (t : ℕ) → credit_b_at input (suc t) ≡ credit_after (bits_of input.rate) (slope_b_at input t) (is_on_line input B t) (is_waiting input B t) (credit_b_at input t)
  pub caps : (input : PortInput) (cap_a cap_ab t : ℕ) → KeepCaps cap_a cap_ab input.slopes → AreSlopesWithin input cap_a cap_ab t
