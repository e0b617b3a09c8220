-- The laws of a bit time that these laws stand on, those of credit_shaper. No public contract names
-- them.
use Rattle.std.specs.Prelude.{◌≡◌, ℕ, suc, ◌-◌, ◌<◌, ◌≤◌, pos, List, filter, All, AllPairs}
use Rattle.srp_base.specs.Bandwidth.{bits_of}
use Rattle.credit_shaper.specs.declared.{shaper.Traffic.Traffic, port.Arrival.Arrival, port.PortInput.PortInput}
use Rattle.credit_shaper.specs.{Credit.credit_after, Port.IsPortInput, Port.is_of, Port.arrivals_at, Trace.port_at, Bounds.slope_a_at, Bounds.slope_b_at, Bounds.is_on_line, Steps.is_waiting, Steps.was_on_line, Steps.bits_left, Steps.bits_ahead, Steps.IsOneOfThree, Departures.sent_of, Departures.left_of, Departures.departs_as, Departures.DepartInOrder, Departures.AgreeBefore, Departures.arrivals_before, Departures.started_before}
use Rattle.class_service.specs.Class.{IsClass, credit_at, slope_at}

-- each class's credit is 0 at first and goes on by its step
pub record CreditLaws : Type 0 where
  pub first : (input : PortInput) (traffic : Traffic) → IsClass traffic → credit_at input traffic 0 ≡ pos 0
  pub step : (input : PortInput) (traffic : Traffic) (t : ℕ) → IsClass traffic → credit_at input traffic (suc t) ≡ credit_after (bits_of input.rate) (slope_at input traffic t) (is_on_line input traffic t) (is_waiting input traffic t) (credit_at input traffic t)

-- what is known of the line in each bit time
pub record LineLaws : Type 0 where
  pub three : (input : PortInput) (t : ℕ) → IsPortInput input → IsOneOfThree input t
  pub first : (input : PortInput) → bits_left input 0 ≡ 0
  pub next : (input : PortInput) (traffic : Traffic) (t : ℕ) → was_on_line input traffic (suc t) ≡ is_on_line input traffic t
  pub left : (input : PortInput) (t : ℕ) → bits_left input (suc t) ≡ bits_ahead input t - 1
  pub most : (input : PortInput) (t : ℕ) → IsPortInput input → bits_left input t ≤ 12335
  pub below : (input : PortInput) (t : ℕ) → IsPortInput input → (slope_a_at input t < bits_of input.rate) × (slope_b_at input t < bits_of input.rate)

-- what is known of the frames that depart
pub record OrderLaws : Type 0 where
  pub order : (input : PortInput) (traffic : Traffic) → IsPortInput input → DepartInOrder (filter (is_of traffic) input.arrivals) (filter (departs_as traffic) (sent_of input)) (filter (is_of traffic) (left_of input))
  pub apart : (input : PortInput) → IsPortInput input → AllPairs (λ d e. d.end ≤ e.start) (sent_of input)
  pub sized : (input : PortInput) → IsPortInput input → All (λ d. d.start < d.end) (sent_of input)
  pub in_time : (input : PortInput) → All (λ d. d.start < input.end) (sent_of input)
  pub agree : (xs ys : List Arrival) (t k : ℕ) → arrivals_before xs t ≡ arrivals_before ys t → k < t → arrivals_at xs k ≡ arrivals_at ys k
  pub port : (one other : PortInput) (t : ℕ) → AgreeBefore t one other → port_at one t ≡ port_at other t
  pub departures : (one other : PortInput) (t : ℕ) → AgreeBefore t one other → t ≤ one.end → t ≤ other.end → started_before t (sent_of one) ≡ started_before t (sent_of other)
