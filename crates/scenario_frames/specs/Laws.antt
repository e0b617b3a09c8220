-- What is true of the flow of every scenario.
use Rattle.std.specs.Prelude.{ℕ, ◌≤◌}
use Rattle.srp_base.specs.declared.numbers.EgressPort.{EgressPort}
use Rattle.credit_shaper.specs.Bounds.{greatest_slope_a, IsWindowAWithin}
use Rattle.frame_flow.specs.declared.result.PortFlow.{PortFlow}

-- every window at a port stays within class A's bound, with the hiCredit of this slope
abbrev pub HasWindowsAWithin : ℕ → PortFlow → Type 0
HasWindowsAWithin most x = (a b : ℕ) → a ≤ b → IsWindowAWithin x.input 0 most a b

-- with the hiCredit of the greatest slope that the port had
abbrev pub HasWindowsOfSlopes : PortFlow → Type 0
HasWindowsOfSlopes x = HasWindowsAWithin (greatest_slope_a x.input.slopes) x

-- with the hiCredit of the port's cap
abbrev pub HasWindowsOfCap : (EgressPort → ℕ) → PortFlow → Type 0
HasWindowsOfCap cap x = HasWindowsAWithin (cap x.at) x
