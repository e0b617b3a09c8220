-- Windows with the hiCredit of a cap on the slopes.
use Rattle.std.proofs.Common.{ℕ, ◌≤◌, List, [], ◌∷◌, get_or, arith}
use Rattle.std.specs.Prelude.{All}
use Rattle.std.proofs.lemmas.{Int.ints, List.Elements.All-head, List.Elements.All-tail}
use Rattle.srp_base.specs.declared.numbers.EgressPort.{EgressPort}
use Rattle.credit_shaper.specs.declared.{port.SlopeChange.SlopeChange, port.PortInput.PortInput}
use Rattle.credit_shaper.specs.Bounds.{greatest_slope_a, IsWindowAWithin}
use Rattle.frame_flow.specs.declared.result.PortFlow.{PortFlow}
use Rattle.scenario_frames.specs.{HasWindowsOfSlopes, HasWindowsOfCap}

-- the greatest of slopes that are at most a cap is at most the cap
greatest-upto : (most : ℕ) (slopes : List SlopeChange) → All (λ s. s.slope_a ≤ most) slopes → greatest_slope_a slopes ≤ most
greatest-upto most [] all = omega arith
greatest-upto most (s ∷ slopes) all =
    let S : SlopeChange → Type 0 = λ x. x.slope_a ≤ most in
    let head : s.slope_a ≤ most = All-head S s slopes all in
    let tail = greatest-upto most slopes (All-tail S s slopes all) in
    omega (arith, head, tail)

-- a greater hiCredit
wider : (input : PortInput) (least most a b : ℕ) → least ≤ most → IsWindowAWithin input 0 least a b → IsWindowAWithin input 0 most a b
wider input least most a b up within = omega (arith, ints, up, within)

pub windows-of-cap : (flows : List PortFlow) (cap : EgressPort → ℕ) → All (λ x. All (λ e. e.slope_a ≤ cap x.at) x.input.slopes) flows
    → All HasWindowsOfSlopes flows → All (HasWindowsOfCap cap) flows
windows-of-cap flows cap kept windows k d below a b up =
    let x = get_or flows k d in
    wider x.input (greatest_slope_a x.input.slopes) (cap x.at) a b (greatest-upto (cap x.at) x.input.slopes (kept k d below)) (windows k d below a b up)
