use Rattle.std.proofs.Common.{ℕ, ◌≤◌}
use Rattle.std.proofs.lemmas.List.Elements.{All-weaker}
use Rattle.credit_shaper.specs.{Port.IsPortInput, Bounds.greatest_slope_a, Bounds.IsWindowAWithin}
use Rattle.frame_flow.proofs.LawLemmas.{inputs_valid}
use Rattle.frame_flow.proofs.laws.class_a_windows_stay_within.Goals as goal

pub returns : goal.returns
returns c s flows given is =
    All-weaker (λ x. IsPortInput x.input) (λ x. (a b : ℕ) → a ≤ b → IsWindowAWithin x.input 0 (greatest_slope_a x.input.slopes) a b)
    (λ x valid a b up. c.class_a_stays_within_in_every_run.ensures.window x.input a b valid up) flows (inputs_valid s given flows is)
