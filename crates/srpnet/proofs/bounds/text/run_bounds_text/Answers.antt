use Rattle.std.proofs.Common.{ℕ, ◌++◌, List, ap, ◌∙◌}
use Rattle.srpnet.specs.{bound_lines}
use Rattle.srpnet.proofs.bounds.text.run_bounds_text.Goals as goal

pub returns : goal.returns
returns c =
    let lines = bound_lines c.args.scenario.now c.args.flow.ports in
    c.in_ok-add.ensures.ok
    ∙ ap (λ (ys : List ℕ). c.in_ok-text.text ++ ys) (c.as_slice.ensures.value ∙ c.in_ok-bounds.ensures)
    ∙ ap (λ (xs : List ℕ). xs ++ lines) c.in_ok-text.ensures
