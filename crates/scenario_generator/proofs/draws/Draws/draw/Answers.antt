use Rattle.std.proofs.Common.{ℕ, ◌%◌, ap, ◌∙◌}
use Rattle.scenario_generator.specs.{drawn}
use Rattle.scenario_generator.proofs.DrawLemmas.{drawn-at}
use Rattle.scenario_generator.proofs.draws.Draws.draw.Goals as goal

pub returns-clause-value : goal.returns-clause-value
returns-clause-value c =
    ap (λ (x : ℕ). x % c.args.m) (drawn-at c.self.inside.number c.args.place c.index.result.now c.self.inside.halves.items c.self.invariant c.requires.place c.index.ensures
    ∙ ap (λ (n : ℕ). drawn n c.args.place) c.self.view_is)
