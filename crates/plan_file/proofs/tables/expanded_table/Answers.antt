use Rattle.std.proofs.Common.{◌≡◌, ◌∙◌, IfOk, List, ap, subst}
use Rattle.toml.specs.View.{table_view}
use Rattle.plan_file.specs.{NetworkPlan, PlanStream, expanded}
use Rattle.plan_file.proofs.tables.expanded_table.Goals as goal

pub returns : goal.returns
returns c =
    let F : NetworkPlan → Type 0 = λ p. IfOk c.whole_table.result (λ t. table_view t ≡ expanded p) in
    let made : List PlanStream → NetworkPlan = λ ss. record { network = c.plan.inside.network; streams = ss } in
    subst F (ap made c.as_slice.ensures ∙ c.plan.view_is) c.whole_table.ensures
