use Rattle.std.proofs.Common.{List, ℕ, ap, subst, sym, ◌∙◌}
use Rattle.std.proofs.lemmas.Str.{is_utf8-from_IsUtf8, IsUtf8-had}
use Rattle.std.specs.Prelude.{string_bytes}
use Rattle.srpnet.specs.{IsExpanded}
use Rattle.srpnet.proofs.PlanLemmas.{expanded_as}
use Rattle.srpnet.proofs.plan.expanded.Goals as goal

pub returns-clause-output : goal.returns-clause-output
returns-clause-output c =
    let text = string_bytes c.in_ok-text.text in
    let utf8 = is_utf8-from_IsUtf8 text (IsUtf8-had text c.in_ok-text.text.ok) in
    subst (λ (t : List ℕ). IsExpanded c.args.octets.now t) (sym (c.from_vec.ensures ∙ ap (λ v. v.items) c.into_bytes.ensures.value))
    (expanded_as c.read_plans_keep_the_rules.ensures c.plans_stand_for_scenarios.ensures.reads c.plans_stand_for_scenarios.ensures.kept
    c.args.octets.now _ text c.in_ok-table.ensures.table utf8 c.in_ok-text.ensures)
