use Rattle.std.proofs.Common.{rules, List, Result, subst}
use Rattle.toml.specs.View.{table_view}
use Rattle.toml_rules.specs.{RuleErr, Reads}
use Rattle.toml_rules.proofs.EntryLemmas.{within-map}
use Rattle.toml_rules.proofs.entries.each_table_within.Goals as goal

pub returns : goal.returns
returns g c weight said weights calls =
    let R : Result (List g.row.B.Denot) RuleErr → Type 0 = λ r. Reads (λ v. v.items) c.each_within.result r in
    subst R (within-map c.args.rule weight (λ t. table_view t.now) said 1 c.args.most c.args.tables.now)
    (c.each_within.ensures weight (λ n t. said n (table_view t.now)) weights (λ n t r p. search rules))
