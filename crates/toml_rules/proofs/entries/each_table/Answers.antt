use Rattle.std.proofs.Common.{rules, List, Result, subst}
use Rattle.toml.specs.View.{table_view}
use Rattle.toml_rules.specs.{RuleErr, Reads}
use Rattle.toml_rules.proofs.EntryLemmas.{each-map}
use Rattle.toml_rules.proofs.entries.each_table.Goals as goal

pub returns : goal.returns
returns g c said calls =
    let R : Result (List g.row.B.Denot) RuleErr → Type 0 = λ r. Reads (λ v. v.items) c.each_entry.result r in
    subst R (each-map c.args.rule (λ t. table_view t.now) said 1 c.args.tables.now) (c.each_entry.ensures (λ n t. said n (table_view t.now)) (λ n t r p. search rules))
