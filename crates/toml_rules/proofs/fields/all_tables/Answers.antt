use Rattle.std.proofs.Common.{map, ap, sym, ◌∙◌}
use Rattle.std.proofs.lemmas.List.{map_push}
use Rattle.toml.specs.View.{table_view}
use Rattle.toml_rules.proofs.FieldLemmas.{tables-step, tables-none, tables-end}
use Rattle.toml_rules.proofs.fields.all_tables.Goals as goal

pub loop-value-preserved : goal.loop-value-preserved
loop-value-preserved c =
    tables-step (map (λ t. table_view t.now) c.loop-value.found.items) _ c.args.values.now c.loop-value.value-index
    c.value-item.result (table_view c.in-Some.table.now) _ c.loop-value-test.true c.value-item.is (sym c.in-Some.ensures)
    (ap (map (λ t. table_view t.now)) c.in_ok-push-in-Some.ensures.items
    ∙ map_push (λ t. table_view t.now) c.loop-value.found.items c.in-Some.table)
    c.loop-value.invariant

pub returns : goal.returns
returns c =
    tables-end (map (λ t. table_view t.now) c.loop-value.found.items) c.args.values.now c.loop-value.value-index _
    c.loop-value-test.false c.loop-value.invariant

pub returns-in-None : goal.returns-in-None
returns-in-None c =
    tables-none (map (λ t. table_view t.now) c.loop-value.found.items) c.args.values.now c.loop-value.value-index
    c.value-item.result _ c.loop-value-test.true c.value-item.is (sym c.in-None.ensures) c.loop-value.invariant
