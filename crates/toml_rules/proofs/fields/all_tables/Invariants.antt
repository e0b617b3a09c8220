use Rattle.std.proofs.Common.{◌≡◌, map, drop}
use Rattle.toml.specs.View.{table_view, items_view}
use Rattle.toml_rules.specs.{all_tables}
use Rattle.toml_rules.proofs.FieldLemmas.{in_front}
use Rattle.toml_rules.proofs.fields.all_tables.Given as goal

abbrev pub invariant-loop-value : goal.invariant-loop-value
invariant-loop-value l =
    in_front (map (λ t. table_view t.now) l.found.items) (all_tables (items_view (drop l.value-index l.values)))
    ≡ all_tables (items_view l.values)
