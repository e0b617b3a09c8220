use Rattle.std.proofs.Common.{◌≡◌, map, drop}
use Rattle.toml.specs.View.{view, items_view}
use Rattle.plan_file.specs.{all_names, all_read, name_of_data}
use Rattle.plan_file.proofs.NameLemmas.{in_front}
use Rattle.plan_file.proofs.ends.names_of.Given as goal

abbrev pub invariant-loop-value : goal.invariant-loop-value
invariant-loop-value l =
    in_front (map (λ t. t.now) l.found.items) (all_read (λ v. name_of_data (view v)) (drop l.value-index l.values)) ≡ all_names (items_view l.values)
