use Rattle.std.proofs.Common.{◌≡◌, drop}
use Rattle.toml.specs.View.{items_view}
use Rattle.rule_words.specs.{are_names}
use Rattle.rule_words.proofs.names.are_names.Given as goal

-- the values that are left are all names where all are
abbrev pub invariant-loop-value : goal.invariant-loop-value
invariant-loop-value l = are_names (items_view (drop l.value-index l.values)) ≡ are_names (items_view l.values)
