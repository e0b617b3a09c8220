use Rattle.std.proofs.Common.{◌≡◌, drop}
use Rattle.toml.specs.View.{table_view}
use Rattle.rule_words.specs.{wrong_key}
use Rattle.rule_words.proofs.faults.wrong_key.Given as goal

-- the first of the keys that are left is the first of all
abbrev pub invariant-loop-key : goal.invariant-loop-key
invariant-loop-key l = wrong_key (drop l.key-index l.keys) (table_view l.table) ≡ wrong_key l.keys (table_view l.table)
