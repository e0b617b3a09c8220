use Rattle.std.proofs.Common.{◌≡◌, ◌++◌, drop}
use Rattle.std.specs.Prelude.{flat_map}
use Rattle.toml.specs.View.{table_view}
use Rattle.rule_words.specs.{there_line}
use Rattle.rule_words.proofs.lines.put_each_there.Given as goal

-- the text so far with the lines of the keys that are left is the whole
abbrev pub invariant-loop-key : goal.invariant-loop-key
invariant-loop-key l =
    l.out.items ++ flat_map (there_line (table_view l.table)) (drop l.key-index l.keys) ≡ l.initial.out.items ++ flat_map (there_line (table_view l.table)) l.keys
