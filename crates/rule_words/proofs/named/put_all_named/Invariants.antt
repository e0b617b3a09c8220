use Rattle.std.proofs.Common.{◌≡◌, ◌++◌, map, drop}
use Rattle.toml.specs.View.{table_view}
use Rattle.rule_words.specs.{name_lines}
use Rattle.rule_words.proofs.named.put_all_named.Given as goal

-- the text so far with the lines of the keys that are left is the whole
abbrev pub invariant-loop-key : goal.invariant-loop-key
invariant-loop-key l =
    l.out.items ++ name_lines l.rule (map (λ t. table_view t.now) l.nodes) (map (λ t. table_view t.now) l.streams) (table_view l.entry) (drop l.key-index l.keys)
    ≡ l.initial.out.items ++ name_lines l.rule (map (λ t. table_view t.now) l.nodes) (map (λ t. table_view t.now) l.streams) (table_view l.entry) l.keys
