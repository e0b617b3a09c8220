use Rattle.std.proofs.Common.{◌≡◌, ◌+◌, ◌++◌, map, drop}
use Rattle.toml.specs.View.{table_view}
use Rattle.rule_words.specs.{link_begins}
use Rattle.rule_words.proofs.others.put_link_begins.Given as goal

-- the text so far with the lines of the links that are left is the whole
abbrev pub invariant-loop-i : goal.invariant-loop-i
invariant-loop-i l =
    l.out.items ++ link_begins l.octets l.name (l.i + 1) (map (λ t. table_view t.now) (drop l.i l.links))
    ≡ l.initial.out.items ++ link_begins l.octets l.name 1 (map (λ t. table_view t.now) l.links)
