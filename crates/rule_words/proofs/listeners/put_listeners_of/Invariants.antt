use Rattle.std.proofs.Common.{◌≡◌, ◌++◌, [], map, take, drop}
use Rattle.std.specs.Option.{option_copied}
use Rattle.toml.specs.View.{items_view, table_view, view}
use Rattle.rule_words.specs.{lines_of_items}
use Rattle.rule_words.proofs.listeners.put_listeners_of.Given as goal

-- the text so far with the lines of the values that are left is the whole
abbrev pub invariant-loop-i : goal.invariant-loop-i
invariant-loop-i l =
    l.out.items ++ lines_of_items (map (λ t. table_view t.now) l.nodes) (option_copied l.talker) (map view (take l.i l.values)) (items_view (drop l.i l.values))
    ≡ l.initial.out.items ++ lines_of_items (map (λ t. table_view t.now) l.nodes) (option_copied l.talker) [] (items_view l.values)
