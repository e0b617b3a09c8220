use Rattle.std.proofs.Common.{◌≡◌, ◌+◌, ◌++◌, drop}
use Rattle.toml.specs.View.{items_view}
use Rattle.rule_words.specs.{nameless_of_items}
use Rattle.rule_words.proofs.listeners.put_first_nameless.Given as goal

-- the text, and what is said of the values that are left, is the whole
abbrev pub invariant-loop-i : goal.invariant-loop-i
invariant-loop-i l =
    l.out.items ++ nameless_of_items (l.i + 1) (items_view (drop l.i l.values))
    ≡ l.initial.out.items ++ nameless_of_items 1 (items_view l.values)
