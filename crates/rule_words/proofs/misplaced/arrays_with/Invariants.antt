use Rattle.std.proofs.Common.{◌≡◌, ◌++◌, map, is_some}
use Rattle.std.specs.List.{filter}
use Rattle.toml.specs.View.{members_view, table_view}
use Rattle.toml_rules.specs.Fields.{member_keys}
use Rattle.rule_words.specs.{arrays_with, first_at}
use Rattle.rule_words.proofs.misplaced.arrays_with.Given as goal

-- the arrays so far with those that are left are all
abbrev pub invariant-loop-array : goal.invariant-loop-array
invariant-loop-array l =
    map (λ a. a.now) l.arrays.items ++ filter (λ array. is_some (first_at l.word (table_view l.table) array)) (member_keys (members_view l.array-iterator))
    ≡ arrays_with l.word (table_view l.table)
