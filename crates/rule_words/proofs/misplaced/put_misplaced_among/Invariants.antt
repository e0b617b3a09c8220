use Rattle.std.proofs.Common.{◌≡◌, ◌++◌, drop, map}
use Rattle.std.specs.Prelude.{flat_map}
use Rattle.toml.specs.View.{table_view}
use Rattle.rule_words.specs.{misplaced_in}
use Rattle.rule_words.proofs.misplaced.put_misplaced_among.Given as goal

-- the text so far with the lines of the arrays that are left is the whole
abbrev pub invariant-loop-array : goal.invariant-loop-array
invariant-loop-array l =
    l.out.items ++ flat_map (misplaced_in l.key (table_view l.table) l.octets) (map (λ a. a.now) (drop l.array-index l.arrays))
    ≡ l.initial.out.items ++ flat_map (misplaced_in l.key (table_view l.table) l.octets) (map (λ a. a.now) l.arrays)
