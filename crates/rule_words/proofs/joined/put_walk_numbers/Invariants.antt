use Rattle.std.proofs.Common.{◌≡◌, ◌++◌}
use Rattle.std.specs.Prelude.{flat_map}
use Rattle.std.specs.List.{range_with_len}
use Rattle.rule_words.specs.{walk_word}
use Rattle.rule_words.proofs.joined.put_walk_numbers.Given as goal

-- the numbers of the links so far
abbrev pub invariant-loop-i : goal.invariant-loop-i
invariant-loop-i l =
    l.out.items ≡ l.initial.out.items ++ flat_map (walk_word l.links l.ends.a l.ends.b) (range_with_len 1 l.i)
