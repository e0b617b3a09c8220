use Rattle.std.proofs.Common.{◌≡◌, drop}
use Rattle.std.specs.Prelude.{find, nat_eq}
use Rattle.std.specs.Cmp.Lexicographic.{pointwise}
use Rattle.rule_words.specs.{word_of}
use Rattle.rule_words.proofs.faults.apart_key.Given as goal

-- the first of all keys is the first of those that are left
abbrev pub invariant-loop-key : goal.invariant-loop-key
invariant-loop-key l =
    find (λ key. pointwise nat_eq l.word (word_of key)) (drop l.key-index l.key-items) ≡ find (λ key. pointwise nat_eq l.word (word_of key)) l.key-items
