use Rattle.std.proofs.Common.{◌≡◌, ℕ, ◌≤◌, List, ◌++◌, length, drop}
use Rattle.rule_words.specs.declared.joined.Ends.{Ends}
use Rattle.rule_words.specs.{labels_of}
use Rattle.rule_words.proofs.joined.join_all.Given as goal

-- the labels are those with the links that were put before them, the last first
abbrev pub invariant-loop-rest : goal.invariant-loop-rest
invariant-loop-rest l =
    (l.rest ≤ length l.links) × (length l.labels ≡ length l.initial.labels)
    × ((n : ℕ) (more : List Ends) → l.initial.labels ≡ labels_of n more → l.labels ≡ labels_of n (drop l.rest l.links ++ more))

abbrev pub decreases-loop-rest : goal.decreases-loop-rest
decreases-loop-rest l = l.rest
