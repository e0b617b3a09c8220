use Rattle.std.proofs.Common.{◌≡◌, ◌++◌, map, take, drop}
use Rattle.rule_words.specs.{moved}
use Rattle.rule_words.proofs.joined.relabel.Given as goal

-- the labels so far are moved, and the others are as they were
abbrev pub invariant-loop-label : goal.invariant-loop-label
invariant-loop-label l =
    l.labels ≡ map (moved l.from l.to) (take l.label-index l.initial.labels) ++ drop l.label-index l.initial.labels
