use Rattle.std.proofs.Common.{◌≡◌, ◌-◌, ◌≤◌, ◌++◌, length, take, drop}
use Rattle.pdu_words.specs.{column}
use Rattle.pdu_words.proofs.dump.column.Given as goal

-- what was passed with the column of the rest is the whole column
abbrev pub invariant-loop-size : goal.invariant-loop-size
invariant-loop-size l = record {
  front : take l.size l.text ++ column (drop l.size l.text) ≡ column l.text;
  within : l.size ≤ length l.text;
}

abbrev pub decreases-loop-size : goal.decreases-loop-size
decreases-loop-size l = length l.text - l.size
