use Rattle.std.proofs.Common.{◌≡◌, drop}
use Rattle.std.specs.Prelude.{fold}
use Rattle.report_words.specs.Tally.{zero_tally}
use Rattle.group_run.specs.{replies_of, with_reply}
use Rattle.group_run.proofs.tally.tally_of.Given as goal

-- what is left to count leads to what all leads to
abbrev pub invariant-loop-made : goal.invariant-loop-made
invariant-loop-made l =
    fold with_reply zero_tally (replies_of l.at l.replies) ≡ fold with_reply l.tally (replies_of l.at (drop l.made-index l.replies))
