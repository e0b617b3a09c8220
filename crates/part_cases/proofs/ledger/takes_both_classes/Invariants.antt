use Rattle.std.proofs.Common.{◌≡◌}
use Rattle.part_cases.proofs.ledger.takes_both_classes.Given as goal

abbrev pub invariant-loop-stream : goal.invariant-loop-stream
invariant-loop-stream l = l.ledger.book.moment ≡ 0
