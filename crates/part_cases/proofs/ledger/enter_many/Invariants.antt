use Rattle.std.proofs.Common.{◌≤◌, ◌+◌}
use Rattle.part_cases.proofs.ledger.enter_many.Given as goal

abbrev pub invariant-loop-stream : goal.invariant-loop-stream
invariant-loop-stream l = l.ledger.book.moment + 1 ≤ l.stream
