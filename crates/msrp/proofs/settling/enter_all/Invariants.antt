use Rattle.std.proofs.Common.{◌≡◌, ◌≤◌, length, drop}
use Rattle.msrp.specs.{asked_in}
use Rattle.msrp.proofs.settling.enter_all.Given as goal

-- with those of the streams that are left entered too, all are; and there is room for those that are left
abbrev pub invariant-loop-one : goal.invariant-loop-one
invariant-loop-one l = record {
  book : asked_in (drop l.one-index l.asked) l.ledger.book ≡ asked_in l.asked l.fn.ledger.book;
  room : length (drop l.one-index l.asked) ≤ l.ledger.spare;
}
