use Rattle.std.proofs.Common.{◌≡◌, ◌≤◌, drop}
use Rattle.msrp.specs.{asked_out}
use Rattle.msrp.proofs.settling.take_out_all.Given as goal

-- with those of the streams that are left taken out too, all are
abbrev pub invariant-loop-one : goal.invariant-loop-one
invariant-loop-one l = record {
  book : asked_out (drop l.one-index l.asked) l.ledger.book ≡ asked_out l.asked l.fn.ledger.book;
  spare : l.fn.ledger.spare ≤ l.ledger.spare;
}
