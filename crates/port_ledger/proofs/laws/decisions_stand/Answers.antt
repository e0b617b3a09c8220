use Rattle.std.proofs.Common.{refl}
use Rattle.port_ledger.specs.{fit_for}
use Rattle.port_ledger.proofs.{PerStream.kept_fits, PerStream.one_booked, Standing.book_stands}
use Rattle.port_ledger.proofs.laws.decisions_stand.Goals as goal

pub returns-clause-decided : goal.returns-clause-decided
returns-clause-decided c = λ book later kept up. book_stands book kept later up

pub returns-clause-booked : goal.returns-clause-booked
returns-clause-booked c = λ book later s kept up. one_booked later book.caps book.entries s (book_stands book kept later up)

pub returns-clause-kept : goal.returns-clause-kept
returns-clause-kept c = λ book later want kept up h.
    kept_fits later book.caps book.entries want (fit_for later book want) refl
    (one_booked later book.caps book.entries want.stream (book_stands book kept later up)) h
