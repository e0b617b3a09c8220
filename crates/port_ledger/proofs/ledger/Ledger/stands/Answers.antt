use Rattle.std.proofs.Common.{refl, subst}
use Rattle.port_ledger.specs.Book.{Book}
use Rattle.port_ledger.specs.{IsKept, fit_for}
use Rattle.port_ledger.proofs.{Keeping.book_is, PerStream.kept_fits, PerStream.one_booked, Standing.book_stands}
use Rattle.port_ledger.proofs.ledger.Ledger.stands.Goals as goal

pub returns-clause-decided : goal.returns-clause-decided
returns-clause-decided c = book_stands c.args.self.now.book (subst (λ (b : Book). IsKept b) (book_is c.self.view_is) c.self.invariant.0)

pub returns-clause-booked : goal.returns-clause-booked
returns-clause-booked c = λ later up s.
    one_booked later c.args.self.now.book.caps c.args.self.now.book.entries s
    (book_stands c.args.self.now.book (subst (λ (b : Book). IsKept b) (book_is c.self.view_is) c.self.invariant.0) later up)

pub returns-clause-kept : goal.returns-clause-kept
returns-clause-kept c = λ later up want h.
    let book = c.args.self.now.book in
    kept_fits later book.caps book.entries want (fit_for later book want) refl
    (one_booked later book.caps book.entries want.stream
    (book_stands book (subst (λ (b : Book). IsKept b) (book_is c.self.view_is) c.self.invariant.0) later up)) h
