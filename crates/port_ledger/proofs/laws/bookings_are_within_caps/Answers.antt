use Rattle.std.proofs.Common.{refl}
use Rattle.port_ledger.specs.{fit_for, tested_entry}
use Rattle.port_ledger.proofs.Shares.{book_within, fit_within}
use Rattle.port_ledger.proofs.laws.bookings_are_within_caps.Goals as goal

pub returns-clause-class_a : goal.returns-clause-class_a
returns-clause-class_a c = λ book kept. (book_within book (c.importance_is_an_order.ensures book.moment) kept).class_a

pub returns-clause-both : goal.returns-clause-both
returns-clause-both c = λ book kept. (book_within book (c.importance_is_an_order.ensures book.moment) kept).both

pub returns-clause-fits : goal.returns-clause-fits
returns-clause-fits c = λ book now want kept.
    fit_within now book.caps book.entries (tested_entry book.entries want) (fit_for now book want) refl kept.shares
    (book_within book (c.importance_is_an_order.ensures book.moment) kept).both
