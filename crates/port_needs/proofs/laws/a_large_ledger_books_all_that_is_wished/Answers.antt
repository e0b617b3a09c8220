use Rattle.std.proofs.Common.{arith}
use Rattle.port_needs.proofs.LedgerLemmas.{all_booked, want_fits}
use Rattle.port_needs.proofs.laws.a_large_ledger_books_all_that_is_wished.Goals as goal

pub returns-clause-booked : goal.returns-clause-booked
returns-clause-booked c plan wishes p link book large of =
    all_booked plan wishes p link book large of (λ s. c.decisions_stand.ensures.booked book book.moment s of.kept (omega arith))

pub returns-clause-fits : goal.returns-clause-fits
returns-clause-fits c plan wishes p link book now want large of among = want_fits plan wishes p link book large of now want among
