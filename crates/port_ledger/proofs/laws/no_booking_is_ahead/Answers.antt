use Rattle.port_ledger.proofs.Fitting.{none_ahead}
use Rattle.port_ledger.proofs.laws.no_booking_is_ahead.Goals as goal

pub returns : goal.returns
returns c = λ book s kept. none_ahead book.moment book.entries s kept.moments
