use Rattle.port_ledger.proofs.Fitting.{fits_by_bookings, fits_by_clock}
use Rattle.port_ledger.proofs.laws.fits_stay.Goals as goal

pub returns-clause-clocked : goal.returns-clause-clocked
returns-clause-clocked c = fits_by_clock

pub returns-clause-booked : goal.returns-clause-booked
returns-clause-booked c = fits_by_bookings
