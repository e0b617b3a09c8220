use Rattle.network_laws.proofs.BookingLaw.{bookings-match, port-booked}
use Rattle.network_laws.proofs.laws.booked_where_advertised_and_ready.Goals as goal

pub returns-clause-port : goal.returns-clause-port
returns-clause-port c s at port stream kept has talker listener =
    port-booked c.decisions_stand.ensures.kept s.streams kept.streams at port stream has talker listener

pub returns-clause-network : goal.returns-clause-network
returns-clause-network c w stream kept quiet = bookings-match c.decisions_stand.ensures.kept w stream kept quiet
