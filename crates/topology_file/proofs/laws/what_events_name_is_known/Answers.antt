use Rattle.topology_file.proofs.{EventsKept.pdu-known, NetworkKept.station-known}
use Rattle.topology_file.proofs.laws.what_events_name_is_known.Goals as goal

pub returns-clause-station : goal.returns-clause-station
returns-clause-station c = λ nodes name. station-known name nodes

pub returns-clause-pdu : goal.returns-clause-pdu
returns-clause-pdu c = λ nodes links ms. pdu-known nodes links ms
