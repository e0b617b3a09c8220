use Rattle.port_needs.proofs.NothingLemmas.{no_port_line, no_stream_line}
use Rattle.port_needs.proofs.laws.nothing_is_needed_where_all_are_large_enough.Goals as goal

pub returns-clause-ports : goal.returns-clause-ports
returns-clause-ports c plan wishes = no_port_line plan wishes

pub returns-clause-streams : goal.returns-clause-streams
returns-clause-streams c plan wishes = no_stream_line plan wishes
