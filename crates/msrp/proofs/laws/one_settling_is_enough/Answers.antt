use Rattle.msrp.proofs.OneSettling.{none_awaits, others_await, others_stay}
use Rattle.msrp.proofs.laws.one_settling_is_enough.Goals as goal

pub returns-clause-here : goal.returns-clause-here
returns-clause-here c = none_awaits

pub returns-clause-elsewhere : goal.returns-clause-elsewhere
returns-clause-elsewhere c = others_await c.each_port_is_told.ensures

pub returns-clause-ports : goal.returns-clause-ports
returns-clause-ports c = others_stay
