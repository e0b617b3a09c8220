use Rattle.delay_flow.proofs.WayLemmas.{conforms-within, conforms-sizes}
use Rattle.delay_flow.proofs.laws.what_conforms_keeps_each_window.Goals as goal

pub returns-clause-windows : goal.returns-clause-windows
returns-clause-windows c = conforms-within

pub returns-clause-sizes : goal.returns-clause-sizes
returns-clause-sizes c = conforms-sizes
