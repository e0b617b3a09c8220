use Rattle.bridge_book.proofs.StepsLemmas.{ports_after, port_steps}
use Rattle.bridge_book.proofs.laws.ports_make_their_steps.Goals as goal

pub returns-clause-ports : goal.returns-clause-ports
returns-clause-ports c = ports_after c.steps_keep_what_a_node_is.ensures.ports

pub returns-clause-step : goal.returns-clause-step
returns-clause-step c = port_steps c.steps_keep_what_a_node_is.ensures.ports
