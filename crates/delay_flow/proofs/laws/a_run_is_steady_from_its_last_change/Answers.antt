use Rattle.delay_flow.proofs.SteadyLemmas.{steady-from}
use Rattle.delay_flow.proofs.laws.a_run_is_steady_from_its_last_change.Goals as goal

pub returns : goal.returns
returns c = steady-from
