use Rattle.scenario_delays.proofs.SteadyLemmas.{early-frame}
use Rattle.scenario_delays.proofs.laws.a_run_that_is_not_steady_has_an_early_frame.Goals as goal

pub returns : goal.returns
returns c changes frames pairs is = early-frame changes frames pairs is
