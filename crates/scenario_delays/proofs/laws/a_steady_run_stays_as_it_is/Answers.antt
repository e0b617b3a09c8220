use Rattle.std.proofs.Common.{arith}
use Rattle.scenario_frames.specs.Setting.{setting_of}
use Rattle.scenario_delays.proofs.SteadyLemmas.{steady-run}
use Rattle.scenario_delays.proofs.laws.a_steady_run_stays_as_it_is.Goals as goal

pub returns : goal.returns
returns c plan changes class kept earlier within is = steady-run (setting_of plan changes) class (omega (arith, kept.ticks.0)) earlier within is
