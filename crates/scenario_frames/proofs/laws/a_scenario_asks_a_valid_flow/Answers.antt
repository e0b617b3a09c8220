use Rattle.scenario_frames.proofs.FrameLemmas.{valid-setting}
use Rattle.scenario_frames.proofs.laws.a_scenario_asks_a_valid_flow.Goals as goal

pub returns : goal.returns
returns c plan changes kept order slopes = valid-setting plan changes kept order slopes
