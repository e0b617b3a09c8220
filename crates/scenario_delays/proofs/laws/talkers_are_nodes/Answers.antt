use Rattle.scenario_delays.proofs.StreamLemmas.{answers-talkers}
use Rattle.scenario_delays.proofs.laws.talkers_are_nodes.Goals as goal

pub returns : goal.returns
returns c = answers-talkers
