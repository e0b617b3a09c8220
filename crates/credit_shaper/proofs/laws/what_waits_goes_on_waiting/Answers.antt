use Rattle.credit_shaper.proofs.StepLemmas.{waits_on}
use Rattle.credit_shaper.proofs.laws.what_waits_goes_on_waiting.Goals as goal

pub returns : goal.returns
returns c = waits_on
