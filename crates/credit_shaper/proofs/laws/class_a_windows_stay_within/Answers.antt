use Rattle.credit_shaper.proofs.WindowLemmas.{window_within}
use Rattle.credit_shaper.proofs.laws.class_a_windows_stay_within.Goals as goal

pub returns : goal.returns
returns c = window_within
