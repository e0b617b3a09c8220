use Rattle.capture_file.proofs.OptionLemmas.{other_passes}
use Rattle.capture_file.proofs.laws.other_options_are_passed_over.Goals as goal

pub returns : goal.returns
returns c = λ order text more is. other_passes order text more is
