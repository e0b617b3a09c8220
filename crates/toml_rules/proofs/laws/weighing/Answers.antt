use Rattle.toml_rules.proofs.WeightLemmas.{within-says, within-fits}
use Rattle.toml_rules.proofs.laws.weighing.Goals as goal

pub returns-clause-values : goal.returns-clause-values
returns-clause-values g c = λ rule n room weight read xs. within-says rule n room weight read xs

pub returns-clause-fits : goal.returns-clause-fits
returns-clause-fits g c = λ rule n room weight read xs. within-fits rule n room weight read xs
