use Rattle.srpnet.proofs.PartingLemmas.{parted_again}
use Rattle.srpnet.proofs.audit.laws.what_is_put_together_is_parted.Goals as goal

pub returns : goal.returns
returns c = parted_again
