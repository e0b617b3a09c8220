use Rattle.msrp_codec.proofs.BelongingLemmas.{own-read}
use Rattle.msrp_codec.proofs.laws.what_is_read_belongs_to_its_keys.Goals as goal

pub returns : goal.returns
returns c = own-read
