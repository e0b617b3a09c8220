use Rattle.mrpdu_codec.proofs.OctetLemmas.{spelled-octets}
use Rattle.mrpdu_codec.proofs.laws.first_values_are_octets.Goals as goal

pub returns : goal.returns
returns c = spelled-octets
