use Rattle.mrpdu_codec.proofs.Sizes.{pdu_written}
use Rattle.mrpdu_codec.proofs.laws.written_size.Goals as goal

pub returns : goal.returns
returns c = λ form pdu. pdu_written form pdu
