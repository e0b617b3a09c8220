use Rattle.mrpdu_codec.proofs.Sizes.{vectors_written}
use Rattle.mrpdu_codec.proofs.laws.written_list_size.Goals as goal

pub returns : goal.returns
returns c = λ vs. vectors_written vs
