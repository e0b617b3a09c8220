use Rattle.mrpdu_codec.proofs.{RoundTrip.spells_again, Reread.reread}
use Rattle.mrpdu_codec.proofs.laws.written_is_read.Goals as goal

pub returns-clause-spelled : goal.returns-clause-spelled
returns-clause-spelled c = λ form pdu fits. spells_again form pdu fits

pub returns-clause-read : goal.returns-clause-read
returns-clause-read c = λ form pdu fits. reread form pdu fits
