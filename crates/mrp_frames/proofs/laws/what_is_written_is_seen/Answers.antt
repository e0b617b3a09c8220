use Rattle.mrp_frames.proofs.Written.{at_least, at_most, seen_back}
use Rattle.mrp_frames.proofs.laws.what_is_written_is_seen.Goals as goal

pub returns-clause-seen : goal.returns-clause-seen
returns-clause-seen c = λ app address pdu packet lt link octets. seen_back app address pdu packet (c.numbers_are_read_back.ensures.read 6 address lt) link octets

pub returns-clause-least : goal.returns-clause-least
returns-clause-least c = λ app address pdu. at_least app address pdu

pub returns-clause-most : goal.returns-clause-most
returns-clause-most c = λ app address pdu. at_most app address pdu
