use Rattle.srp_base.proofs.Lists.{three_pieces}
use Rattle.msrp_codec.proofs.writing.put_failed.Goals as goal

pub returns : goal.returns
returns c = three_pieces _ _ _ _ _ _ _ c.in_ok-put_talker.ensures c.in_ok-put_eight.ensures c.in_ok-put_octet.ensures
