use Rattle.msrp_codec.proofs.WritingLemmas.{seven_pieces}
use Rattle.msrp_codec.proofs.writing.put_talker.Goals as goal

pub returns : goal.returns
returns c =
    rw (← c.get.ensures.value, ← c.priority_and_rank.ensures) (
    seven_pieces _ _ _ _ _ _ _ _ _ _ _ _ _ _ _ c.in_ok-put_eight.ensures c.in_ok-put_number.ensures.ok c.in_ok-put_two.ensures c.in_ok-put_two-2.ensures
    c.in_ok-put_two-3.ensures c.in_ok-put_octet.ensures c.in_ok-put_four.ensures)
