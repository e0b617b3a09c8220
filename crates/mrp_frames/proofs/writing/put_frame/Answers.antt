use Rattle.mrp_frames.proofs.Written.{put_parts}
use Rattle.mrp_frames.proofs.writing.put_frame.Goals as goal

pub returns : goal.returns
returns c =
    put_parts c.args.app c.args.address c.group_of.result c.get.result c.type_of.result c.args.pdu.now c.args.out.now.items c.put_number.new.out.items c.put_number-2.new.out.items
    c.put_number-3.new.out.items c.put_padded.new.out.items c.group_of.ensures c.get.ensures.value c.type_of.ensures c.in_ok-put_number.ensures.ok c.in_ok-put_number-2.ensures.ok
    c.in_ok-put_number-3.ensures.ok c.in_ok-put_padded.ensures
