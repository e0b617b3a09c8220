use Rattle.std.proofs.Common.{refl}
use Rattle.mrp_participant.specs.State.{is_active, sent_events}
use Rattle.std.specs.Ordering.{nat_cmp}
use Rattle.flat_side.specs.Part.{key_events}
use Rattle.mmrp_codec.specs.Writing.{IsWritable}
use Rattle.mmrp.specs.{base, octets, pdu_sent}
use Rattle.mmrp.proofs.Writable.{writable}
use Rattle.mmrp.proofs.laws.what_is_sent_is_read.Goals as goal

pub returns : goal.returns
returns c = λ now s rows own loud.
    let pdu = pdu_sent now s in
    let w : IsWritable pdu = writable (is_active s.leave_all) (key_events (sent_events base octets nat_cmp now s)) (c.what_is_sent_can_be_written.ensures.fitting now s rows loud) in
    record {
      spelled = refl;
      reads = c.what_is_written_is_read.ensures.reads pdu w (c.what_is_sent_can_be_written.ensures.keys now s rows own);
      short = c.what_is_written_is_read.ensures.few pdu w;
    }
