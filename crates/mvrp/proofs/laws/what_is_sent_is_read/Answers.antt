use Rattle.std.proofs.Common.{refl}
use Rattle.mvrp_codec.specs.Writing.{IsWritable}
use Rattle.mvrp.specs.{pdu_sent}
use Rattle.mvrp.proofs.Writable.{writable}
use Rattle.mvrp.proofs.laws.what_is_sent_is_read.Goals as goal

pub returns : goal.returns
returns c = λ now s rows own speaks.
    let can : IsWritable (pdu_sent now s) = writable (pdu_sent now s).leave_all (pdu_sent now s).events (c.what_is_sent_can_be_written.ensures.fitting now s rows speaks) in
    record {
      spelled = refl;
      reads = c.what_is_written_is_read.ensures.reads (pdu_sent now s) can (c.what_is_sent_can_be_written.ensures.keys now s rows own);
      short = c.what_is_written_is_read.ensures.few (pdu_sent now s) can;
    }
