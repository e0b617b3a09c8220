use Rattle.mrpdu_codec.specs.declared.form.AppForm.TheVariants.{Msrp}
use Rattle.msrp_codec.specs.{pdu_for}
use Rattle.msrp_codec.proofs.WrittenPdu.{reads_again, is_well_formed}
use Rattle.msrp_codec.proofs.laws.what_is_written_is_read.Goals as goal

pub returns : goal.returns
returns c = λ pdu can fit.
    reads_again c.numbers_are_read_back.ensures.read pdu can.belong fit
    (c.written_is_read.ensures.read Msrp (pdu_for pdu) (is_well_formed pdu can fit c.written_list_size.ensures))
