use Rattle.std.proofs.Common.{◌∙◌, arith}
use Rattle.mrpdu_codec.specs.declared.form.AppForm.TheVariants.{Msrp}
use Rattle.msrp_codec.specs.{pdu_for}
use Rattle.msrp_codec.proofs.WrittenPdu.{reads_again, stated_suffice, is_well_formed}
use Rattle.msrp_codec.proofs.writing.encode.Goals as goal

pub returns-clause-read_back : goal.returns-clause-read_back
returns-clause-read_back c =
    let pdu = c.args.pdu.now in
    let fit = rw c.as_slice.ensures at c.in_ok-octets.ensures.in_range in
    let octets = c.from_vec.ensures ∙ rw c.as_slice.ensures at c.in_ok-octets.ensures.octets in
    let read = c.written_is_read.ensures.read Msrp (pdu_for pdu) (is_well_formed pdu c.requires fit c.written_list_size.ensures) in
    rw octets (reads_again c.numbers_are_read_back.ensures.read pdu c.requires.belong fit read)

pub returns-clause-few : goal.returns-clause-few
returns-clause-few c =
    let pdu = c.args.pdu.now in
    let octets = c.from_vec.ensures ∙ rw c.as_slice.ensures at c.in_ok-octets.ensures.octets in
    rw octets (omega (arith, c.requires.few, stated_suffice pdu (c.written_size.ensures Msrp (pdu_for pdu))))
