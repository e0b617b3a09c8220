use Rattle.mrpdu_codec.specs.declared.form.AppForm.TheVariants.{Msrp}
use Rattle.msrp_codec.specs.{pdu_for}
use Rattle.msrp_codec.proofs.WrittenPdu.{stated_suffice}
use Rattle.msrp_codec.proofs.laws.stated_octets_suffice.Goals as goal

pub returns : goal.returns
returns c = λ pdu. stated_suffice pdu (c.written_size.ensures Msrp (pdu_for pdu))
