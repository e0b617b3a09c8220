use Rattle.mrpdu_codec.specs.declared.form.AppForm.TheVariants.{Msrp}
use Rattle.msrp_codec.proofs.RangeLemmas.{range-said}
use Rattle.msrp_codec.proofs.laws.what_is_read_is_in_range.Goals as goal

pub returns : goal.returns
returns c = λ octets read all h.
    let says = (c.reading_is_the_grammar.ensures.reads octets read).0 h in
    range-said octets read says (c.first_values_are_octets.ensures Msrp octets says.pdu all says.spelled)
