use Rattle.mrpdu_codec.specs.declared.form.AppForm.TheVariants.{Mmrp}
use Rattle.mmrp_codec.specs.{pdu_for}
use Rattle.mmrp_codec.proofs.WrittenPdu.{is_well_formed, reads_again, few_in_all}
use Rattle.mmrp_codec.proofs.laws.what_is_written_is_read.Goals as goal

pub returns-clause-reads : goal.returns-clause-reads
returns-clause-reads c = λ read w all.
    let long = c.numbers_are_read_back.ensures.length in
    reads_again c.numbers_are_read_back.ensures.read read all (c.written_is_read.ensures.read Mmrp (pdu_for read) (is_well_formed long read))

pub returns-clause-few : goal.returns-clause-few
returns-clause-few c = λ read w. few_in_all c.numbers_are_read_back.ensures.length read w (c.written_size.ensures Mmrp (pdu_for read))
