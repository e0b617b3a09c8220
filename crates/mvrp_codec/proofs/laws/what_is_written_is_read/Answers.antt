use Rattle.mrpdu_codec.specs.declared.form.AppForm.TheVariants.{Mvrp}
use Rattle.mvrp_codec.specs.{pdu_for}
use Rattle.mvrp_codec.proofs.WritingLemmas.{is_well_formed, reads_again, few_in_all}
use Rattle.mvrp_codec.proofs.laws.what_is_written_is_read.Goals as goal

pub returns-clause-reads : goal.returns-clause-reads
returns-clause-reads c = λ read w vids. reads_again read vids (c.written_is_read.ensures.read Mvrp (pdu_for read) (is_well_formed read w))

pub returns-clause-few : goal.returns-clause-few
returns-clause-few c = λ read w. few_in_all read w (c.written_size.ensures Mvrp (pdu_for read))
