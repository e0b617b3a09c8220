use Rattle.mmrp_codec.proofs.RangeLemmas.{macs-read}
use Rattle.mrpdu_codec.specs.declared.form.AppForm.TheVariants.{Mmrp}
use Rattle.mrpdu_codec.specs.Reading.{reading}
use Rattle.mmrp_codec.proofs.laws.what_is_read_has_macs.Goals as goal

pub returns : goal.returns
returns c = λ octets read h. macs-read octets (reading Mmrp octets) read h
