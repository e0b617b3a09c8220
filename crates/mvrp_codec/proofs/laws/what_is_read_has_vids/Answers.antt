use Rattle.mvrp_codec.proofs.VidLemmas.{vids-read}
use Rattle.mrpdu_codec.specs.declared.form.AppForm.TheVariants.{Mvrp}
use Rattle.mrpdu_codec.specs.Reading.{reading}
use Rattle.mvrp_codec.proofs.laws.what_is_read_has_vids.Goals as goal

pub returns : goal.returns
returns c = λ octets read h. vids-read (reading Mvrp octets) read h
