use Rattle.file_places.proofs.DocumentLemmas.{utf8_fault}
use Rattle.file_places.proofs.place.toml_place.Goals as goal

pub returns-in_ok-utf8_place-in-Err-clause-some : goal.returns-in_ok-utf8_place-in-Err-clause-some
returns-in_ok-utf8_place-in-Err-clause-some c =
    utf8_fault c.args.octets.now c.in_ok-utf8_place-in-Err.field-0 c.in-Err.ensures.cases.0 c.in_ok-utf8_place-in-Err.ensures
