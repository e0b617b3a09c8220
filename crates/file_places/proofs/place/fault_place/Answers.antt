use Rattle.file_places.proofs.DocumentLemmas.{text_fault}
use Rattle.file_places.proofs.place.fault_place.Goals as goal

pub returns : goal.returns
returns c = text_fault c.args.octets.now c.args.error.now _ c.requires.utf8 c.requires.within (c.requires.refused c.in_ok-place.ensures.refused) c.in_ok-place.ensures.place
