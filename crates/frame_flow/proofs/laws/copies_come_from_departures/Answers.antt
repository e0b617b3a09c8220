use Rattle.frame_flow.proofs.OriginLemmas.{sources}
use Rattle.frame_flow.proofs.laws.copies_come_from_departures.Goals as goal

pub returns : goal.returns
returns c s flows place port = sources s flows place port
