use Rattle.group_run.proofs.Happening.{known_neighbours}
use Rattle.group_run.proofs.laws.what_events_name_are_neighbours.Goals as goal

pub returns : goal.returns
returns c = λ plan kind rules known. known_neighbours plan rules kind known
