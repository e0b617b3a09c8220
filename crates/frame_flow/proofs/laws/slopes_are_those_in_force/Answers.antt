use Rattle.frame_flow.specs.{changes_at}
use Rattle.frame_flow.proofs.{SlopeLemmas.changes-ascend, ForceLemmas.slopes-in-force}
use Rattle.frame_flow.proofs.laws.slopes_are_those_in_force.Goals as goal

pub returns : goal.returns
returns c s place copies t given h =
    slopes-in-force place.rate s.ticks t (changes_at s.changes place.at) (changes-ascend s.changes place.at given.range.changes) h
