use Rattle.mrp_participant.proofs.Octets.{taken-split}
use Rattle.mrp_participant.proofs.laws.taken_rows_are_a_split.Goals as goal

pub returns : goal.returns
returns g c = λ rows leave_all are. taken-split g.met.A.Key.Ord.total leave_all g.A.MrpApp.octets g.A.MrpApp.base rows are.0 g.met.A.MrpApp.base_fits
