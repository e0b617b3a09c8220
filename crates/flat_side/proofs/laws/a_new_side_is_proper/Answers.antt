use Rattle.flat_side.proofs.ProperLemmas.{proper-new}
use Rattle.flat_side.proofs.laws.a_new_side_is_proper.Goals as goal

pub returns : goal.returns
returns g c = λ leave_time periodic ports.
    proper-new g.A.Key.Ord.cmp (record { order = g.met.A.Key.Ord.total; one = g.met.A.MrpApp.one_key; told = c.each_port_is_told.ensures }) g.A.FlatApp.is_key
    leave_time periodic ports
