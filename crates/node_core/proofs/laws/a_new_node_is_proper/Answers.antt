use Rattle.node_core.proofs.ProperSteps.{proper-new}
use Rattle.node_core.proofs.laws.a_new_node_is_proper.Goals as goal

pub returns : goal.returns
returns c = λ kind bridge leave_time periodic domain ports few fits.
    proper-new kind bridge leave_time periodic domain ports (c.a_new_side_is_proper.ensures leave_time periodic ports)
    (c.a_new_side_is_proper-2.ensures bridge leave_time periodic domain ports fits) few
