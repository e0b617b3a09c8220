use Rattle.world_core.proofs.Acting.{quiet_node_keeps}
use Rattle.world_core.proofs.timeline_laws.only_a_node_that_acts_changes_what_is_in_force.Goals as goal

pub returns : goal.returns
returns c = quiet_node_keeps
