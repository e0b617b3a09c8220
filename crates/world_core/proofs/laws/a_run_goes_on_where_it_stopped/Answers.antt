use Rattle.world_core.proofs.EventLists.{rest_can, rest_after, rest_replies}
use Rattle.world_core.proofs.laws.a_run_goes_on_where_it_stopped.Goals as goal

pub returns-clause-can : goal.returns-clause-can
returns-clause-can c = rest_can

pub returns-clause-after : goal.returns-clause-after
returns-clause-after c = rest_after

pub returns-clause-replies : goal.returns-clause-replies
returns-clause-replies c = rest_replies
