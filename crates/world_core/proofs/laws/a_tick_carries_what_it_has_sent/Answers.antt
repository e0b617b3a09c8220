use Rattle.world_core.proofs.Carrying.{start_waits_none, none_carried, all_carried}
use Rattle.world_core.proofs.laws.a_tick_carries_what_it_has_sent.Goals as goal

pub returns-clause-begins : goal.returns-clause-begins
returns-clause-begins c = start_waits_none

pub returns-clause-nothing : goal.returns-clause-nothing
returns-clause-nothing c = λ plan t w tick during waits isnt. none_carried c.ports.ensures plan t w tick during waits isnt

pub returns-clause-next : goal.returns-clause-next
returns-clause-next c = λ plan t w tick during. all_carried c.ports.ensures plan t w tick during
