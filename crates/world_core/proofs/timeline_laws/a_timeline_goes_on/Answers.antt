use Rattle.world_core.proofs.Timelines.{no_ticks, tick_noted, tick_same, next_world}
use Rattle.world_core.proofs.timeline_laws.a_timeline_goes_on.Goals as goal

pub returns-clause-begins : goal.returns-clause-begins
returns-clause-begins c = no_ticks

pub returns-clause-noted : goal.returns-clause-noted
returns-clause-noted c = tick_noted

pub returns-clause-same : goal.returns-clause-same
returns-clause-same c = tick_same

pub returns-clause-next : goal.returns-clause-next
returns-clause-next c = next_world
