use Rattle.world_core.proofs.Changes.{steps_are_moment}
use Rattle.world_core.proofs.timeline_laws.a_moment_follows_each_ticks_steps.Goals as goal

pub returns : goal.returns
returns c = steps_are_moment
