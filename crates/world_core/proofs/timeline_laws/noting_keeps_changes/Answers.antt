use Rattle.world_core.proofs.Timelines.{noted_changes}
use Rattle.world_core.proofs.timeline_laws.noting_keeps_changes.Goals as goal

pub returns : goal.returns
returns c = noted_changes
