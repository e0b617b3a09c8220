use Rattle.world_core.proofs.Timelines.{noted_before, noted_from}
use Rattle.world_core.proofs.timeline_laws.what_is_noted_is_in_force.Goals as goal

pub returns-clause-before : goal.returns-clause-before
returns-clause-before c = noted_before

pub returns-clause-from : goal.returns-clause-from
returns-clause-from c = noted_from
