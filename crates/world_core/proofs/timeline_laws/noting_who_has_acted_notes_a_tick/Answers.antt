use Rattle.world_core.proofs.Histories.{acts_are_all}
use Rattle.world_core.proofs.timeline_laws.noting_who_has_acted_notes_a_tick.Goals as goal

pub returns : goal.returns
returns c = acts_are_all
