use Rattle.world_core.proofs.{Reservations.closing_keeps, Timelines.start_says}
use Rattle.world_core.proofs.timeline_laws.what_ends_a_tick_changes_nothing_in_force.Goals as goal

pub returns-clause-start : goal.returns-clause-start
returns-clause-start c = start_says

pub returns-clause-closing : goal.returns-clause-closing
returns-clause-closing c = closing_keeps
