use Rattle.mrp_participant.proofs.Idle.{due-none, left-none, count-none}
use Rattle.mrp_participant.proofs.laws.nothing_due_changes_nothing.Goals as goal

pub returns-clause-state : goal.returns-clause-state
returns-clause-state g c = λ s now none. due-none s now none

pub returns-clause-left : goal.returns-clause-left
returns-clause-left g c = λ s now none. left-none s now none

pub returns-clause-count : goal.returns-clause-count
returns-clause-count g c = λ s now none. count-none s now none
