use Rattle.mrp_participant.specs.{key_of}
use Rattle.mrp_participant.proofs.Changes.{told-ascend, told-are_keys}
use Rattle.mrp_participant.proofs.laws.told_keys_ascend.Goals as goal

pub returns-clause-receive : goal.returns-clause-receive
returns-clause-receive g c = λ old new are. told-ascend g.A.Key.Ord.cmp key_of _ new are.0

pub returns-clause-receive_rows : goal.returns-clause-receive_rows
returns-clause-receive_rows g c = λ old new k at. told-are_keys key_of _ new k at

pub returns-clause-due : goal.returns-clause-due
returns-clause-due g c = λ s now are. told-ascend g.A.Key.Ord.cmp key_of _ s.rows are.0

pub returns-clause-due_rows : goal.returns-clause-due_rows
returns-clause-due_rows g c = λ s now k at. told-are_keys key_of _ s.rows k at
