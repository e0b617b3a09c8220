use Rattle.mrp_participant.proofs.Changes.{due-told, due-only}
use Rattle.mrp_participant.proofs.laws.due_tells_each_change.Goals as goal

pub returns-clause-told : goal.returns-clause-told
returns-clause-told g c = λ s now are k. due-told g.met.A.Key.Ord.total g.met.A.MrpApp.one_key now s are k

pub returns-clause-was : goal.returns-clause-was
returns-clause-was g c = λ s now are k at. (due-only g.met.A.Key.Ord.total now s are k at).1

pub returns-clause-only : goal.returns-clause-only
returns-clause-only g c = λ s now are k at. (due-only g.met.A.Key.Ord.total now s are k at).0
