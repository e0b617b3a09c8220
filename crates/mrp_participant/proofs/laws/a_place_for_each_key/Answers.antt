use Rattle.mrp_participant.proofs.StateLemmas.{found-at, declared-place, registered-place}
use Rattle.mrp_participant.proofs.laws.a_place_for_each_key.Goals as goal

pub returns-clause-found : goal.returns-clause-found
returns-clause-found g c = λ s i r are h. found-at g.met.A.Key.Ord.total s.rows are.0 i r h

pub returns-clause-declared : goal.returns-clause-declared
returns-clause-declared g c = λ s k h. declared-place g.A.Key.Ord.cmp g.met.A.MrpApp.one_key s.rows k h

pub returns-clause-registered : goal.returns-clause-registered
returns-clause-registered g c = λ s k h. registered-place g.A.Key.Ord.cmp g.met.A.MrpApp.one_key s.rows k h
