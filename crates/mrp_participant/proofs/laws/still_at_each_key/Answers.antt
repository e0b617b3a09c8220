use Rattle.mrp_participant.proofs.StateLemmas.{still-passive, still-rows, settled-at, at_rest-still}
use Rattle.mrp_participant.proofs.laws.still_at_each_key.Goals as goal

pub returns-clause-passive : goal.returns-clause-passive
returns-clause-passive g c = λ s h. still-passive s h

pub returns-clause-quiet : goal.returns-clause-quiet
returns-clause-quiet g c = λ s h k. (settled-at g.A.Key.Ord.cmp s.rows (still-rows s h) k).0

pub returns-clause-not_leaving : goal.returns-clause-not_leaving
returns-clause-not_leaving g c = λ s h k. (settled-at g.A.Key.Ord.cmp s.rows (still-rows s h) k).1

pub returns-clause-still : goal.returns-clause-still
returns-clause-still g c = λ s are passive quiet unleaving. at_rest-still g.met.A.Key.Ord.total s are.0 passive quiet unleaving
