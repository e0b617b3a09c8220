use Rattle.mrp_participant.proofs.StateLemmas.{row-kept, row-place}
use Rattle.mrp_participant.proofs.laws.a_row_where_something_is_kept.Goals as goal

pub returns-clause-row : goal.returns-clause-row
returns-clause-row g c = λ s are k. row-kept g.met.A.Key.Ord.total s.rows k are.1

pub returns-clause-place : goal.returns-clause-place
returns-clause-place g c = λ s are k. row-place g.met.A.Key.Ord.total g.met.A.MrpApp.one_key s.rows are.0 k
