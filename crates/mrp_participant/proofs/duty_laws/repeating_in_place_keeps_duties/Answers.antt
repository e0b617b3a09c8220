use Rattle.mrp_participant.proofs.Duties.{twice-sent, twice-coming}
use Rattle.mrp_participant.proofs.duty_laws.repeating_in_place_keeps_duties.Goals as goal

pub returns-clause-own : goal.returns-clause-own
returns-clause-own g c = λ near far front back coming m met. twice-sent g.A.Key.Ord.cmp near far front back coming m met

pub returns-clause-far : goal.returns-clause-far
returns-clause-far g c = λ near far front back coming m met. twice-coming g.A.Key.Ord.cmp far near coming front back m met
