use Rattle.mrp_participant.proofs.Duties.{own-receive, far-receive}
use Rattle.mrp_participant.proofs.duty_laws.receiving_keeps_duties.Goals as goal

pub returns-clause-own : goal.returns-clause-own
returns-clause-own g c = λ near far sent coming now m are met. own-receive g.met.A.Key.Ord.total near far sent coming now m are met

pub returns-clause-far : goal.returns-clause-far
returns-clause-far g c = λ near far sent coming now m are met. far-receive g.met.A.Key.Ord.total near far sent coming now m are met
