use Rattle.mrp_participant.proofs.Duties.{own-periodic, far-periodic}
use Rattle.mrp_participant.proofs.duty_laws.periodic_transmission_keeps_duties.Goals as goal

pub returns-clause-own : goal.returns-clause-own
returns-clause-own g c = λ near far sent coming met. own-periodic g.met.A.Key.Ord.total near far sent coming met

pub returns-clause-far : goal.returns-clause-far
returns-clause-far g c = λ near far sent coming met. far-periodic g.met.A.Key.Ord.total near far sent coming met
