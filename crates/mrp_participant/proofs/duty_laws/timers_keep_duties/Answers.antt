use Rattle.mrp_participant.proofs.Duties.{own-due, far-due}
use Rattle.mrp_participant.proofs.duty_laws.timers_keep_duties.Goals as goal

pub returns-clause-own : goal.returns-clause-own
returns-clause-own g c = λ near far sent coming now are met. own-due g.met.A.Key.Ord.total near far sent coming now are met

pub returns-clause-far : goal.returns-clause-far
returns-clause-far g c = λ near far sent coming now are met. far-due g.met.A.Key.Ord.total near far sent coming now are met
