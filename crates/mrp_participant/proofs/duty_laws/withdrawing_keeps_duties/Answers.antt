use Rattle.mrp_participant.proofs.Duties.{own-withdraw, far-withdraw}
use Rattle.mrp_participant.proofs.duty_laws.withdrawing_keeps_duties.Goals as goal

pub returns-clause-own : goal.returns-clause-own
returns-clause-own g c = λ near far sent coming key are met. own-withdraw g.met.A.Key.Ord.total near far sent coming key are met

pub returns-clause-far : goal.returns-clause-far
returns-clause-far g c = λ near far sent coming key are met. far-withdraw g.met.A.Key.Ord.total near far sent coming key are met
