use Rattle.mrp_participant.proofs.Duties.{own-declare, far-declare}
use Rattle.mrp_participant.proofs.duty_laws.declaring_keeps_duties.Goals as goal

pub returns-clause-own : goal.returns-clause-own
returns-clause-own g c = λ near far sent coming key content are met. own-declare g.met.A.Key.Ord.total g.A.Content.PartialEq.eq near far sent coming key content are met

pub returns-clause-far : goal.returns-clause-far
returns-clause-far g c = λ near far sent coming key content are met. far-declare g.met.A.Key.Ord.total g.A.Content.PartialEq.eq near far sent coming key content are met
