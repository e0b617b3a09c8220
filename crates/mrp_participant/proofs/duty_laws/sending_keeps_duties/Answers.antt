use Rattle.mrp_participant.proofs.Duties.{own-send, own-send_leave_all, far-send}
use Rattle.mrp_participant.proofs.duty_laws.sending_keeps_duties.Goals as goal

pub returns-clause-own : goal.returns-clause-own
returns-clause-own g c = λ near far sent coming now are met. own-send g.met.A.Key.Ord.total g.A.MrpApp.base g.A.MrpApp.octets now near far sent coming are met

pub returns-clause-leave_all : goal.returns-clause-leave_all
returns-clause-leave_all g c = λ near far sent coming now are on. own-send_leave_all g.met.A.Key.Ord.total g.A.MrpApp.base g.A.MrpApp.octets now near far sent coming are on

pub returns-clause-far : goal.returns-clause-far
returns-clause-far g c = λ near far sent coming now are met. far-send g.met.A.Key.Ord.total g.A.MrpApp.base g.A.MrpApp.octets now near far sent coming are met
