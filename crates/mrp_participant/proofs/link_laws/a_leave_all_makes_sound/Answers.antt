use Rattle.mrp_participant.specs.{other_view}
use Rattle.mrp_participant.proofs.Links.{leave_all-sound_after}
use Rattle.mrp_participant.proofs.link_laws.a_leave_all_makes_sound.Goals as goal

pub returns-clause-near : goal.returns-clause-near
returns-clause-near g c = λ l now on. leave_all-sound_after g.met.A.Key.Ord.total g.A.MrpApp.base g.A.MrpApp.octets now l on

pub returns-clause-far : goal.returns-clause-far
returns-clause-far g c = λ l now on. leave_all-sound_after g.met.A.Key.Ord.total g.A.MrpApp.base g.A.MrpApp.octets now (other_view l) on
