use Rattle.mrp_participant.proofs.Links.{event-near_sound, event-far_sound}
use Rattle.mrp_participant.proofs.link_laws.only_a_loss_ends_soundness.Goals as goal

pub returns-clause-near : goal.returns-clause-near
returns-clause-near g c = λ l e kept sound. event-near_sound g.met.A.Key.Ord.total g.A.MrpApp.base g.A.MrpApp.octets g.A.Content.PartialEq.eq l e kept sound

pub returns-clause-far : goal.returns-clause-far
returns-clause-far g c = λ l e kept sound. event-far_sound g.met.A.Key.Ord.total g.A.MrpApp.base g.A.MrpApp.octets g.A.Content.PartialEq.eq l e kept sound
