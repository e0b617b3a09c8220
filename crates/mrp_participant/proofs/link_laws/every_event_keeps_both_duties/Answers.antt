use Rattle.mrp_participant.proofs.Links.{event-met, events-met}
use Rattle.mrp_participant.proofs.link_laws.every_event_keeps_both_duties.Goals as goal

pub returns-clause-event : goal.returns-clause-event
returns-clause-event g c = λ l e met. event-met g.met.A.Key.Ord.total g.A.MrpApp.base g.A.MrpApp.octets g.A.Content.PartialEq.eq l e met

pub returns-clause-events : goal.returns-clause-events
returns-clause-events g c = λ l events met. events-met g.met.A.Key.Ord.total g.A.MrpApp.base g.A.MrpApp.octets g.A.Content.PartialEq.eq events l met
