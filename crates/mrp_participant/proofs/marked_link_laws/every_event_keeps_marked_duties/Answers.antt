use Rattle.mrp_participant.proofs.MarkedLinks.{event-marked, events-marked}
use Rattle.mrp_participant.proofs.marked_link_laws.every_event_keeps_marked_duties.Goals as goal

pub returns-clause-event : goal.returns-clause-event
returns-clause-event g c = λ l e met. event-marked g.met.A.Key.Ord.total g.A.MrpApp.base g.A.MrpApp.octets g.A.Content.PartialEq.eq l e met

pub returns-clause-events : goal.returns-clause-events
returns-clause-events g c = λ l events met. events-marked g.met.A.Key.Ord.total g.A.MrpApp.base g.A.MrpApp.octets g.A.Content.PartialEq.eq events l met
