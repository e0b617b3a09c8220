use Rattle.link_net.proofs.Keeping.{kept_event, kept_events}
use Rattle.link_net.proofs.laws.every_event_keeps_it.Goals as goal

pub returns-clause-event : goal.returns-clause-event
returns-clause-event g c = λ e w can ranged kept. kept_event g.N.LinkNode.meaning c.keeps_laws.ensures c.ports.ensures e w can ranged kept

pub returns-clause-events : goal.returns-clause-events
returns-clause-events g c = λ es w can ranged kept. kept_events g.N.LinkNode.meaning c.keeps_laws.ensures c.ports.ensures es w can ranged kept
