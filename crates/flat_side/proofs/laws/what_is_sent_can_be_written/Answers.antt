use Rattle.mrp_participant.specs.State.{is_active, event_sent, sent_events}
use Rattle.flat_side.proofs.{SendingLemmas.fitting, ProperLemmas.events-keys}
use Rattle.flat_side.proofs.laws.what_is_sent_can_be_written.Goals as goal

pub returns-clause-fitting : goal.returns-clause-fitting
returns-clause-fitting g c = λ now s rows speaks.
    fitting g.A.MrpApp.base g.A.MrpApp.octets (is_active s.leave_all) (sent_events g.A.MrpApp.base g.A.MrpApp.octets g.A.Key.Ord.cmp now s)
    (c.what_is_sent_is_a_pdu.ensures.fits s now rows) (c.what_is_sent_is_a_pdu.ensures.says s now rows speaks)

pub returns-clause-keys : goal.returns-clause-keys
returns-clause-keys g c = λ now s rows own.
    events-keys g.A.Key.Ord.cmp (record { order = g.met.A.Key.Ord.total; one = g.met.A.MrpApp.one_key; told = c.each_port_is_told.ensures }) g.A.FlatApp.is_key
    s own (λ r. event_sent g.A.MrpApp.base g.A.MrpApp.octets g.A.Key.Ord.cmp now s r) (sent_events g.A.MrpApp.base g.A.MrpApp.octets g.A.Key.Ord.cmp now s)
    (λ e inside. c.what_is_sent_is_declared.ensures.event s now e rows inside)
