use Rattle.std.proofs.Common.{ap, sym, ◌∙◌, option_map, option_and_then}
use Rattle.std.specs.declared.option.Option.TheVariants.{Some}
use Rattle.mrp_participant.specs.{after, is_active, takes, event_sent}
use Rattle.mrp_participant.proofs.{Octets.sent_is, SentEvents.row-of_event, SentEvents.event-declared}
use Rattle.mrp_participant.proofs.laws.what_is_sent_is_declared.Goals as goal

pub returns-clause-event : goal.returns-clause-event
returns-clause-event g c = λ s now e are at.
    let found = row-of_event g.met.A.Key.Ord.total (is_active s.leave_all)
    (takes g.A.MrpApp.base g.A.MrpApp.octets g.A.Key.Ord.cmp s) (after now s.leave_time) s.rows e are.0 at in
    ap (option_and_then (λ r. event_sent g.A.MrpApp.base g.A.MrpApp.octets g.A.Key.Ord.cmp now s r)) found.1 ∙ found.2

pub returns-clause-content : goal.returns-clause-content
returns-clause-content g c = λ s now e are at.
    let found = row-of_event g.met.A.Key.Ord.total (is_active s.leave_all)
    (takes g.A.MrpApp.base g.A.MrpApp.octets g.A.Key.Ord.cmp s) (after now s.leave_time) s.rows e are.0 at in
    ap (option_map (λ r. r.content)) found.1
    ∙ ap Some
    (sym (sent_is (is_active s.leave_all) (takes g.A.MrpApp.base g.A.MrpApp.octets g.A.Key.Ord.cmp s found.0)
    (after now s.leave_time) found.0 e found.2).1)

pub returns-clause-declared : goal.returns-clause-declared
returns-clause-declared g c = λ s now e are at.
    let found = row-of_event g.met.A.Key.Ord.total (is_active s.leave_all)
    (takes g.A.MrpApp.base g.A.MrpApp.octets g.A.Key.Ord.cmp s) (after now s.leave_time) s.rows e are.0 at in
    event-declared (is_active s.leave_all) _ (after now s.leave_time) found.0 e _ found.1 found.2
