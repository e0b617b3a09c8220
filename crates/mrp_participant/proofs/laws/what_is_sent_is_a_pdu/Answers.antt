use Rattle.std.proofs.Common.{◌∙◌, ap, sym}
use Rattle.mrp_participant.specs.{after, is_active, takes, is_taken, sent_event}
use Rattle.std.specs.List.{filter_map}
use Rattle.mrp_participant.proofs.{Octets.events-ascend, Octets.events-fit, Octets.events-are_some, SentEvents.tried-where_not_silent}
use Rattle.mrp_participant.proofs.laws.what_is_sent_is_a_pdu.Goals as goal

pub returns-clause-ascending : goal.returns-clause-ascending
returns-clause-ascending g c = λ s now are.
    events-ascend g.A.Key.Ord.cmp (is_active s.leave_all) (takes g.A.MrpApp.base g.A.MrpApp.octets g.A.Key.Ord.cmp s) (after now s.leave_time) s.rows are.0

pub returns-clause-fits : goal.returns-clause-fits
returns-clause-fits g c = λ s now are.
    events-fit g.met.A.Key.Ord.total g.A.MrpApp.octets g.A.MrpApp.base (is_active s.leave_all) (after now s.leave_time) s.rows are.0 g.met.A.MrpApp.base_fits

pub returns-clause-says : goal.returns-clause-says
returns-clause-says g c = λ s now are some off empty.
    events-are_some g.met.A.Key.Ord.total g.A.MrpApp.octets g.A.MrpApp.base (after now s.leave_time) s.rows are.0 g.met.A.MrpApp.row_fits
    (tried-where_not_silent s some off)
    (ap (λ b. filter_map (λ r. sent_event b (is_taken g.A.MrpApp.base g.A.MrpApp.octets g.A.Key.Ord.cmp b s.rows r)
    (after now s.leave_time) r) s.rows) (sym off) ∙ empty)
