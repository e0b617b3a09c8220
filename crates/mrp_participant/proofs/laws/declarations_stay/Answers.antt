use Rattle.std.proofs.Common.{◌∙◌, ap}
use Rattle.mrp_participant.specs.{find, declared_in, after_leave, after_leave_due, periodic_row, after, is_active, takes, is_periodic_due}
use Rattle.std.proofs.Common.{option_and_then, refl}
use Rattle.mrp_participant.proofs.{EachKey.each-receive, EachKey.each-leave, EachKey.each-mapped, EachKey.each-kept, Sendings.sent-keeps, StateLemmas.each-due, DeclarationLemmas.receive-declared, DeclarationLemmas.leave-declared, DeclarationLemmas.due-declared, DeclarationLemmas.periodic-declared, DeclarationLemmas.periodic_if-declared, DeclarationLemmas.sent-declared, DeclarationLemmas.stays-at}
use Rattle.mrp_participant.proofs.laws.declarations_stay.Goals as goal

pub returns-clause-receive : goal.returns-clause-receive
returns-clause-receive g c = λ s now leave_all events are k.
    ap declared_in (each-receive g.met.A.Key.Ord.total (after now s.leave_time) leave_all events s.rows are k)
    ∙ receive-declared c.events_keep_declarations.ensures g.A.Key.Ord.cmp (after now s.leave_time) leave_all events k (find g.A.Key.Ord.cmp k s.rows)

pub returns-clause-leave_due : goal.returns-clause-leave_due
returns-clause-leave_due g c = λ s key are k.
    ap declared_in (each-leave g.met.A.Key.Ord.total key s.rows are k)
    ∙ stays-at g.met.A.Key.Ord.total declared_in (after_leave (find g.A.Key.Ord.cmp key s.rows)) key k s.rows (leave-declared (find g.A.Key.Ord.cmp key s.rows))

pub returns-clause-due : goal.returns-clause-due
returns-clause-due g c = λ s now are k.
    ap declared_in (each-due g.met.A.Key.Ord.total now s are.0 k)
    ∙ (periodic_if-declared c.events_keep_declarations.ensures (is_periodic_due now s) (option_and_then (after_leave_due now.0) (find g.A.Key.Ord.cmp k s.rows))
    ∙ due-declared now.0 (find g.A.Key.Ord.cmp k s.rows))

pub returns-clause-periodic_due : goal.returns-clause-periodic_due
returns-clause-periodic_due g c = λ s k.
    ap declared_in (each-mapped g.met.A.Key.Ord.total periodic_row (λ r. refl) s.rows k)
    ∙ periodic-declared c.events_keep_declarations.ensures (find g.A.Key.Ord.cmp k s.rows)

pub returns-clause-send : goal.returns-clause-send
returns-clause-send g c = λ s now are k.
    ap declared_in (each-kept g.met.A.Key.Ord.total _ (sent-keeps (is_active s.leave_all)
    (takes g.A.MrpApp.base g.A.MrpApp.octets g.A.Key.Ord.cmp s) (after now s.leave_time)) s.rows are.0 k)
    ∙ sent-declared c.events_keep_declarations.ensures (is_active s.leave_all)
    (takes g.A.MrpApp.base g.A.MrpApp.octets g.A.Key.Ord.cmp s) (after now s.leave_time)
    (find g.A.Key.Ord.cmp k s.rows)
