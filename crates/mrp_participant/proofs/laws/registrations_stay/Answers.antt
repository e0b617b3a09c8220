use Rattle.std.proofs.Common.{◌∙◌, ap, refl}
use Rattle.mrp_participant.specs.{find, registered_in, after_declare, after_withdraw, periodic_row, after, is_active, takes}
use Rattle.mrp_participant.proofs.{Changes.periodic-registered, EachKey.each-declare, EachKey.each-withdraw, EachKey.each-mapped, EachKey.each-kept, Sendings.sent-keeps, DeclarationLemmas.declare-registered, DeclarationLemmas.withdraw-registered, DeclarationLemmas.sent-registered, DeclarationLemmas.stays-at}
use Rattle.mrp_participant.proofs.laws.registrations_stay.Goals as goal

pub returns-clause-declare : goal.returns-clause-declare
returns-clause-declare g c = λ s key content are k.
    ap registered_in (each-declare g.met.A.Key.Ord.total g.A.Content.PartialEq.eq key content s.rows are k)
    ∙ stays-at g.met.A.Key.Ord.total registered_in
    (after_declare g.A.Content.PartialEq.eq key content (find g.A.Key.Ord.cmp key s.rows)) key k s.rows
    (declare-registered g.A.Content.PartialEq.eq key content (find g.A.Key.Ord.cmp key s.rows))

pub returns-clause-withdraw : goal.returns-clause-withdraw
returns-clause-withdraw g c = λ s key are k.
    ap registered_in (each-withdraw g.met.A.Key.Ord.total key s.rows are k)
    ∙ stays-at g.met.A.Key.Ord.total registered_in (after_withdraw (find g.A.Key.Ord.cmp key s.rows)) key k s.rows
    (withdraw-registered (find g.A.Key.Ord.cmp key s.rows))

pub returns-clause-periodic_due : goal.returns-clause-periodic_due
returns-clause-periodic_due g c = λ s k.
    ap registered_in (each-mapped g.met.A.Key.Ord.total periodic_row (λ r. refl) s.rows k) ∙ periodic-registered (find g.A.Key.Ord.cmp k s.rows)

pub returns-clause-send : goal.returns-clause-send
returns-clause-send g c = λ s now are k.
    ap registered_in (each-kept g.met.A.Key.Ord.total _ (sent-keeps (is_active s.leave_all)
    (takes g.A.MrpApp.base g.A.MrpApp.octets g.A.Key.Ord.cmp s) (after now s.leave_time)) s.rows are.0 k)
    ∙ sent-registered (is_active s.leave_all) (takes g.A.MrpApp.base g.A.MrpApp.octets g.A.Key.Ord.cmp s)
    (after now s.leave_time) (find g.A.Key.Ord.cmp k s.rows)
