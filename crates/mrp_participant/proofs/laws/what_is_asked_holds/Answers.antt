use Rattle.std.proofs.Common.{◌∙◌, ap}
use Rattle.std.specs.declared.option.Option.TheVariants.{None, Some}
use Rattle.mrp_participant.specs.{find, declared_in, registered_in, after_declare, after_withdraw, after_leave, is_leaving_in}
use Rattle.mrp_participant.proofs.{EachKey.each-declare, EachKey.each-withdraw, EachKey.each-leave, DeclarationLemmas.declare-declared, DeclarationLemmas.withdraw-declared, DeclarationLemmas.leave-registered, DeclarationLemmas.becomes-at, DeclarationLemmas.becomes_if-at}
use Rattle.mrp_participant.proofs.laws.what_is_asked_holds.Goals as goal

pub returns-clause-declare : goal.returns-clause-declare
returns-clause-declare g c = λ s key content are k.
    ap declared_in (each-declare g.met.A.Key.Ord.total g.A.Content.PartialEq.eq key content s.rows are k)
    ∙ becomes-at g.met.A.Key.Ord.total declared_in
    (after_declare g.A.Content.PartialEq.eq key content (find g.A.Key.Ord.cmp key s.rows))
    (Some content) key k s.rows
    (declare-declared g.A.Content.PartialEq.eq g.met.A.MrpApp.one_content c.uses.ensures.declared c.uses.ensures.redeclared key content (find g.A.Key.Ord.cmp key s.rows))

pub returns-clause-withdraw : goal.returns-clause-withdraw
returns-clause-withdraw g c = λ s key are k.
    ap declared_in (each-withdraw g.met.A.Key.Ord.total key s.rows are k)
    ∙ becomes-at g.met.A.Key.Ord.total declared_in (after_withdraw (find g.A.Key.Ord.cmp key s.rows)) None key k s.rows
    (withdraw-declared c.uses.ensures.withdrawn (find g.A.Key.Ord.cmp key s.rows))

pub returns-clause-leave_due : goal.returns-clause-leave_due
returns-clause-leave_due g c = λ s key are k.
    ap registered_in (each-leave g.met.A.Key.Ord.total key s.rows are k)
    ∙ becomes_if-at g.met.A.Key.Ord.total registered_in
    (after_leave (find g.A.Key.Ord.cmp key s.rows)) None key k s.rows
    (is_leaving_in (find g.A.Key.Ord.cmp key s.rows))
    (leave-registered (find g.A.Key.Ord.cmp key s.rows))
