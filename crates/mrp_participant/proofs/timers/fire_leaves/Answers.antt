use Rattle.std.proofs.Common.{◌≡◌, ◌∙◌, ◌++◌, true, false, refl, sym, ap, subst, map, filter}
use Rattle.std.specs.List.{list_any}
use Rattle.mrp_participant.specs.{key_of, IsOutlook, leave_is_due}
use Rattle.mrp_participant.proofs.{Changes.none-leave, OutlookLemmas.due-says}
use Rattle.mrp_participant.proofs.timers.fire_leaves.Goals as goal

pub returns-then-not-has_due-clause-keys : goal.returns-then-not-has_due-clause-keys
returns-then-not-has_due-clause-keys g c =
    let none : list_any (leave_is_due c.args.now.0) c.args.rows.now.items
    ≡ false = sym
    (due-says c.args.now.0 c.args.outlook.now.first_leave c.args.rows.now.items c.requires.outlook.0.first c.requires.outlook.1)
    ∙ (sym c.has_due.ensures ∙ c.if-not-has_due.true) in
    c.requires.empty ∙ sym (none-leave c.args.now.0 c.args.rows.now.items _ _ refl (sym none) refl).0

pub returns-then-not-has_due-clause-rows : goal.returns-then-not-has_due-clause-rows
returns-then-not-has_due-clause-rows g c =
    let none : list_any (leave_is_due c.args.now.0) c.args.rows.now.items
    ≡ false = sym
    (due-says c.args.now.0 c.args.outlook.now.first_leave c.args.rows.now.items c.requires.outlook.0.first c.requires.outlook.1)
    ∙ (sym c.has_due.ensures ∙ c.if-not-has_due.true) in
    sym (none-leave c.args.now.0 c.args.rows.now.items _ _ refl (sym none) refl).1

pub returns-in_err-reserve-clause-none : goal.returns-in_err-reserve-clause-none
returns-in_err-reserve-clause-none g c none =
    let says = due-says c.args.now.0 c.args.outlook.now.first_leave c.args.rows.now.items c.requires.outlook.0.first c.requires.outlook.1 in
    let no : true ≡ false = sym c.if-not-has_due.false ∙ (c.has_due.ensures ∙ (says ∙ none)) in
    cc

pub returns-clause-keys : goal.returns-clause-keys
returns-clause-keys g c =
    c.keys_that_leave.ensures
    ∙ ap (λ l. l ++ map key_of (filter (leave_is_due c.args.now.0) c.as_slice.result.now)) (c.in_ok-reserve.ensures.items ∙ c.requires.empty)
    ∙ ap (λ l. map key_of (filter (leave_is_due c.args.now.0) l)) c.as_slice.ensures.value

pub returns-clause-outlook : goal.returns-clause-outlook
returns-clause-outlook g c = subst (IsOutlook c.outlook_of.result) c.as_slice-2.ensures.value c.outlook_of.ensures
