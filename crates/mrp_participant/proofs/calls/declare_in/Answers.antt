use Rattle.std.proofs.Common.{ap, ◌∙◌}
use Rattle.std.specs.declared.option.Option.TheVariants.{Some}
use Rattle.mrp_participant.specs.{after_declare, declared_row}
use Rattle.mrp_participant.proofs.{Exits.on_ok, Places.put-at_row, Places.put-at_gap}
use Rattle.mrp_participant.proofs.calls.declare_in.Goals as goal

pub returns-in-Ok-clause-ok : goal.returns-in-Ok-clause-ok
returns-in-Ok-clause-ok g c =
    put-at_row c.args.rows.now.items _ _ c.as_slice.ensures.value
    (after_declare g.C.PartialEq.eq c.args.key c.args.content) _ c.index.result.now (Some c.declared-row.result)
    c.in-Ok.ensures.row c.index.ensures (ap Some c.declared-row.ensures) c.replace_row.ensures.rows

pub returns-in-Err-clause-ok : goal.returns-in-Err-clause-ok
returns-in-Err-clause-ok g c =
    on_ok c.fill_row.result _ _
    (λ filled.
    put-at_gap c.args.rows.now.items _ _ c.as_slice.ensures.value
    (after_declare g.C.PartialEq.eq c.args.key c.args.content) _ (Some c.declared-row-in-Err.result)
    c.in-Err.ensures.gap (ap Some (c.declared-row-in-Err.ensures ∙ ap (declared_row g.C.PartialEq.eq c.args.content) c.fresh.ensures)) filled)
    c.fill_row.ensures.ok
