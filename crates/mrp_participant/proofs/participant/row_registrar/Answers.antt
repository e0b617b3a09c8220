use Rattle.std.proofs.Common.{◌∙◌}
use Rattle.mrp_participant.specs.declared.row.Row.{Row}
use Rattle.mrp_participant.proofs.Places.{at-place, past-last}
use Rattle.mrp_participant.proofs.participant.row_registrar.Goals as goal

pub returns-in_err-row : goal.returns-in_err-row
returns-in_err-row g c = c.from_residual.ensures ∙ past-last (λ (r : Row _ _). r.registrar) c.args.rows.now c.args.index c.in_err-row.ensures.lookup.3

pub returns : goal.returns
returns g c = at-place
    (λ (r : Row _ _). r.registrar) c.args.rows.now c.args.index c.in_ok-row.row.now c.in_ok-row.ensures.lookup.3.0 c.in_ok-row.ensures.lookup.1
