use Rattle.std.proofs.Common.{◌∙◌}
use Rattle.mrp_participant.specs.{key_of}
use Rattle.mrp_participant.proofs.Places.{at-place, past-last}
use Rattle.mrp_participant.proofs.participant.row_key.Goals as goal

pub returns-in_err-row : goal.returns-in_err-row
returns-in_err-row g c = c.from_residual.ensures ∙ past-last key_of c.args.rows.now c.args.index c.in_err-row.ensures.lookup.3

pub returns : goal.returns
returns g c = at-place key_of c.args.rows.now c.args.index c.in_ok-row.row.now c.in_ok-row.ensures.lookup.3.0 c.in_ok-row.ensures.lookup.1
