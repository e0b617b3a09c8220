use Rattle.std.proofs.Common.{◌∙◌, ap, sym}
use Rattle.srp_base.proofs.Lists.{get-place}
use Rattle.mrp_participant.specs.{registered_in}
use Rattle.mrp_participant.proofs.StateLemmas.{found-at}
use Rattle.mrp_participant.proofs.participant.row_registration.Goals as goal

pub returns-clause-content : goal.returns-clause-content
returns-clause-content g c =
    let at = get-place c.args.rows.now c.args.index c.in_ok-row.row.now c.in_ok-row.ensures.lookup.3.0 c.in_ok-row.ensures.lookup.1 in
    c.registered.ensures ∙ ap registered_in (sym (found-at g.met.K.Ord.total c.args.rows.now c.requires c.args.index c.in_ok-row.row.now at))
