use Rattle.std.proofs.Common.{◌∙◌, ap, sym}
use Rattle.std.proofs.lemmas.List.{get_or_default}
use Rattle.mrp_participant.specs.declared.row.Row.{Row}
use Rattle.mrp_participant.proofs.Lookups.{row_at}
use Rattle.mrp_participant.proofs.lookup.stands_at.Goals as goal

pub returns-in-Equal : goal.returns-in-Equal
returns-in-Equal g c is =
    row_at g.met.K.Ord.total _ _ _ c.requires c.if-rows-at.false
    (λ d.
    ap (λ (r : Row g.row.K.Denot g.row.C.Denot). g.K.Ord.cmp r.key c.args.key.now)
    (get_or_default c.args.rows.now c.args.at d c.index-rows-at.result c.if-rows-at.false)
    ∙ (sym c.cmp.ensures ∙ c.in-Equal.is))
