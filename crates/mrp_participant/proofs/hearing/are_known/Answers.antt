use Rattle.std.proofs.Common.{◌&&◌, ◌+◌, drop, refl, sym, ap, ◌∙◌}
use Rattle.std.proofs.lemmas.List.{drop_all}
use Rattle.std.specs.{List.list_all, Option.is_some}
use Rattle.mrp_participant.specs.{find}
use Rattle.mrp_participant.proofs.Places.{all-front}
use Rattle.mrp_participant.proofs.hearing.are_known.Goals as goal

pub returns-then-is_none : goal.returns-then-is_none
returns-then-is_none g c =
    sym (c.loop-row.invariant ∙ all-front (λ u. is_some (find g.K.Ord.cmp u.key c.args.rows.now)) c.args.heard.now _ _ c.loop-row-test.true c.row-item.is
    ∙ ap (λ b. b && list_all (λ u. is_some (find g.K.Ord.cmp u.key c.args.rows.now))
    (drop (c.loop-row.row-index + 1) c.args.heard.now)) (ap is_some (sym c.find_near.ensures)
    ∙ c.if-is_none.ensures))

pub loop-row-preserved : goal.loop-row-preserved
loop-row-preserved g c =
    c.loop-row.invariant ∙ all-front (λ u. is_some (find g.K.Ord.cmp u.key c.args.rows.now)) c.args.heard.now _ _ c.loop-row-test.true c.row-item.is
    ∙ ap (λ b. b && list_all (λ u. is_some (find g.K.Ord.cmp u.key c.args.rows.now))
    (drop (c.loop-row.row-index + 1) c.args.heard.now)) (ap is_some (sym c.find_near.ensures)
    ∙ c.if-is_none.ensures)

pub loop-row-init : goal.loop-row-init
loop-row-init g c = refl

pub offset_bounds-heard-row-index : goal.offset_bounds-heard-row-index
offset_bounds-heard-row-index g c = c.loop-row.auto.row-index-end

pub find_near-requires : goal.find_near-requires
find_near-requires g c = c.requires

pub returns : goal.returns
returns g c = sym (c.loop-row.invariant ∙ ap (list_all (λ u. is_some (find g.K.Ord.cmp u.key c.args.rows.now)))
    (drop_all _ c.args.heard.now c.loop-row-test.false))
