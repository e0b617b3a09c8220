use Rattle.std.proofs.Common.{sym, ap, ◌∙◌, subst}
use Rattle.mrp_participant.specs.{Ascends, key_of, rows_as_one}
use Rattle.mrp_participant.proofs.MergeLemmas.{room-front, room-within, room-for_all}
use Rattle.mrp_participant.proofs.hearing.merge.Goals as goal

pub merge_back-requires-clause-rows : goal.merge_back-requires-clause-rows
merge_back-requires-clause-rows g c =
    subst (Ascends g.K.Ord.cmp key_of)
    (sym (room-front g.K.Ord.cmp c.args.heard.now c.args.rows.now.items _ _ _ _ _ _ c.in_ok-resize.ensures.items
    c.args.rows.now.ok.0 c.len-count.ensures c.as_slice.ensures.value c.in_ok-len.ensures)) c.requires.rows

pub merge_back-requires-clause-within : goal.merge_back-requires-clause-within
merge_back-requires-clause-within g c =
    room-within g.K.Ord.cmp c.args.heard.now c.args.rows.now.items _ _ _ _ _ _ c.in_ok-resize.ensures.items
    c.args.rows.now.ok.0 c.len-count.ensures c.as_slice.ensures.value c.in_ok-len.ensures

pub merge_back-requires-clause-room : goal.merge_back-requires-clause-room
merge_back-requires-clause-room g c =
    room-for_all g.K.Ord.cmp c.args.heard.now c.args.rows.now.items _ _ _ _ _ _ c.in_ok-resize.ensures.items
    c.args.rows.now.ok.0 c.len-count.ensures c.as_slice.ensures.value c.in_ok-len.ensures

pub returns-clause-ok : goal.returns-clause-ok
returns-clause-ok g c =
    c.merge_back.ensures
    ∙ ap (rows_as_one g.K.Ord.cmp c.args.heard.now)
    (room-front g.K.Ord.cmp c.args.heard.now c.args.rows.now.items _ _ _ _ _ _ c.in_ok-resize.ensures.items
    c.args.rows.now.ok.0 c.len-count.ensures c.as_slice.ensures.value c.in_ok-len.ensures)
