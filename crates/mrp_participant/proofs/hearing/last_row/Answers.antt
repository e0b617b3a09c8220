use Rattle.std.proofs.Common.{◌<◌, sym, arith}
use Rattle.mrp_participant.proofs.MergeLemmas.{split-last, last-of_second, last-of_both, last-of_first}
use Rattle.mrp_participant.proofs.hearing.last_row.Goals as goal

pub returns-in-Less-clause-last : goal.returns-in-Less-clause-last
returns-in-Less-clause-last g c =
    let some : 0 < c.args.i = let other = c.if-i-eq0.false in omega arith in
    last-of_second g.met.K.Ord.total _ _ _ _ c.index-heard-j-2.result c.index-rows-i.result (split-last c.args.heard.now c.args.j _ c.requires.more c.requires.within.1 c.index-heard-j-2.is)
    (split-last c.args.rows.now c.args.i _ some c.requires.within.0 c.index-rows-i.is) c.requires.heard c.requires.rows (sym c.in-Less.ensures)

pub returns-in-Equal-clause-last : goal.returns-in-Equal-clause-last
returns-in-Equal-clause-last g c =
    let some : 0 < c.args.i = let other = c.if-i-eq0.false in omega arith in
    last-of_both g.met.K.Ord.total _ _ _ _ c.index-heard-j-2.result c.index-rows-i.result (split-last c.args.heard.now c.args.j _ c.requires.more c.requires.within.1 c.index-heard-j-2.is)
    (split-last c.args.rows.now c.args.i _ some c.requires.within.0 c.index-rows-i.is) c.requires.heard c.requires.rows (sym c.in-Equal.ensures)

pub returns-in-Greater-clause-last : goal.returns-in-Greater-clause-last
returns-in-Greater-clause-last g c =
    let some : 0 < c.args.i = let other = c.if-i-eq0.false in omega arith in
    last-of_first g.met.K.Ord.total _ _ _ _ c.index-heard-j-2.result c.index-rows-i.result (split-last c.args.heard.now c.args.j _ c.requires.more c.requires.within.1 c.index-heard-j-2.is)
    (split-last c.args.rows.now c.args.i _ some c.requires.within.0 c.index-rows-i.is) c.requires.heard c.requires.rows (sym c.in-Greater.ensures)
