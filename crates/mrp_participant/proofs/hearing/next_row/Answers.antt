use Rattle.std.proofs.Common.{◌<◌, length, arith, sym}
use Rattle.std.specs.declared.cmp.Ordering.TheVariants.{Less, Equal, Greater}
use Rattle.mrp_participant.proofs.Hearings.{next-of_first, next-of_second, next-of_both}
use Rattle.mrp_participant.proofs.hearing.next_row.Goals as goal

pub returns-then-j-heard-clause-next : goal.returns-then-j-heard-clause-next
returns-then-j-heard-clause-next g c =
    next-of_second g.K.Ord.cmp c.args.heard.now c.args.rows.now c.args.i c.args.j
    (let more = c.requires.more in let end = c.if-j-heard.true in omega arith) _ c.if-j-heard.true c.index-rows-i.is

pub returns-then-i-rows-clause-next : goal.returns-then-i-rows-clause-next
returns-then-i-rows-clause-next g c =
    next-of_first g.K.Ord.cmp c.args.heard.now c.args.rows.now c.args.i c.args.j _ c.if-i-rows.true
    (let within = c.requires.within in let other = c.if-j-heard.false in omega arith) c.index-heard-j.is

pub returns-in-Less-clause-next : goal.returns-in-Less-clause-next
returns-in-Less-clause-next g c =
    let below : c.args.j < length c.args.heard.now = let within = c.requires.within in let other = c.if-j-heard.false in omega arith in
    let within : c.args.i < length c.args.rows.now = let within = c.requires.within in let other = c.if-i-rows.false in omega arith in
    next-of_both g.K.Ord.cmp c.args.heard.now c.args.rows.now c.args.i c.args.j within Less c.index-heard-j-2.result
    c.index-rows-i-2.result below c.index-heard-j-2.is c.index-rows-i-2.is (sym c.in-Less.ensures)

pub returns-in-Equal-clause-next : goal.returns-in-Equal-clause-next
returns-in-Equal-clause-next g c =
    let below : c.args.j < length c.args.heard.now = let within = c.requires.within in let other = c.if-j-heard.false in omega arith in
    let within : c.args.i < length c.args.rows.now = let within = c.requires.within in let other = c.if-i-rows.false in omega arith in
    next-of_both g.K.Ord.cmp c.args.heard.now c.args.rows.now c.args.i c.args.j within Equal c.index-heard-j-2.result
    c.index-rows-i-2.result below c.index-heard-j-2.is c.index-rows-i-2.is (sym c.in-Equal.ensures)

pub returns-in-Greater-clause-next : goal.returns-in-Greater-clause-next
returns-in-Greater-clause-next g c =
    let below : c.args.j < length c.args.heard.now = let within = c.requires.within in let other = c.if-j-heard.false in omega arith in
    let within : c.args.i < length c.args.rows.now = let within = c.requires.within in let other = c.if-i-rows.false in omega arith in
    next-of_both g.K.Ord.cmp c.args.heard.now c.args.rows.now c.args.i c.args.j within Greater c.index-heard-j-2.result
    c.index-rows-i-2.result below c.index-heard-j-2.is c.index-rows-i-2.is (sym c.in-Greater.ensures)
