use Rattle.mrp_participant.proofs.Hearings.{begun-ascends, begun-known, put-each, put-ascends}
use Rattle.mrp_participant.proofs.hearing.put_heard.Goals as goal

pub put_known-requires-clause-rows : goal.put_known-requires-clause-rows
put_known-requires-clause-rows g c =
    begun-ascends g.met.K.Ord.total c.args.leave_all c.args.leave c.args.heard.now c.args.rows.now.items _ _ c.begin_all.ensures.rows c.requires.heard c.in_ok-add_unknown.ensures.ascends

pub put_known-requires-clause-known : goal.put_known-requires-clause-known
put_known-requires-clause-known g c =
    begun-known g.met.K.Ord.total c.args.leave_all c.args.leave c.args.heard.now c.args.rows.now.items _ _
    c.begin_all.ensures.rows c.requires.heard c.in_ok-add_unknown.ensures.ascends c.in_ok-add_unknown.ensures.known

pub returns-clause-each_key : goal.returns-clause-each_key
returns-clause-each_key g c =
    put-each g.met.K.Ord.total c.args.leave_all c.args.leave c.args.heard.now c.args.rows.now.items _ _ c.begin_all.ensures.rows
    c.requires.heard c.in_ok-add_unknown.ensures.ascends _ c.put_known.ensures.rows c.in_ok-add_unknown.ensures.each_key

pub returns-clause-ascends : goal.returns-clause-ascends
returns-clause-ascends g c =
    put-ascends g.met.K.Ord.total c.args.leave_all c.args.leave c.args.heard.now c.args.rows.now.items _ _
    c.begin_all.ensures.rows c.requires.heard c.in_ok-add_unknown.ensures.ascends _ c.put_known.ensures.rows
