use Rattle.std.proofs.Common.{arith}
use Rattle.mrp_participant.proofs.OutlookLemmas.{filled, room-filled}
use Rattle.mrp_participant.proofs.outlook.fill_row.Goals as goal

pub with-requires : goal.with-requires
with-requires g c =
    room-filled c.args.outlook.now c.args.rows.now.items c.fill_at.new.rows.items c.args.at c.args.new c.requires.outlook.0
    (omega (arith, c.fill_at.new.rows.small, c.fill_at.new.rows.ok)) c.in_ok-fill_at.ensures.ok

pub returns-clause-outlook : goal.returns-clause-outlook
returns-clause-outlook g c = filled c.args.outlook.now c.with.result c.args.rows.now.items _ c.args.at c.args.new c.requires.outlook c.with.ensures c.in_ok-fill_at.ensures.ok
