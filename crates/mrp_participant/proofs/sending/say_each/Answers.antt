use Rattle.std.proofs.Common.{ap, ◌∙◌}
use Rattle.mrp_participant.specs.{is_in_room, sent_event}
use Rattle.mrp_participant.proofs.Places.{made_more, all_made}
use Rattle.mrp_participant.proofs.sending.say_each.Goals as goal

pub loop-row-preserved : goal.loop-row-preserved
loop-row-preserved g c =
    made_more (λ r. sent_event c.args.leave_all (is_in_room g.K.Ord.cmp c.args.leave_all c.args.limit.now r) c.args.leave r)
    c.args.rows.now _ _ _ _ c.loop-row-test.true c.row-item.is c.loop-row.invariant _ (c.says.ensures
    ∙ ap (λ taken. sent_event c.args.leave_all taken c.args.leave c.row-item.result) c.is_in_room-taken.ensures) _ c.in_ok-push_some.ensures

pub returns : goal.returns
returns g c =
    all_made (λ r. sent_event c.args.leave_all (is_in_room g.K.Ord.cmp c.args.leave_all c.args.limit.now r) c.args.leave r)
    c.args.rows.now _ _ _ c.loop-row-test.false c.loop-row.invariant
