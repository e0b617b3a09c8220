use Rattle.std.proofs.Common.{refl}
use Rattle.link_replay.proofs.Watching.{event-seen, rows-stay}
use Rattle.link_replay.proofs.laws.what_happens_at_an_end_is_seen.Goals as goal

pub returns-clause-new : goal.returns-clause-new
returns-clause-new g c = λ period leave_time periodic. record { rows = (tt, tt); leave_time = refl; holds = λ k. refl }

pub returns-clause-event : goal.returns-clause-event
returns-clause-event g c = λ l observer e are seen.
    event-seen g.A.MrpApp.base g.A.MrpApp.octets g.A.Key.Ord.cmp g.A.Content.PartialEq.eq (record {
      one = g.met.A.MrpApp.one_key;
      declare = c.one_key_changes.ensures.declare;
      withdraw = c.one_key_changes.ensures.withdraw;
      leave = c.one_key_changes.ensures.leave_due;
      receive = c.each_key_after_receive.ensures;
      send = c.each_key_after_send.ensures;
      due = c.each_key_after_due.ensures;
      periodic = c.each_key_after_periodic.ensures;
      leave_rows = c.rows_stay_rows.ensures.leave_due;
      receive_rows = c.rows_stay_rows.ensures.receive;
      due_rows = c.rows_stay_rows.ensures.due;
    }) l observer e are seen

pub returns-clause-rows : goal.returns-clause-rows
returns-clause-rows g c = λ l e are.
    rows-stay g.A.MrpApp.base g.A.MrpApp.octets g.A.Key.Ord.cmp g.A.Content.PartialEq.eq (record {
      declare = c.rows_stay_rows.ensures.declare;
      withdraw = c.rows_stay_rows.ensures.withdraw;
      leave = c.rows_stay_rows.ensures.leave_due;
      receive = c.rows_stay_rows.ensures.receive;
      due = c.rows_stay_rows.ensures.due;
      leave_all = c.rows_stay_rows.ensures.leaveall_due;
      periodic = c.rows_stay_rows.ensures.periodic_due;
      send = c.rows_stay_rows.ensures.send;
    }) l e are
