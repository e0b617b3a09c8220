use Rattle.link_replay.proofs.Watching.{said-agrees}
use Rattle.link_replay.proofs.laws.what_is_said_of_a_registrar_is_its_observers.Goals as goal

pub returns : goal.returns
returns g c = λ own observer now e are seen said.
    said-agrees g.A.MrpApp.base g.A.MrpApp.octets g.A.Key.Ord.cmp g.A.Content.PartialEq.eq (record {
      one = g.met.A.MrpApp.one_key;
      declare = c.one_key_changes.ensures.declare;
      withdraw = c.one_key_changes.ensures.withdraw;
      leave = c.one_key_changes.ensures.leave_due;
      receive = c.each_key_after_receive.ensures;
      send = c.each_key_after_send.ensures;
      due = c.each_key_after_due.ensures;
      periodic = c.each_key_after_periodic.ensures;
      leave_rows = c.rows_stay_rows.ensures.leave_due;
      receive_rows = c.rows_stay_rows.ensures.receive;
      due_rows = c.rows_stay_rows.ensures.due;
    }) own observer now (λ r. c.what_a_row_says.ensures.taken own now r) (λ r. c.what_a_row_says.ensures.not_taken own now r) e are seen
    (c.what_is_sent_is_declared.ensures.event own now e are said)
