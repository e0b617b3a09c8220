use Rattle.std.proofs.Common.{refl}
use Rattle.link_replay.proofs.Timers.{comes_on, goes_on, passes_on, none_ends}
use Rattle.link_replay.proofs.laws.each_timer_ends_at_a_known_moment.Goals as goal

pub returns-clause-new : goal.returns-clause-new
returns-clause-new g c = λ speaker leave_time at k. tt

pub returns-clause-comes : goal.returns-clause-comes
returns-clause-comes g c =
    comes_on g.A.Key.Ord.cmp c.each_key_awaits.ensures.marked c.each_key_awaits.ensures.all_marked
    c.each_key_after_receive.ensures c.rows_stay_rows.ensures.receive c.each_key_after_due.ensures c.rows_stay_rows.ensures.due

pub returns-clause-goes : goal.returns-clause-goes
returns-clause-goes g c =
    goes_on g.A.Key.Ord.cmp c.each_key_awaits.ensures.marked c.each_key_awaits.ensures.all_marked
    c.each_key_after_receive.ensures c.rows_stay_rows.ensures.receive c.each_key_after_due.ensures c.rows_stay_rows.ensures.due

pub returns-clause-passes : goal.returns-clause-passes
returns-clause-passes g c =
    passes_on g.A.Key.Ord.cmp c.each_key_awaits.ensures.marked c.each_key_awaits.ensures.all_marked
    c.each_key_after_receive.ensures c.rows_stay_rows.ensures.receive c.each_key_after_due.ensures c.rows_stay_rows.ensures.due

pub returns-clause-none : goal.returns-clause-none
returns-clause-none g c =
    none_ends g.A.Key.Ord.cmp c.each_key_awaits.ensures.marked c.each_key_awaits.ensures.all_marked
    c.each_key_after_receive.ensures c.rows_stay_rows.ensures.receive c.each_key_after_due.ensures c.rows_stay_rows.ensures.due
