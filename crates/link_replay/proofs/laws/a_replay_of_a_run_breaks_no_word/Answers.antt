use Rattle.link_replay.proofs.Ticking.{none_from_new}
use Rattle.link_replay.proofs.laws.a_replay_of_a_run_breaks_no_word.Goals as goal

pub returns : goal.returns
returns g c = λ read leave_time first a b ticks only some from.
    none_from_new g.A.MrpApp.base g.A.MrpApp.octets g.A.Key.Ord.cmp g.A.Content.PartialEq.eq read only
    c.what_happens_at_an_end_is_seen.ensures.event c.what_happens_at_an_end_is_seen.ensures.rows
    c.a_way_holds_what_was_seen.ensures.comes c.a_way_holds_what_was_seen.ensures.goes c.no_word_of_a_participant_disagrees.ensures
    c.each_key_awaits.ensures.marked c.each_key_awaits.ensures.all_marked c.each_key_after_receive.ensures c.rows_stay_rows.ensures.receive
    c.each_key_after_due.ensures c.rows_stay_rows.ensures.due ticks leave_time first a b some from
