use Rattle.link_replay.specs.{ready_a, ready_b, says_nothing}
use Rattle.link_replay.proofs.Ticking.{follows_fresh, quietly, loudly, both_rows, none_then}
use Rattle.link_replay.proofs.laws.a_replay_follows_a_run.Goals as goal

pub returns-clause-new : goal.returns-clause-new
returns-clause-new g c = λ read leave_time first pair some fresh.
    follows_fresh g.A.MrpApp.base g.A.MrpApp.octets g.A.Key.Ord.cmp g.A.Content.PartialEq.eq read leave_time first pair some fresh

pub returns-clause-passed_over : goal.returns-clause-passed_over
returns-clause-passed_over g c = λ read tick pair replayed only quiet follows.
    quietly g.A.MrpApp.base g.A.MrpApp.octets g.A.Key.Ord.cmp g.A.Content.PartialEq.eq read only
    c.what_happens_at_an_end_is_seen.ensures.event c.what_happens_at_an_end_is_seen.ensures.rows
    c.a_way_holds_what_was_seen.ensures.comes c.a_way_holds_what_was_seen.ensures.goes c.no_word_of_a_participant_disagrees.ensures
    c.each_key_awaits.ensures.marked c.each_key_awaits.ensures.all_marked c.each_key_after_receive.ensures c.rows_stay_rows.ensures.receive
    c.each_key_after_due.ensures c.rows_stay_rows.ensures.due
    (says_nothing g.A.MrpApp.base g.A.MrpApp.octets g.A.Key.Ord.cmp g.A.Content.PartialEq.eq read tick.asks_a.sends
    (ready_a g.A.MrpApp.base g.A.MrpApp.octets g.A.Key.Ord.cmp g.A.Content.PartialEq.eq read tick pair))
    (says_nothing g.A.MrpApp.base g.A.MrpApp.octets g.A.Key.Ord.cmp g.A.Content.PartialEq.eq read tick.asks_b.sends
    (ready_b g.A.MrpApp.base g.A.MrpApp.octets g.A.Key.Ord.cmp g.A.Content.PartialEq.eq read tick pair))
    tick pair replayed quiet follows

pub returns-clause-gone_to : goal.returns-clause-gone_to
returns-clause-gone_to g c = λ read tick pair replayed moments said only are sent follows.
    loudly g.A.MrpApp.base g.A.MrpApp.octets g.A.Key.Ord.cmp g.A.Content.PartialEq.eq read only
    c.what_happens_at_an_end_is_seen.ensures.event c.what_happens_at_an_end_is_seen.ensures.rows
    c.a_way_holds_what_was_seen.ensures.comes c.a_way_holds_what_was_seen.ensures.goes c.no_word_of_a_participant_disagrees.ensures
    c.each_key_awaits.ensures.marked c.each_key_awaits.ensures.all_marked c.each_key_after_receive.ensures c.rows_stay_rows.ensures.receive
    c.each_key_after_due.ensures c.rows_stay_rows.ensures.due
    tick pair replayed moments said follows are sent

pub returns-clause-rows : goal.returns-clause-rows
returns-clause-rows g c = λ read tick pair replayed only follows.
    both_rows g.A.MrpApp.base g.A.MrpApp.octets g.A.Key.Ord.cmp g.A.Content.PartialEq.eq read only
    c.what_happens_at_an_end_is_seen.ensures.event c.what_happens_at_an_end_is_seen.ensures.rows
    c.a_way_holds_what_was_seen.ensures.comes c.a_way_holds_what_was_seen.ensures.goes c.no_word_of_a_participant_disagrees.ensures
    c.each_key_awaits.ensures.marked c.each_key_awaits.ensures.all_marked c.each_key_after_receive.ensures c.rows_stay_rows.ensures.receive
    c.each_key_after_due.ensures c.rows_stay_rows.ensures.due
    tick pair replayed follows

pub returns-clause-unbroken : goal.returns-clause-unbroken
returns-clause-unbroken g c = λ read next pair replayed follows.
    none_then g.A.Key.Ord.cmp replayed follows.none_kept
