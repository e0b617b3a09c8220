use Rattle.std.proofs.Common.{refl}
use Rattle.link_replay.proofs.Ticking.{runs_on, none_broken}
use Rattle.link_replay.proofs.laws.no_word_is_broken_in_a_run.Goals as goal

pub returns-clause-new : goal.returns-clause-new
returns-clause-new g c = λ leave_time a b. record {
  a_rows = (tt, tt);
  b_rows = (tt, tt);
  a = c.what_happens_at_an_end_is_seen.ensures.new a.0 leave_time a.1;
  b = c.what_happens_at_an_end_is_seen.ensures.new b.0 leave_time b.1;
  on_way = refl;
  kept = refl;
}

pub returns-clause-run : goal.returns-clause-run
returns-clause-run g c = λ read x ticks only told.
    runs_on g.A.MrpApp.base g.A.MrpApp.octets g.A.Key.Ord.cmp g.A.Content.PartialEq.eq read only
    c.what_happens_at_an_end_is_seen.ensures.event c.what_happens_at_an_end_is_seen.ensures.rows
    c.a_way_holds_what_was_seen.ensures.comes c.a_way_holds_what_was_seen.ensures.goes c.no_word_of_a_participant_disagrees.ensures ticks x told

pub returns-clause-broken : goal.returns-clause-broken
returns-clause-broken g c = λ read x ticks only told.
    none_broken g.A.MrpApp.base g.A.MrpApp.octets g.A.Key.Ord.cmp g.A.Content.PartialEq.eq read only
    c.what_happens_at_an_end_is_seen.ensures.event c.what_happens_at_an_end_is_seen.ensures.rows
    c.a_way_holds_what_was_seen.ensures.comes c.a_way_holds_what_was_seen.ensures.goes c.no_word_of_a_participant_disagrees.ensures ticks x told
