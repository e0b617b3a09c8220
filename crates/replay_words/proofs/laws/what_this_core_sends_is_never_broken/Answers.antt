use Rattle.srp_base.specs.Text.{whole_of}
use Rattle.std.proofs.Common.{ℕ, [], ◌∷◌, ◌≡◌, ◌∙◌, ◌≤◌, refl, append-nil, append_assoc, sym, ap}
use Rattle.std.specs.Prelude.{List, ◌++◌}
use Rattle.std.proofs.lemmas.List.Sorted.{Contains-permutation, IsPermutation-sym}
use Rattle.srp_base.specs.declared.{numbers.Cs.Cs}
use Rattle.msrp_codec.specs.{Writing.in_type_order}
use Rattle.link_replay.specs.Ticks.{ReadsWhatIsWritten}
use Rattle.replay_words.specs.declared.ends.Ends.{Ends}
use Rattle.pdu_words.specs.Captured.{broken_line}
use Rattle.replay_words.specs.{counts_text, capture_text, run_text, ends_of, as_written, tick_of, new_seen, Pairs, HaveSaidNothing, LinkTick, AreCaptured, frames_of, after_packets, after_run}
use Rattle.replay_words.proofs.CoreLinks.{Facts, Keeps, Ended, streams_of, once_in_tick, runs, none_broken, none_printed}
use Rattle.replay_words.proofs.laws.what_this_core_sends_is_never_broken.Goals as goal

plainly : {K C : Type 0} → ReadsWhatIsWritten {K = K} {C = C} as_written
plainly events e h = h

by_type : goal.After-what_is_read_belongs_to_its_keys → ReadsWhatIsWritten in_type_order
by_type c events e h =
    Contains-permutation (in_type_order events) events e (IsPermutation-sym events (in_type_order events) (c.the_order_of_types_is_a_permutation.ensures events)) h

facts : goal.After-what_is_read_belongs_to_its_keys → Facts
facts c = record {
  vlans = record {
    passed_over = λ tick pair replayed quiet follows. c.a_replay_follows_a_run.ensures.passed_over as_written tick pair replayed plainly quiet follows;
    gone_to = λ tick pair replayed moments said are sent follows. c.a_replay_follows_a_run.ensures.gone_to as_written tick pair replayed moments said plainly are sent follows;
    unbroken = λ next pair replayed follows. c.a_replay_follows_a_run.ensures.unbroken as_written next pair replayed follows;
  };
  streams = record {
    passed_over = λ tick pair replayed quiet follows. c.a_replay_follows_a_run-2.ensures.passed_over in_type_order tick pair replayed (by_type c) quiet follows;
    gone_to = λ tick pair replayed moments said are sent follows. c.a_replay_follows_a_run-2.ensures.gone_to in_type_order tick pair replayed moments said (by_type c) are sent follows;
    unbroken = λ next pair replayed follows. c.a_replay_follows_a_run-2.ensures.unbroken in_type_order next pair replayed follows;
  };
  groups = record {
    passed_over = λ tick pair replayed quiet follows. c.a_replay_follows_a_run-3.ensures.passed_over as_written tick pair replayed plainly quiet follows;
    gone_to = λ tick pair replayed moments said are sent follows. c.a_replay_follows_a_run-3.ensures.gone_to as_written tick pair replayed moments said plainly are sent follows;
    unbroken = λ next pair replayed follows. c.a_replay_follows_a_run-3.ensures.unbroken as_written next pair replayed follows;
  };
  moments = c.each_key_awaits.ensures.all_marked;
  stream_sets = c.each_key_awaits-2.ensures.all_marked;
  owned = λ octets pdu reads. c.what_is_read_belongs_to_its_keys.ensures octets pdu ((c.reading_is_the_grammar.ensures.reads octets pdu).0 reads);
  once = λ t p s follows said sent.
      let rows = c.a_replay_follows_a_run-2.ensures.rows in_type_order (tick_of t.at t.streams) p.streams (streams_of s) (by_type c) follows in
      once_in_tick c.each_key_in_what_is_sent.ensures c.each_key_keeps_its_event.ensures t p rows.0 rows.1 said sent;
}

begins : goal.After-what_is_read_belongs_to_its_keys → (leave_time first : Cs) (pairs : Pairs) → 1 ≤ leave_time.0 → HaveSaidNothing leave_time pairs
    → Keeps first pairs (new_seen leave_time)
begins c leave_time first pairs some nothing = record {
  vlans = c.a_replay_follows_a_run.ensures.new as_written leave_time first pairs.vlans some nothing.vlans;
  streams = c.a_replay_follows_a_run-2.ensures.new in_type_order leave_time first pairs.streams some nothing.streams;
  groups = c.a_replay_follows_a_run-3.ensures.new as_written leave_time first pairs.groups some nothing.groups;
  unbroken = refl;
}

ended : (c : goal.After-what_is_read_belongs_to_its_keys) (ends : Ends) (leave_time first : Cs) (pairs : Pairs) (ticks : List LinkTick)
    → 1 ≤ leave_time.0 → HaveSaidNothing leave_time pairs → AreCaptured ends first pairs ticks
    → Ended (facts c) ends (after_packets ends (new_seen leave_time) (frames_of ticks))
ended c ends leave_time first pairs ticks some nothing are =
    runs (facts c) ends ticks first pairs leave_time are (begins c leave_time first pairs some nothing)

pub returns-clause-counted : goal.returns-clause-counted
unfolding after_run
returns-clause-counted c = λ ends leave_time first pairs ticks some nothing are.
    none_broken (facts c) ends (after_packets ends (new_seen leave_time) (frames_of ticks)) (ended c ends leave_time first pairs ticks some nothing are)

pub returns-clause-words : goal.returns-clause-words
returns-clause-words c = λ ends leave_time first pairs ticks some nothing are.
    none_printed (facts c) ends (after_packets ends (new_seen leave_time) (frames_of ticks)) (ended c ends leave_time first pairs ticks some nothing are)

-- what stands in front of the counts
in_front : (text line counts : List ℕ) → whole_of (text ∷ line ∷ counts ∷ []) ≡ (text ++ line) ++ counts
in_front text line counts = ap (λ (rest : List ℕ). text ++ (line ++ rest)) (append-nil counts) ∙ sym (append_assoc text line counts)

pub returns-clause-printed : goal.returns-clause-printed
unfolding capture_text run_text after_run
returns-clause-printed c = λ head first pairs ticks broken_off some nothing are.
    let ends = ends_of head.ends (frames_of ticks) in
    let s = new_seen head.leave_time in
    record {
      front = run_text head.caps ends s (frames_of ticks) ++ broken_line broken_off;
      counts = (after_run ends s (frames_of ticks)).counts;
      none = none_broken (facts c) ends (after_packets ends s (frames_of ticks)) (ended c ends head.leave_time first pairs ticks some nothing are);
      ends = in_front (run_text head.caps ends s (frames_of ticks)) (broken_line broken_off) (counts_text (after_run ends s (frames_of ticks)).counts);
    }
