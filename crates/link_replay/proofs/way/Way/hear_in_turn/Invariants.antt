use Rattle.std.proofs.Common.{◌≡◌, ◌++◌, drop, string_bytes}
use Rattle.link_replay.specs.{all_heard_text, all_hearing_way}
use Rattle.link_replay.proofs.way.Way.hear_in_turn.Given as goal

-- what is left is heard from where the way is now, and said behind the text so far
abbrev pub invariant-loop-event : goal.invariant-loop-event
invariant-loop-event g l =
    let cmp = g.A.Key.Ord.cmp in
    let eq = g.A.Content.PartialEq.eq in
    record {
      said : string_bytes l.out ++ all_heard_text cmp eq g.A.WatchedApp.key_text g.A.WatchedApp.content_text l.at l.self (drop l.event-index l.events)
          ≡ string_bytes l.initial.out ++ all_heard_text cmp eq g.A.WatchedApp.key_text g.A.WatchedApp.content_text l.at l.initial.self l.events;
      way : all_hearing_way cmp l.at l.self (drop l.event-index l.events) ≡ all_hearing_way cmp l.at l.initial.self l.events;
    }
