use Rattle.std.proofs.Common.{◌≡◌, ◌++◌, drop, string_bytes}
use Rattle.std.specs.Prelude.{flat_map}
use Rattle.link_replay.specs.{heard_text}
use Rattle.link_replay.proofs.way.Way.write_each_heard.Given as goal

-- the text so far with what is said of the events that are left is the whole
abbrev pub invariant-loop-event : goal.invariant-loop-event
invariant-loop-event g l =
    let cmp = g.A.Key.Ord.cmp in
    let eq = g.A.Content.PartialEq.eq in
    string_bytes l.out ++ flat_map (λ e. heard_text cmp eq g.A.WatchedApp.key_text g.A.WatchedApp.content_text l.at l.self e.0 e.1 e.2) (drop l.event-index l.events)
    ≡ string_bytes l.initial.out ++ flat_map (λ e. heard_text cmp eq g.A.WatchedApp.key_text g.A.WatchedApp.content_text l.at l.self e.0 e.1 e.2) l.events
