use Rattle.std.proofs.Common.{◌≡◌, ◌++◌, drop, map, string_bytes}
use Rattle.link_replay.specs.{all_arriving, all_arriving_text}
use Rattle.link_replay.proofs.link_watch.all_arrive.Given as goal

-- what is left arrives from where the ways are now, and is said behind the text so far
abbrev pub invariant-loop-said : goal.invariant-loop-said
invariant-loop-said g l =
    let cmp = g.A.Key.Ord.cmp in
    let eq = g.A.Content.PartialEq.eq in
    let left = map (λ x. (x.0, record { leave_all = x.1.leave_all; events = x.1.events })) (drop l.said-index l.on_way) in
    let all = map (λ x. (x.0, record { leave_all = x.1.leave_all; events = x.1.events })) l.on_way in
    record {
      said : string_bytes l.out ++ all_arriving_text cmp eq g.A.WatchedApp.key_text g.A.WatchedApp.content_text l.at l.ways left
          ≡ string_bytes l.initial.out ++ all_arriving_text cmp eq g.A.WatchedApp.key_text g.A.WatchedApp.content_text l.at l.initial.ways all;
      ways : all_arriving cmp l.at l.ways left ≡ all_arriving cmp l.at l.initial.ways all;
    }
