use Rattle.std.proofs.Common.{◌≡◌, drop, fold}
use Rattle.link_replay.specs.{ends_by, withdrawn_by}
use Rattle.link_replay.proofs.way.Way.keep_all.Given as goal

-- with what is left to keep the way is the whole
abbrev pub invariant-loop-event : goal.invariant-loop-event
invariant-loop-event g l =
    let left = drop l.event-index l.events in
    record l.self {
      ends = fold (λ ends e. ends_by e.0 l.until ends) l.self.ends left;
      withdrawn = fold (λ keys e. withdrawn_by g.A.Key.Ord.cmp e.0 e.1 keys) l.self.withdrawn left;
    }
    ≡ record l.initial.self {
      ends = fold (λ ends e. ends_by e.0 l.until ends) l.initial.self.ends l.events;
      withdrawn = fold (λ keys e. withdrawn_by g.A.Key.Ord.cmp e.0 e.1 keys) l.initial.self.withdrawn l.events;
    }
