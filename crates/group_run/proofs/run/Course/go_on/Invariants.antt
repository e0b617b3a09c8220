use Rattle.std.proofs.Common.{◌≡◌, drop}
use Rattle.group_run.specs.{AreAllowed, IsInTick, after_events}
use Rattle.group_run.proofs.run.Course.go_on.Given as goal

-- what is left to happen leads to what all leads to; it may happen, and the tick goes on
abbrev pub invariant-loop-event : goal.invariant-loop-event
invariant-loop-event l = record {
  all : after_events l.events l.initial.self ≡ after_events (drop l.event-index l.events) l.self;
  left : AreAllowed l.initial.self.net.tree (drop l.event-index l.events);
  at : IsInTick l.initial.self.net.tree l.initial.self.net.clock.0 l.self.net;
}
