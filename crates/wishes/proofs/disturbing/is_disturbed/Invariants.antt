use Rattle.std.proofs.Common.{◌≡◌, drop}
use Rattle.wishes.specs.{is_disturbed}
use Rattle.wishes.proofs.disturbing.is_disturbed.Given as goal

-- whether one of all may is whether one of those that are left may
abbrev pub invariant-loop-event : goal.invariant-loop-event
invariant-loop-event l = is_disturbed l.streams (drop l.event-index l.events) l.x ≡ is_disturbed l.streams l.events l.x
