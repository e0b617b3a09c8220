use Rattle.std.proofs.Common.{◌≡◌, drop}
use Rattle.replay_words.specs.{has_new}
use Rattle.replay_words.proofs.followed.has_new.Given as goal

-- whether one is new is whether one of those that are left is
abbrev pub invariant-loop-booking : goal.invariant-loop-booking
invariant-loop-booking l = has_new l.before.keys (drop l.booking-index l.after) ≡ has_new l.before.keys l.after
