use Rattle.std.proofs.Common.{◌≡◌, ◌++◌, length}
use Rattle.mrpdu_codec.specs.{pack_events}
use Rattle.mrpdu_codec.proofs.encoding.put_events.Given as goal

abbrev pub invariant-more : goal.invariant-more
invariant-more l = l.out.items ++ pack_events l.rest ≡ l.initial.out.items ++ pack_events l.events

abbrev pub decreases-more : goal.decreases-more
decreases-more l = length l.rest
