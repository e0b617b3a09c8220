use Rattle.std.proofs.Common.{◌≡◌, length, map}
use Rattle.mrpdu_codec.specs.{message_in, messages_of}
use Rattle.mrpdu_codec.proofs.MessageLoops.{with_messages}
use Rattle.mrpdu_codec.proofs.messages.read_messages.Given as goal

abbrev pub invariant-more : goal.invariant-more
invariant-more l = with_messages (map message_in l.found.items) (messages_of l.form l.rest) ≡ messages_of l.form l.octets

abbrev pub decreases-more : goal.decreases-more
decreases-more l = length l.rest
