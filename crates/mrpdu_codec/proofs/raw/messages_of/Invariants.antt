use Rattle.std.proofs.Common.{◌≡◌, take, map}
use Rattle.mrpdu_codec.specs.{message_in}
use Rattle.mrpdu_codec.proofs.raw.messages_of.Given as goal

abbrev pub invariant-loop-raw : goal.invariant-loop-raw
invariant-loop-raw l = l.messages.items ≡ map message_in (take l.raw-index l.raws)
