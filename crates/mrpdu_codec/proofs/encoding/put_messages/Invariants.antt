use Rattle.std.proofs.Common.{◌≡◌, ◌++◌, map, take}
use Rattle.mrpdu_codec.specs.{messages_octets, message_for}
use Rattle.mrpdu_codec.proofs.encoding.put_messages.Given as goal

abbrev pub invariant-loop-message : goal.invariant-loop-message
invariant-loop-message l = l.out.items ≡ l.initial.out.items ++ messages_octets (map (message_for l.form) (take l.message-index l.messages))
