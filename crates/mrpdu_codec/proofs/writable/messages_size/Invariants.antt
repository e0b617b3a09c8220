use Rattle.std.proofs.Common.{◌≡◌, ◌-◌, ◌^◌, min, length, map, take}
use Rattle.mrpdu_codec.specs.{messages_octets, message_for}
use Rattle.mrpdu_codec.proofs.writable.messages_size.Given as goal

abbrev pub invariant-loop-message : goal.invariant-loop-message
invariant-loop-message l = l.size ≡ min (length (messages_octets (map (message_for l.form) (take l.message-index l.messages)))) (2 ^ 64 - 1)
