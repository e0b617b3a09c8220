use Rattle.std.proofs.Common.{◌≡◌, ◌^◌, ◌<◌, ◌++◌, length, drop, string_bytes}
use Rattle.std.specs.List.{AllByRecursion}
use Rattle.capture_file.specs.Packets.{packets_in}
use Rattle.replay_words.specs.{after_packets, packets_text}
use Rattle.replay_words.proofs.seen.Link.takes.Given as goal

-- what is left is taken from where the link is now, and said behind the text so far
abbrev pub invariant-loop-record : goal.invariant-loop-record
invariant-loop-record l = record {
  said : string_bytes l.out ++ packets_text l.caps l.ends l.self (packets_in (drop l.record-index l.records))
      ≡ string_bytes l.initial.out ++ packets_text l.caps l.ends l.initial.self (packets_in l.records);
  seen : after_packets l.ends l.self (packets_in (drop l.record-index l.records)) ≡ after_packets l.ends l.initial.self (packets_in l.records);
  short : AllByRecursion (λ r. length r.octets.now < 2 ^ 32) (drop l.record-index l.records);
}
