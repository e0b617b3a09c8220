use Rattle.std.proofs.Common.{◌≡◌, ◌++◌, take, drop, map}
use Rattle.std.specs.List.{flat_map}
use Rattle.mrpdu_codec.specs.Raw.{message_in}
use Rattle.msrp_codec.specs.{message_events, first_past}
use Rattle.msrp_codec.proofs.reading.push_messages.Given as goal

abbrev pub invariant-loop-i : goal.invariant-loop-i
invariant-loop-i l = record {
  past : first_past l.i (map message_in (drop l.i l.raws)) ≡ first_past 0 (map message_in l.raws);
  events : l.out.items ≡ l.initial.out.items ++ flat_map (λ m. message_events (message_in m)) (take l.i l.raws);
}
