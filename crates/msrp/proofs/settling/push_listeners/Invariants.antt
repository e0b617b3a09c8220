use Rattle.std.proofs.Common.{◌≡◌, ◌+◌, ◌++◌, drop, vec_capacity, vec_len}
use Rattle.msrp.specs.{listener_keys}
use Rattle.msrp.proofs.settling.push_listeners.Given as goal

-- what was put there, with those of the streams that are left, is all; and for those there is room
abbrev pub invariant-loop-stream : goal.invariant-loop-stream
invariant-loop-stream l = record {
  items : l.out.items ++ listener_keys (drop l.stream-index l.streams) ≡ l.fn.out.items ++ listener_keys l.streams;
  len : vec_len l.out ≡ vec_len l.fn.out + l.stream-index;
  capacity : vec_capacity l.out ≡ vec_capacity l.fn.out;
}
