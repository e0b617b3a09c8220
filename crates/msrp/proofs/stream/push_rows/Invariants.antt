use Rattle.std.proofs.Common.{◌≡◌, ◌≤◌, ◌+◌, ◌++◌, drop, map, vec_capacity, vec_len}
use Rattle.std.specs.List.{filter_map}
use Rattle.msrp.specs.{ports_in, listener_row}
use Rattle.msrp.proofs.stream.push_rows.Given as goal

-- what was put there, with those of the ports that are left, is all; and for those there is room
abbrev pub invariant-loop-port : goal.invariant-loop-port
invariant-loop-port l = record {
  items : l.out.items ++ filter_map (λ row. row) (map (listener_row l.stream) (ports_in (drop l.port-index l.ports)))
      ≡ l.fn.out.items ++ filter_map (λ row. row) (map (listener_row l.stream) (ports_in l.ports));
  len : vec_len l.out ≤ vec_len l.fn.out + l.port-index;
  capacity : vec_capacity l.out ≡ vec_capacity l.fn.out;
}
