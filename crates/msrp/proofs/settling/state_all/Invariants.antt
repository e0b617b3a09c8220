use Rattle.std.proofs.Common.{◌≡◌, ◌+◌, ◌++◌, drop, map, vec_capacity, vec_len}
use Rattle.msrp.specs.{stated_of, registrations_from}
use Rattle.msrp.proofs.settling.state_all.Given as goal

-- what was put there, with what is declared of the keys that are left, is all; and for those there is room
abbrev pub invariant-loop-key : goal.invariant-loop-key
invariant-loop-key l = record {
  items : l.stated.items ++ map (stated_of l.view.at l.port.state (registrations_from l.view)) (drop l.key-index l.keys)
      ≡ l.fn.stated.items ++ map (stated_of l.view.at l.port.state (registrations_from l.view)) l.keys;
  len : vec_len l.stated ≡ vec_len l.fn.stated + l.key-index;
  capacity : vec_capacity l.stated ≡ vec_capacity l.fn.stated;
  rows : vec_capacity l.rows ≡ vec_capacity l.fn.rows;
}
