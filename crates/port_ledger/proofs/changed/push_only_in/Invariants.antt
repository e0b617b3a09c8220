use Rattle.std.proofs.Common.{◌≡◌, ◌≤◌, ◌+◌, ◌++◌, drop, vec_capacity, vec_len}
use Rattle.port_ledger.specs.{booked_only_in}
use Rattle.port_ledger.proofs.changed.push_only_in.Given as goal

abbrev pub invariant-loop-x : goal.invariant-loop-x
invariant-loop-x l =
    (l.fn.moved.items ++ booked_only_in l.these l.those ≡ l.moved.items ++ booked_only_in (drop l.x-index l.these) l.those)
    × (vec_len l.moved ≤ l.x-index + vec_len l.fn.moved)
    × (vec_capacity l.moved ≡ vec_capacity l.fn.moved)
