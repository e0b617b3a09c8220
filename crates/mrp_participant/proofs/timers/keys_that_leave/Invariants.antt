use Rattle.std.proofs.Common.{◌≡◌, ◌≤◌, ◌+◌, ◌++◌, drop, if◌then◌else◌}
use Rattle.std.specs.{Vec.vec_len, Vec.vec_capacity, List.filter_map, declared.option.Option.TheVariants.Some, declared.option.Option.TheVariants.None}
use Rattle.mrp_participant.specs.{leave_is_due}
use Rattle.mrp_participant.proofs.timers.keys_that_leave.Given as goal

abbrev pub invariant-loop-row : goal.invariant-loop-row
invariant-loop-row g l =
    record {
      keys : l.fn.keys.items ++ filter_map (λ r. if leave_is_due l.fn.now.0 r then Some r.key else None) l.rows
          ≡ l.keys.items ++ filter_map (λ r. if leave_is_due l.fn.now.0 r then Some r.key else None)
          (drop l.row-index l.rows);
      len : vec_len l.keys ≤ vec_len l.fn.keys + l.row-index;
      capacity : vec_capacity l.keys ≡ vec_capacity l.fn.keys;
    }
