use Rattle.std.proofs.Common.{◌≡◌, ◌≤◌, ◌+◌, ◌-◌, length, drop}
use Rattle.mrp_participant.specs.{rows_as_one}
use Rattle.mrp_participant.proofs.hearing.merged_len.Given as goal

abbrev pub invariant-loop-i : goal.invariant-loop-i
invariant-loop-i g l =
    record {
      rows : l.i ≤ length l.rows;
      heard : l.j ≤ length l.heard;
      counted : length (rows_as_one g.K.Ord.cmp l.heard l.rows) ≡ l.count + length (rows_as_one g.K.Ord.cmp (drop l.j l.heard) (drop l.i l.rows));
    }

abbrev pub decreases-loop-i : goal.decreases-loop-i
decreases-loop-i g l = (length l.rows + length l.heard) - (l.i + l.j)
