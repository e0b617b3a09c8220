use Rattle.std.proofs.Common.{◌+◌, take}
use Rattle.mrp_participant.specs.{rows_as_one}
use Rattle.mrp_participant.proofs.MergeLemmas.{MergesBack}
use Rattle.mrp_participant.proofs.hearing.merge_back.Given as goal

abbrev pub invariant-loop-j : goal.invariant-loop-j
invariant-loop-j g l =
    MergesBack g.K.Ord.cmp l.heard (rows_as_one g.K.Ord.cmp l.heard (take l.count l.fn.rows.items)) l.rows.items l.i l.j l.end

abbrev pub decreases-loop-j : goal.decreases-loop-j
decreases-loop-j g l = l.i + l.j
