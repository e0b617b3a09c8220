use Rattle.std.proofs.Common.{◌≡◌, drop}
use Rattle.std.specs.{List.list_all, Option.is_some}
use Rattle.mrp_participant.specs.{find}
use Rattle.mrp_participant.proofs.hearing.are_known.Given as goal

abbrev pub invariant-loop-row : goal.invariant-loop-row
invariant-loop-row g l =
    list_all (λ u. is_some (find g.K.Ord.cmp u.key l.rows)) l.heard ≡ list_all (λ u. is_some (find g.K.Ord.cmp u.key l.rows)) (drop l.row-index l.heard)
