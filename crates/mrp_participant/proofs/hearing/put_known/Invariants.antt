use Rattle.std.proofs.Common.{◌≡◌, drop}
use Rattle.std.specs.List.{AllByRecursion}
use Rattle.std.specs.Prelude.{IsSome}
use Rattle.mrp_participant.specs.{Ascends, key_of, find, put_over, Tells}
use Rattle.mrp_participant.proofs.hearing.put_known.Given as goal

abbrev pub invariant-loop-row : goal.invariant-loop-row
invariant-loop-row g l =
    record {
      put : put_over g.K.Ord.cmp l.heard l.fn.rows.items ≡ put_over g.K.Ord.cmp (drop l.row-index l.heard) l.rows.items;
      ascends : Ascends g.K.Ord.cmp key_of l.rows.items;
      known : AllByRecursion (λ u. IsSome (find g.K.Ord.cmp u.key l.rows.items)) (drop l.row-index l.heard);
      tells : Tells l.outlook l.rows.items;
    }
