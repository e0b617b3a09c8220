use Rattle.std.proofs.Common.{◌≡◌, ◌≤◌, ◌++◌, List, drop}
use Rattle.mrp_participant.specs.declared.row.Row.{Row}
use Rattle.mrp_participant.specs.{rows_of_round, first_limit}
use Rattle.mrp_participant.proofs.sending_limit.fill.Given as goal

abbrev pub invariant-loop-row : goal.invariant-loop-row
invariant-loop-row g l =
    record {
      room : l.total ≤ 1500;
      filled :
          (rest : List (Row g.row.A-Key.Denot g.row.A-Content.Denot))
          → first_limit l.leave_all g.A.MrpApp.octets l.used (rows_of_round l.leave_all l.n l.rows ++ rest)
          ≡ first_limit l.leave_all g.A.MrpApp.octets l.total (rows_of_round l.leave_all l.n (drop l.row-index l.rows) ++ rest);
    }
