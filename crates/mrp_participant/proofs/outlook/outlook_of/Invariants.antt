use Rattle.std.proofs.Common.{take}
use Rattle.mrp_participant.specs.{IsOutlook}
use Rattle.mrp_participant.proofs.outlook.outlook_of.Given as goal

abbrev pub invariant-loop-row : goal.invariant-loop-row
invariant-loop-row g l = IsOutlook l.outlook (take l.row-index l.rows)
