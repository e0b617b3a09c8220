use Rattle.std.proofs.Common.{◌≡◌, ◌++◌, drop}
use Rattle.mrp_participant.specs.{changed_keys}
use Rattle.mrp_participant.proofs.receive.changed.Given as goal

abbrev pub invariant-loop-row : goal.invariant-loop-row
invariant-loop-row g l =
    changed_keys g.K.Ord.cmp g.C.PartialEq.eq l.old l.new
    ≡ l.keys.items ++ changed_keys g.K.Ord.cmp g.C.PartialEq.eq l.old (drop l.row-index l.new)
