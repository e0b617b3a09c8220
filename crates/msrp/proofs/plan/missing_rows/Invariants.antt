use Rattle.std.proofs.Common.{◌≡◌, ◌+◌, drop}
use Rattle.msrp.specs.{missing_rows}
use Rattle.msrp.proofs.plan.missing_rows.Given as goal

-- those that were counted, with those that are left, are all
abbrev pub invariant-loop-key : goal.invariant-loop-key
invariant-loop-key l = l.count + missing_rows (drop l.key-index l.keys) l.part.state ≡ missing_rows l.keys l.part.state
