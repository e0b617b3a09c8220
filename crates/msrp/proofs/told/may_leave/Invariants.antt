use Rattle.std.proofs.Common.{◌≡◌, drop}
use Rattle.std.specs.List.{list_any}
use Rattle.msrp.specs.{is_domain_leaving}
use Rattle.msrp.proofs.told.may_leave.Given as goal

-- whether it is so in a row is whether it is so in one of those that are left
abbrev pub invariant-loop-place : goal.invariant-loop-place
invariant-loop-place l = list_any is_domain_leaving (drop l.place l.part.state.rows) ≡ list_any is_domain_leaving l.part.state.rows
