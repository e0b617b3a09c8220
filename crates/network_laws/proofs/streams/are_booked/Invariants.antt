use Rattle.std.proofs.Common.{drop}
use Rattle.std.specs.List.{list_all}
use Rattle.network_laws.specs.{has_booked}
use Rattle.network_laws.proofs.Paths.{Checked}
use Rattle.network_laws.proofs.streams.are_booked.Given as goal

-- whether all have booked is whether those that are left have
abbrev pub invariant-loop-at : goal.invariant-loop-at
invariant-loop-at l = Checked l.world (list_all (has_booked l.world l.stream)) l.path (drop l.at-index l.path)
