use Rattle.std.proofs.Common.{drop}
use Rattle.std.specs.List.{list_all}
use Rattle.network_laws.specs.Vlans.{is_registered}
use Rattle.network_laws.proofs.Paths.{Checked}
use Rattle.wishes.proofs.way.are_registered.Given as goal

-- whether it is at all is whether it is at those that are left
abbrev pub invariant-loop-at : goal.invariant-loop-at
invariant-loop-at l = Checked l.world (list_all (is_registered l.world l.vid)) l.way (drop l.at-index l.way)
