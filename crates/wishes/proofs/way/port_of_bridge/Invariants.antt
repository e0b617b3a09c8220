use Rattle.std.proofs.Common.{drop}
use Rattle.std.specs.Prelude.{find}
use Rattle.wishes.specs.{is_of_bridge}
use Rattle.network_laws.proofs.Paths.{Checked}
use Rattle.wishes.proofs.way.port_of_bridge.Given as goal

-- the first of all is the first of those that are left
abbrev pub invariant-loop-at : goal.invariant-loop-at
invariant-loop-at l = Checked l.world (find (is_of_bridge l.world l.bridge)) l.way (drop l.at-index l.way)
