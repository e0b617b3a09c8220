use Rattle.std.proofs.Common.{◌≡◌, ◌+◌, ◌++◌, drop}
use Rattle.world_core.specs.{setups_from}
use Rattle.world_core.proofs.start.setups_of_links.Given as goal

-- the ports so far and those on the links that are left are all
abbrev pub invariant-loop-i : goal.invariant-loop-i
invariant-loop-i l = l.setups.items ++ setups_from (l.i + 1) l.node (drop l.i l.links) ≡ setups_from 1 l.node l.links
