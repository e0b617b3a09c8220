use Rattle.std.proofs.Common.{◌≡◌, ◌++◌, map, drop}
use Rattle.mmrp.specs.declared.events.GroupEvent.TheVariants.{Carry}
use Rattle.group_run.specs.{carries}
use Rattle.group_run.proofs.steps.carries_of.Given as goal

-- those so far and those of the ports that are left are all
abbrev pub invariant-loop-port : goal.invariant-loop-port
invariant-loop-port l = l.carried.items ++ map Carry (drop l.port-index l.port-items) ≡ carries l.tree
