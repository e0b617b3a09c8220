use Rattle.std.proofs.Common.{◌≡◌, ◌++◌, drop}
use Rattle.attribute_propagation.specs.{keys_in, new_sets}
use Rattle.attribute_propagation.proofs.ports.new_sets.Given as goal

-- the sets so far and those that are left are all
abbrev pub invariant-loop-port : goal.invariant-loop-port
invariant-loop-port g l = keys_in l.sets.items ++ new_sets (drop l.port-index l.ports) ≡ new_sets l.ports
