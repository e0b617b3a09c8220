use Rattle.std.proofs.Common.{drop}
use Rattle.node_core.specs.{AreProperWires}
use Rattle.node_core.proofs.links.each_says_what_fits.Given as goal

-- where it is so of the PDUs that are left, it is so of all
abbrev pub invariant-loop-wire : goal.invariant-loop-wire
invariant-loop-wire l = AreProperWires (drop l.wire-index l.wires) → AreProperWires l.wires
