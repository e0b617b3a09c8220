use Rattle.std.proofs.Common.{length, take}
use Rattle.tree_topology.specs.{HasRows}
use Rattle.tree_topology.proofs.RowFacts.{IsApartTo}
use Rattle.tree_topology.proofs.adjacency.neighbour_rows.Given as goal

abbrev pub invariant-loop-i : goal.invariant-loop-i
invariant-loop-i l = HasRows (length l.nodes) (take l.i l.links) l.rows.items × IsApartTo l.links l.i
