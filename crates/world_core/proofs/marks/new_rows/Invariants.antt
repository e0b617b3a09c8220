use Rattle.std.proofs.Common.{◌≡◌, ◌+◌, ◌++◌, drop}
use Rattle.world_core.specs.{rows_from}
use Rattle.world_core.proofs.marks.new_rows.Given as goal

-- the rows so far and those of the nodes that are left are all
abbrev pub invariant-loop-i : goal.invariant-loop-i
invariant-loop-i l = l.rows.items ++ rows_from l.tree.links (l.i + 1) (drop l.i l.tree.kinds) ≡ rows_from l.tree.links 1 l.tree.kinds
