use Rattle.std.proofs.Common.{◌≡◌, ◌++◌, drop}
use Rattle.std.specs.Prelude.{filter_map}
use Rattle.node_core.specs.{registered_key, registered_in}
use Rattle.node_core.proofs.naming.push_keys.Given as goal

-- the attributes so far, and those of the rows from here on
abbrev pub invariant-loop-i : goal.invariant-loop-i
invariant-loop-i g l =
    l.keys.items ++ filter_map (registered_key g.A.NodeApp.name) (drop l.i l.part.state.rows)
    ≡ l.fn.keys.items ++ registered_in g.A.NodeApp.name l.part.state
