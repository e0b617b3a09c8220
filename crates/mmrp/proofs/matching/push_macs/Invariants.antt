use Rattle.std.proofs.Common.{◌≡◌, ◌++◌, drop}
use Rattle.std.specs.Prelude.{filter_map}
use Rattle.mmrp.specs.{registered_in, registered_mac}
use Rattle.mmrp.proofs.matching.push_macs.Given as goal

-- the MAC addresses so far, and those of the rows from here on
abbrev pub invariant-loop-i : goal.invariant-loop-i
invariant-loop-i l =
    l.macs.items ++ filter_map registered_mac (drop l.i l.part.state.rows) ≡ l.fn.macs.items ++ registered_in l.part.state
