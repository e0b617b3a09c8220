use Rattle.std.proofs.Common.{◌≡◌, ◌++◌, drop}
use Rattle.port_needs.specs.{wants_among}
use Rattle.port_needs.proofs.demand.wants_among.Given as goal

-- the wants so far with those of what is left are all
abbrev pub invariant-loop-i : goal.invariant-loop-i
invariant-loop-i l =
    l.wants.items ++ wants_among l.tree (drop l.i l.demands) l.at ≡ wants_among l.tree l.demands l.at
