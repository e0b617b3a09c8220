use Rattle.std.proofs.Common.{◌≡◌, drop}
use Rattle.std.specs.List.{list_any}
use Rattle.port_needs.specs.{leads_to}
use Rattle.port_needs.proofs.demand.leads_to_any.Given as goal

-- some node of all is led to exactly where one of those that are left is
abbrev pub invariant-loop-i : goal.invariant-loop-i
invariant-loop-i l =
    list_any (λ y. leads_to l.tree l.at l.from.0 y.0) (drop l.i l.nodes)
    ≡ list_any (λ y. leads_to l.tree l.at l.from.0 y.0) l.nodes
