use Rattle.std.proofs.Common.{◌≡◌, drop}
use Rattle.std.specs.List.{list_any}
use Rattle.port_needs.specs.{is_barred}
use Rattle.port_needs.proofs.demand.is_blocked.Given as goal

-- some port of all bars the way exactly where one of those that are left does
abbrev pub invariant-loop-i : goal.invariant-loop-i
invariant-loop-i l =
    list_any (is_barred l.scenario l.class l.from.0 l.to.0) (drop l.i l.ports)
    ≡ list_any (is_barred l.scenario l.class l.from.0 l.to.0) l.ports
