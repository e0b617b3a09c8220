use Rattle.std.proofs.Common.{◌≡◌, ◌++◌, drop, map}
use Rattle.port_ledger.specs.Decision.{booked_of}
use Rattle.msrp.specs.PortState.{PortState}
use Rattle.wishes.specs.{bookings_in}
use Rattle.wishes.proofs.standing.bookings_of.Given as goal

-- what the ports so far have booked with what those have that are left is all
abbrev pub invariant-loop-i : goal.invariant-loop-i
invariant-loop-i l =
    l.rows.items ++ map (λ (p : PortState). booked_of p.ledger.entries) (drop l.i l.node.state.streams.ports) ≡ bookings_in l.node.state.streams
