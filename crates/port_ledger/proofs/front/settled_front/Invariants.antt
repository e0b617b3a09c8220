use Rattle.std.proofs.Common.{◌≡◌, ◌≤◌, length, drop}
use Rattle.port_ledger.specs.{first_level, settled_levels}
use Rattle.port_ledger.proofs.front.settled_front.Given as goal

abbrev pub invariant-loop-at : goal.invariant-loop-at
invariant-loop-at l =
    (l.at ≤ length l.entries) × (l.settled ≡ settled_levels (drop l.at l.entries)) × (l.booked ≡ first_level (drop l.at l.entries))

abbrev pub decreases-loop-at : goal.decreases-loop-at
decreases-loop-at l = l.at
