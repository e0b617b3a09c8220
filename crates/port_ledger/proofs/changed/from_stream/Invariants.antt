use Rattle.std.proofs.Common.{◌≡◌, ◌≤◌, ◌-◌, length, drop}
use Rattle.port_ledger.specs.{from_stream}
use Rattle.port_ledger.proofs.changed.from_stream.Given as goal

abbrev pub invariant-loop-at : goal.invariant-loop-at
invariant-loop-at l =
    (l.at ≤ length l.entries) × (from_stream l.entries l.stream ≡ from_stream (drop l.at l.entries) l.stream)

abbrev pub decreases-loop-at : goal.decreases-loop-at
decreases-loop-at l = length l.entries - l.at
