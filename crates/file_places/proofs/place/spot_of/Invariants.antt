use Rattle.std.proofs.Common.{◌≡◌, ◌+◌, ◌≤◌, take}
use Rattle.file_places.specs.{spot_of}
use Rattle.file_places.proofs.place.spot_of.Given as goal

-- the place behind the octets so far
abbrev pub invariant-loop-i : goal.invariant-loop-i
invariant-loop-i l =
    (l.spot ≡ spot_of (take l.i l.octets)) × (l.spot.line ≤ l.i + 1) × (l.spot.column ≤ l.i + 1)
