use Rattle.std.proofs.Common.{◌≡◌, drop}
use Rattle.file_places.specs.{unblanked}
use Rattle.file_places.proofs.lines.unblanked.Given as goal

-- what stands behind the blanks so far, without blanks, is the whole without them
abbrev pub invariant-loop-at : goal.invariant-loop-at
invariant-loop-at l = unblanked (drop l.at l.octets) ≡ unblanked l.octets
