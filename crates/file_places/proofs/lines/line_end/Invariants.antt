use Rattle.std.proofs.Common.{◌≡◌, ◌+◌, drop, length}
use Rattle.file_places.specs.{first_line}
use Rattle.file_places.proofs.lines.line_end.Given as goal

-- the line ends where what is left of it does
abbrev pub invariant-loop-at : goal.invariant-loop-at
invariant-loop-at l =
    l.from + length (first_line (drop l.from l.octets)) ≡ l.at + length (first_line (drop l.at l.octets))
