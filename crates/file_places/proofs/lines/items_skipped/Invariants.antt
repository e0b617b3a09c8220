use Rattle.std.proofs.Common.{◌≡◌, ◌+◌, ◌-◌, ◌≤◌, length, drop}
use Rattle.file_places.specs.{has_opening, items_before, lines_of}
use Rattle.file_places.proofs.lines.items_skipped.Given as goal

-- the array opens in the lines that are left where it opens in the whole, behind so many entries
abbrev pub invariant-loop-start : goal.invariant-loop-start
invariant-loop-start l = record {
  few : l.found ≤ l.start;
  opens : has_opening l.array (lines_of (drop l.start l.octets)) ≡ has_opening l.array (lines_of l.octets);
  items : l.found + items_before l.array (lines_of (drop l.start l.octets)) ≡ items_before l.array (lines_of l.octets);
}

abbrev pub decreases-loop-start : goal.decreases-loop-start
decreases-loop-start l = length l.octets - l.start
