use Rattle.std.proofs.Common.{◌≡◌, ◌-◌, ◌≤◌, length, take, drop}
use Rattle.std.specs.Prelude.{count_by}
use Rattle.srp_base.specs.Firsts.{first_where}
use Rattle.file_places.specs.{begin_line, first_lines, is_begin, is_of_kind, lines_of}
use Rattle.file_places.proofs.entries.begin_line.Given as goal

-- the place is the end of the first lines, so many, among which there are so many of the kind, and
-- the line is looked for among the others
abbrev pub invariant-loop-start : goal.invariant-loop-start
invariant-loop-start l = record {
  size : l.start ≡ length (first_lines l.lines l.octets);
  few : l.lines ≤ l.start;
  found : l.found ≡ count_by (is_of_kind l.kind l.word) (take l.lines (lines_of l.octets));
  some : l.found ≤ l.lines;
  rest : drop l.lines (lines_of l.octets) ≡ lines_of (drop l.start l.octets);
  none : first_where (is_begin l.kind l.sought l.word l.skipped l.octets) (take l.lines (lines_of l.octets)) (drop l.lines (lines_of l.octets))
      ≡ begin_line l.kind l.sought l.word l.skipped l.octets;
}

abbrev pub decreases-loop-start : goal.decreases-loop-start
decreases-loop-start l = length l.octets - l.start
