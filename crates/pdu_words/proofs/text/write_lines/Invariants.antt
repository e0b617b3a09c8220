use Rattle.std.proofs.Common.{◌≡◌, ◌+◌, ◌≤◌, ◌++◌, length, string_bytes}
use Rattle.pdu_words.specs.{lines_of, lines_said, left_said}
use Rattle.pdu_words.proofs.text.write_lines.Given as goal

-- the text so far with what is left to say of a dump and of the lines is the whole
abbrev pub invariant-loop-rest : goal.invariant-loop-rest
invariant-loop-rest l = record {
  said : string_bytes l.out ++ left_said l.form l.dump.first l.dump.octets.items l.number (lines_of l.rest)
      ≡ string_bytes l.initial.out ++ lines_said l.form 1 0 (lines_of l.text);
  few : l.number + length l.rest ≤ length l.text + 1;
  short : length l.dump.octets.items + length l.rest ≤ length l.text;
}

abbrev pub decreases-loop-rest : goal.decreases-loop-rest
decreases-loop-rest l = length l.rest
