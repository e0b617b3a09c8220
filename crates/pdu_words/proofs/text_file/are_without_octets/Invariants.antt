use Rattle.std.proofs.Common.{◌≡◌, not, length}
use Rattle.std.specs.Prelude.{◌||◌}
use Rattle.std.specs.List.{list_any}
use Rattle.pdu_words.specs.{lines_of, is_passed_over, gives_octets}
use Rattle.pdu_words.proofs.text_file.are_without_octets.Given as goal

-- no line so far gives octets, and whether any has something
abbrev pub invariant-loop-rest : goal.invariant-loop-rest
invariant-loop-rest l = record {
  has : list_any gives_octets (lines_of l.rest) ≡ list_any gives_octets (lines_of l.text);
  some : (l.some || list_any (λ line. not (is_passed_over line)) (lines_of l.rest)) ≡ list_any (λ line. not (is_passed_over line)) (lines_of l.text);
}

abbrev pub decreases-loop-rest : goal.decreases-loop-rest
decreases-loop-rest l = length l.rest
