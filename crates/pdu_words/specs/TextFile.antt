-- Whether a file is a text of octets.
use Rattle.std.specs.Prelude.{ℕ, Bool, not, ◌==◌, ◌&&◌, ◌||◌, nat_lt, List, is_some}
use Rattle.std.specs.List.{list_any}
use Rattle.pdu_words.specs.{Capture.lines_of, Capture.is_passed_over, Capture.octets_in, Dump.part_at, Dump.is_first}

-- whether a line has a PDU's octets
abbrev pub has_octets : List ℕ → Bool
has_octets line = not (is_passed_over line) && is_some (octets_in line)

-- whether a line has octets, or begins a dump of some
abbrev pub gives_octets : List ℕ → Bool
gives_octets line = has_octets line || is_first (part_at 0 line)

-- whether a character stands in no text: a control character that is no tab, line feed or carriage
-- return
abbrev pub is_control : ℕ → Bool
is_control c = nat_lt c 32 && not (c == 9 || c == 10 || c == 13)

-- whether some lines have something, and none of them octets
abbrev pub are_without_octets : List (List ℕ) → Bool
are_without_octets lines = list_any (λ line. not (is_passed_over line)) lines && not (list_any gives_octets lines)

-- whether a file is no text of octets: it isn't text, or none of its lines has octets
abbrev pub is_no_text : List ℕ → Bool
is_no_text file = list_any is_control file || are_without_octets (lines_of file)
