use Rattle.std.proofs.Common.{ℕ, List, ◌++◌, ap}
use Rattle.pdu_words.specs.{line_front, octets_said}
use Rattle.pdu_words.proofs.DumpLemmas.{frame_pdu}
use Rattle.pdu_words.proofs.laws.a_dump_says_what_its_frame_says.Goals as goal

pub returns : goal.returns
returns c n octets seen begins is = ap (λ (pdu : List ℕ). line_front n ++ octets_said seen.app pdu) (frame_pdu octets seen begins is)
