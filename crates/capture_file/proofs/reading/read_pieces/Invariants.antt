use Rattle.std.proofs.Common.{◌≡◌, length}
use Rattle.capture_file.specs.{packets_in, pieces_in}
use Rattle.capture_file.proofs.PieceLoops.{with_front}
use Rattle.capture_file.proofs.reading.read_pieces.Given as goal

abbrev pub invariant-more : goal.invariant-more
invariant-more l = with_front (packets_in l.records.items) (pieces_in 0 l.now l.rest) ≡ pieces_in 0 l.fn.setting l.octets

abbrev pub decreases-more : goal.decreases-more
decreases-more l = length l.rest
