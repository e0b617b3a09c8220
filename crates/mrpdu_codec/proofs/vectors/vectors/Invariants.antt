use Rattle.std.proofs.Common.{◌≡◌, length}
use Rattle.mrpdu_codec.specs.{attrs_in, vectors_of, list_kept}
use Rattle.mrpdu_codec.proofs.VectorLoops.{with_front}
use Rattle.mrpdu_codec.proofs.vectors.vectors.Given as goal

abbrev pub invariant-more : goal.invariant-more
invariant-more l = with_front (attrs_in l.found.items) (list_kept l.row (vectors_of l.row l.len l.rest)) ≡ list_kept l.row (vectors_of l.row l.len l.octets)

abbrev pub decreases-more : goal.decreases-more
decreases-more l = length l.rest
