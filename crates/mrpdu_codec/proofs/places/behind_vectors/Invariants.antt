use Rattle.std.proofs.Common.{◌≡◌, length}
use Rattle.mrpdu_codec.specs.{behind_vectors}
use Rattle.mrpdu_codec.proofs.places.behind_vectors.Given as goal

abbrev pub invariant-more : goal.invariant-more
invariant-more l = behind_vectors l.row l.len 0 l.rest ≡ behind_vectors l.row l.len 0 l.octets

abbrev pub decreases-more : goal.decreases-more
decreases-more l = length l.rest
