use Rattle.std.proofs.Common.{◌≡◌, ◌≤◌, length, slice_get}
use Rattle.mrpdu_codec.specs.{places_in}
use Rattle.mrpdu_codec.proofs.places.place_in.Given as goal

abbrev pub invariant-more : goal.invariant-more
invariant-more l =
    (slice_get (places_in l.row l.len l.end 0 l.rest) l.before ≡ slice_get (places_in l.row l.len l.end 0 l.octets) l.vector)
    × (length l.rest ≤ l.end)

abbrev pub decreases-more : goal.decreases-more
decreases-more l = length l.rest
