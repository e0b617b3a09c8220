use Rattle.std.proofs.Common.{◌≡◌, ◌≤◌, length}
use Rattle.mrpdu_codec.specs.{places_from, first_value_place}
use Rattle.mrpdu_codec.proofs.places.place_from.Given as goal

abbrev pub invariant-more : goal.invariant-more
invariant-more l =
    (first_value_place (places_from (length l.rest) l.form l.end l.rest) l.before l.vector ≡ first_value_place (places_from (length l.octets) l.form l.end l.octets) l.message l.vector)
    × (length l.rest ≤ l.end)

abbrev pub decreases-more : goal.decreases-more
decreases-more l = length l.rest
