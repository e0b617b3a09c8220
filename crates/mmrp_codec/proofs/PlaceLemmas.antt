-- The value at a place of a vector that lies in the octets: in which octet it is, and where in that.
pub use Rattle.mrpdu_codec.proofs.ValuePlaces.{count_of_values, is_within, event_at_place}
