-- What is asked and said of vectors that lie in the octets. No public contract names these words.
use Rattle.std.specs.Prelude.{Bool, false, List}
use Rattle.mrpdu_codec.specs.declared.{form.TypeForm.TypeForm, raw.RawVector.RawVector}
use Rattle.mrpdu_codec.specs.{Raw.attr_in, Shape.vector_fits}
use Rattle.mmrp_codec.specs.Meaning.{MacEvent, vector_events, is_in_range}

-- what the octets of a vector of MAC addresses look like
abbrev pub mac_form : TypeForm
mac_form = record { length = 6; four_packed = false }

-- a vector has the form of MAC addresses
abbrev pub fits_in_place : RawVector → Bool
fits_in_place raw = vector_fits mac_form (attr_in raw)

-- its values stay within 48 bits
abbrev pub is_in_range_in_place : RawVector → Bool
is_in_range_in_place raw = is_in_range (attr_in raw)

-- its events
abbrev pub events_in_place : RawVector → List MacEvent
events_in_place raw = vector_events (attr_in raw)
