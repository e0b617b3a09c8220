-- What is asked and said of vectors that lie in the octets. No public contract names these words.
use Rattle.std.specs.Prelude.{◌≡◌, ℕ, ◌<◌, ◌/◌, Bool, List, length, drop, get_or, slice_index}
use Rattle.mrpdu_codec.specs.declared.raw.RawVector.{RawVector}
use Rattle.mrpdu_codec.specs.{Raw.attr_in, Shape.vector_fits}
use Rattle.srp_base.specs.declared.{numbers.StreamId.StreamId, mrp.MrpEvent.TheVariants.New}
use Rattle.msrp_codec.specs.declared.{attribute_type.AttributeType.AttributeType, first_value.FirstValue.FirstValue, first_value.FirstValue.TheVariants.Listener}
use Rattle.msrp_codec.specs.{AttributeType.type_form, Meaning.KeyEvent, Meaning.vector_events, Meaning.is_in_range, Meaning.event_at, Meaning.events_from}

-- a vector has the form of its type
abbrev pub fits_in_place : AttributeType → RawVector → Bool
fits_in_place t raw = vector_fits (type_form t) (attr_in raw)

-- its values stay within the fields that are counted up
abbrev pub is_in_range_in_place : AttributeType → RawVector → Bool
is_in_range_in_place t raw = is_in_range t (attr_in raw)

-- its events
abbrev pub events_in_place : AttributeType → RawVector → List KeyEvent
events_in_place t raw = vector_events t (attr_in raw)

-- the event of the value at a place
abbrev pub event_in_place : FirstValue → RawVector → ℕ → List KeyEvent
event_in_place first raw i = event_at first i (get_or (attr_in raw).events i New) (slice_index (attr_in raw).params i)

-- the events of the values from a place on
abbrev pub values_from : FirstValue → RawVector → ℕ → List KeyEvent
values_from first raw i = events_from first (attr_in raw).params i (drop i (attr_in raw).events)

-- the four Listeners in the octet of a value's FourPackedEvent are all ignored (35.2.2.7.2)
pub record IsSilent (first : FirstValue) (raw : RawVector) (i : ℕ) : Type 0 where
  pub stream : StreamId
  pub listens : first ≡ Listener stream
  pub within : i / 4 < length raw.four_packed.now
  pub zero : get_or raw.four_packed.now (i / 4) 0 ≡ 0
