-- How many events are of each type. No public contract names these words.
use Rattle.std.specs.Prelude.{ℕ, ◌+◌, List, length}
use Rattle.msrp_codec.specs.declared.attribute_type.AttributeType.TheVariants as types
use Rattle.msrp_codec.specs.declared.{counts.Counts.Counts, pdu.MsrpContent.MsrpContent}
use Rattle.msrp_codec.specs.declared.pdu.MsrpContent.TheVariants.{Advertise, Failed, Listener, Domain}
use Rattle.msrp_codec.specs.{Meaning.KeyEvent, Writing.of_type}

-- how many events are of each type
abbrev pub counts_of : List KeyEvent → Counts
counts_of events = record {
  advertised = length (of_type types.Advertise events);
  failed = length (of_type types.Failed events);
  listeners = length (of_type types.Listener events);
  domains = length (of_type types.Domain events);
}

-- with one more event, of this content
abbrev pub with_one : Counts → MsrpContent → Counts
with_one counts (Advertise t) = record counts { advertised = counts.advertised + 1 }
with_one counts (Failed t f) = record counts { failed = counts.failed + 1 }
with_one counts (Listener kind) = record counts { listeners = counts.listeners + 1 }
with_one counts (Domain priority vid) = record counts { domains = counts.domains + 1 }

-- how many events there are
abbrev pub total_of : Counts → ℕ
total_of counts = counts.advertised + (counts.failed + (counts.listeners + counts.domains))
