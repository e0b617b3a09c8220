-- What a capture says, without where its octets lie in memory.
use Rattle.std.specs.Prelude.{ℕ, List, map, Option}
use Rattle.capture_file.specs.declared.{capture.Record.Record, capture.Capture.Capture, setting.LinkType.LinkType}

-- A frame as it was captured: the link type of its interface, the moment in ns, how many octets it
-- had, and those that were kept.
pub record Packet : Type 0 where
  pub link : LinkType
  pub at_ns : ℕ
  pub whole : ℕ
  pub octets : List ℕ

-- a record in place
abbrev pub packet_in : Record → Packet
packet_in r = record { link = r.link; at_ns = r.at_ns; whole = r.whole; octets = r.octets.now }

-- records in place
abbrev pub packets_in : List Record → List Packet
packets_in rs = map packet_in rs

-- a capture's records, and the place where its file breaks off
abbrev pub capture_in : Capture → List Packet × Option ℕ
capture_in c = (packets_in c.records.items, c.broken)
