-- The capture of a link: its file, and what is read of that.
use Rattle.std.specs.Prelude.{ℕ, ◌+◌, ◌*◌, List, ◌++◌, length, map}
use Rattle.std.specs.List.{flat_map}
use Rattle.srp_base.specs.declared.{numbers.EgressPort.EgressPort, mrp.App.App, mrp.App.TheVariants.Mvrp, mrp.App.TheVariants.Msrp}
use Rattle.topology_file.specs.Plan.{Plan}
use Rattle.mrpdu_codec.specs.declared.form.AppForm.{AppForm}
use Rattle.mrpdu_codec.specs.declared.form.AppForm.TheVariants as forms
use Rattle.capture_file.specs.declared.setting.ByteOrder.TheVariants.{Big}
use Rattle.capture_file.specs.declared.setting.LinkType.TheVariants.{Ethernet}
use Rattle.capture_file.specs.{Packets.Packet, Writing.record_text, Writing.file_text}
use Rattle.mrp_frames.specs.{Frames.Seen, Writing.padding_of, Writing.frame_text}
use Rattle.world_core.specs.declared.journal.Tick.{Tick}
use Rattle.link_capture.specs.Crossings.{Crossing, crossings}

-- the form of an application's PDUs
abbrev pub form_of : App → AppForm
form_of Mvrp = forms.Mvrp
form_of Msrp = forms.Msrp

-- The address from which a port sends: of the addresses that are given out locally (IEEE Std
-- 802-2014, 8.4) that of 020000, the node's number in three octets in all, and the port's number,
-- so that no two ports of a network send from one.
abbrev pub address_of : EgressPort → ℕ
address_of p = 0x020000000000 + p.node.0 * 256 + p.port.0

-- the frame of a PDU, captured whole at the end of its tick: 1 cs is 10,000,000 ns
abbrev pub packet_of : Crossing → Packet
packet_of c =
    let octets = frame_text (form_of c.wire.app) (address_of c.from) c.wire.octets in
    record { link = Ethernet; at_ns = c.tick * 10000000; whole = length octets; octets = octets }

-- the records of what crosses
abbrev pub records_of : List Crossing → List ℕ
records_of cs = flat_map (record_text Big) (map packet_of cs)

-- The capture of a link, by its number, in the ticks of a scenario: a pcap file in ns, the high
-- octet of each number first, of what crosses the link.
abbrev pub captured : Plan → List Tick → ℕ → List ℕ
captured plan ticks n = file_text Big Ethernet (map packet_of (crossings plan ticks n))

-- what is seen of a crossing in a capture: the port's address, the application, and the PDU with
-- what fills its frame up
abbrev pub seen_of : Crossing → Seen
seen_of c = record { address = address_of c.from; app = form_of c.wire.app; pdu = c.wire.octets ++ padding_of c.wire.octets }
