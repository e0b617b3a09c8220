-- The one form in which captures are written: pcap in ns (draft-ietf-opsawg-pcap), in either byte
-- order. That it is read as what was written is the law `what_is_written_is_read`.
use Rattle.std.specs.Prelude.{◌≡◌, ℕ, ◌*◌, ◌/◌, ◌%◌, ◌^◌, ◌<◌, ◌≤◌, List, ◌++◌, length}
use Rattle.std.specs.{List.flat_map, Int.bytes_high_first, Int.bytes_low_first}
use Rattle.capture_file.specs.declared.{setting.ByteOrder.ByteOrder, setting.ByteOrder.TheVariants.Little, setting.ByteOrder.TheVariants.Big, setting.LinkType.LinkType}
use Rattle.capture_file.specs.declared.setting.LinkType.TheVariants.{Ethernet, Cooked, CookedV2}
use Rattle.capture_file.specs.Packets.{Packet}

-- a number in two octets, and in four
abbrev pub two_octets : ByteOrder → ℕ → List ℕ
two_octets Big n = bytes_high_first 2 n
two_octets Little n = bytes_low_first 0 2 n

abbrev pub four_octets : ByteOrder → ℕ → List ℕ
four_octets Big n = bytes_high_first 4 n
four_octets Little n = bytes_low_first 0 4 n

-- the number of a link type
abbrev pub number_of : LinkType → ℕ
number_of Ethernet = 1
number_of Cooked = 113
number_of CookedV2 = 276

-- how many octets of a frame are kept at most, as tcpdump has it
abbrev pub snap_length : ℕ
snap_length = 262144

-- the head: the magic of ns, versions 2 and 4, zone, accuracy, snap length, link type
unfoldable pub head_text : ByteOrder → LinkType → List ℕ
head_text order link =
    four_octets order 0xa1b23c4d
    ++ (two_octets order 2
    ++ (two_octets order 4
    ++ (four_octets order 0
    ++ (four_octets order 0
    ++ (four_octets order snap_length ++ four_octets order (number_of link))))))

-- a record: seconds, ns, captured length, original length, octets
unfoldable pub record_text : ByteOrder → Packet → List ℕ
record_text order p =
    four_octets order (p.at_ns / 1000000000)
    ++ (four_octets order (p.at_ns % 1000000000)
    ++ (four_octets order (length p.octets)
    ++ (four_octets order p.whole ++ p.octets)))

-- a file of frames of one link type
abbrev pub file_text : ByteOrder → LinkType → List Packet → List ℕ
file_text order link packets = head_text order link ++ flat_map (record_text order) packets

-- A frame fits in a file of its link type: its moment is below 2 ^ 32 s, its length fits in four
-- octets, and no more octets were captured than it had, and than the snap length has.
pub record Fits (link : LinkType) (p : Packet) : Type 0 where
  pub link_is : p.link ≡ link
  pub moment : p.at_ns < 2 ^ 32 * 1000000000
  pub whole : p.whole < 2 ^ 32
  pub within : length p.octets ≤ p.whole
  pub kept : length p.octets ≤ snap_length
