-- The values of MSRP's attributes as octets, field by field (IEEE Std 802.1Q-2018, 35.2.2.8,
-- 35.2.2.9). All numbers stand with the high octet first.
use Rattle.std.specs.Prelude.{ℕ, ◌+◌, ◌*◌, ◌/◌, ◌%◌, ◌^◌, ◌<◌, ◌≤◌, Bool, ◌&&◌, List, ◌++◌, take, drop, nat_le, ◌==◌, if◌then◌else◌}
use Rattle.std.specs.Int.{bytes_high_first}
use Rattle.srp_base.specs.Hexadecimal.{number_high_first}
use Rattle.srp_base.specs.declared.{bandwidth.Rank.Rank, bandwidth.Rank.TheVariants.Emergency, bandwidth.Rank.TheVariants.Normal, streams.Talker.Talker, streams.Failure.Failure}
use Rattle.msrp_codec.specs.declared.{attribute_type.AttributeType.AttributeType, first_value.FirstValue.FirstValue}
use Rattle.msrp_codec.specs.declared.attribute_type.AttributeType.TheVariants as types
use Rattle.msrp_codec.specs.declared.first_value.FirstValue.TheVariants.{Advertise, Failed, Listener, Domain}

-- the number in so many octets at an offset
abbrev pub field : List ℕ → ℕ → ℕ → ℕ
field octets at n = number_high_first (take n (drop at octets))

-- the Rank bit: 0 is emergency traffic
abbrev pub rank_of : ℕ → Rank
rank_of n = if n == 0 then Emergency else Normal

-- a Talker, whether advertised or failed
abbrev pub talker_of : List ℕ → Talker
talker_of first = record {
  -- StreamID (35.2.2.8.2)
  stream = record { 0 = field first 0 8 };
  -- destination_address and vlan_identifier of DataFrameParameters (35.2.2.8.3)
  dest = field first 8 6;
  vid = field first 14 2;
  -- MaxFrameSize and MaxIntervalFrames of TSpec (35.2.2.8.4)
  max_frame = field first 16 2;
  frames = field first 18 2;
  -- PriorityAndRank: three bits, one bit, and four that are ignored (35.2.2.8.5)
  priority = field first 20 1 / 32;
  rank = rank_of (field first 20 1 / 16 % 2);
  -- AccumulatedLatency (35.2.2.8.6)
  latency = field first 21 4;
}

-- FailureInformation of a Talker Failed (35.2.2.8.7)
abbrev pub failure_of : List ℕ → Failure
failure_of first = record { bridge = record { 0 = field first 25 8 }; code = field first 33 1 }

-- a FirstValue of a type
abbrev pub first_value_of : AttributeType → List ℕ → FirstValue
first_value_of types.Advertise first = Advertise (talker_of first)
first_value_of types.Failed first = Failed (talker_of first) (failure_of first)
-- StreamID (35.2.2.8.2)
first_value_of types.Listener first = Listener (record { 0 = field first 0 8 })
-- SRclassID, SRclassPriority and SRclassVID (35.2.2.9.2 to 35.2.2.9.4)
first_value_of types.Domain first = Domain (field first 0 1) (field first 1 1) (field first 2 2)

-- whether so many consecutive values from a Talker on stay within its StreamID and its destination
-- address, counted up as whole numbers of 64 and 48 bits, with carry; that they carry is this
-- project's own rule
abbrev pub talkers_fit : Talker → ℕ → Bool
talkers_fit t n = nat_le (t.stream.0 + n) (2 ^ 64) && nat_le (t.dest + n) (2 ^ 48)

-- whether so many consecutive values from a FirstValue on stay within the fields that are counted
-- up: a Talker's, the StreamID of a Listener, or the SRclassID and the SRclassPriority of a Domain
abbrev pub values_fit : FirstValue → ℕ → Bool
values_fit (Advertise t) n = talkers_fit t n
values_fit (Failed t f) n = talkers_fit t n
values_fit (Listener stream) n = nat_le (stream.0 + n) (2 ^ 64)
values_fit (Domain class priority vid) n = nat_le (class + n) 256 && nat_le (priority + n) 256

-- a Talker so many values later
abbrev pub talker_after : Talker → ℕ → Talker
talker_after t i = record t { stream = record { 0 = t.stream.0 + i }; dest = t.dest + i }

-- ---- Written

-- the Rank bit of a rank
abbrev pub rank_bit : Rank → ℕ
rank_bit Emergency = 0
rank_bit Normal = 1

-- the fields of a Talker, in the order in which they are read
abbrev pub talker_octets : Talker → List ℕ
talker_octets t =
    bytes_high_first 8 t.stream.0
    ++ (bytes_high_first 6 t.dest
    ++ (bytes_high_first 2 t.vid
    ++ (bytes_high_first 2 t.max_frame
    ++ (bytes_high_first 2 t.frames
    ++ (bytes_high_first 1 (t.priority * 32 + rank_bit t.rank * 16)
    ++ bytes_high_first 4 t.latency)))))

-- FailureInformation
abbrev pub failure_octets : Failure → List ℕ
failure_octets f = bytes_high_first 8 f.bridge.0 ++ bytes_high_first 1 f.code

-- a FirstValue
abbrev pub first_octets : FirstValue → List ℕ
first_octets (Advertise t) = talker_octets t
first_octets (Failed t f) = talker_octets t ++ failure_octets f
first_octets (Listener stream) = bytes_high_first 8 stream.0
first_octets (Domain class priority vid) =
    bytes_high_first 1 class ++ (bytes_high_first 1 priority ++ bytes_high_first 2 vid)

-- ---- The numbers that fields hold

-- the numbers of a Talker fit in its fields: StreamID, DataFrameParameters, TSpec, PriorityAndRank,
-- AccumulatedLatency
pub record IsTalker (t : Talker) : Type 0 where
  pub stream : t.stream.0 < 2 ^ 64
  pub dest : t.dest < 2 ^ 48
  pub vid : t.vid < 2 ^ 16
  pub max_frame : t.max_frame < 2 ^ 16
  pub frames : t.frames < 2 ^ 16
  pub priority : t.priority ≤ 7
  pub latency : t.latency < 2 ^ 32

-- the numbers of FailureInformation fit in its fields: a BridgeID and a code
pub record IsFailure (f : Failure) : Type 0 where
  pub bridge : f.bridge.0 < 2 ^ 64
  pub code : f.code < 2 ^ 8

-- the numbers of a FirstValue fit in the fields of its type
abbrev pub IsFirst : FirstValue → Type 0
IsFirst (Advertise t) = IsTalker t
IsFirst (Failed t f) = IsTalker t × IsFailure f
IsFirst (Listener stream) = stream.0 < 2 ^ 64
IsFirst (Domain class priority vid) = (class < 2 ^ 8) × (priority < 2 ^ 8) × (vid < 2 ^ 16)
