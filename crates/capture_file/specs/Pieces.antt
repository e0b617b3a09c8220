-- The pieces of a capture file: records of pcap, blocks of pcapng. A piece is its text, the octets
-- from its first one to its last; its rules and what it means speak of numbers at offsets in it
-- (draft-ietf-opsawg-pcap, draft-ietf-opsawg-pcapng). Which rules they are, the byte order and the
-- interfaces are given by the setting that the pieces before it leave.
use Rattle.std.specs.Prelude.{◌≡◌, ℕ, ◌+◌, ◌-◌, ◌*◌, ◌%◌, ◌≤◌, min, Bool, true, false, ◌&&◌, nat_le, ◌==◌, if◌then◌else◌, List, [], ◌∷◌, ◌++◌, length, take, drop, slice_get, Option, Some, None}
use Rattle.capture_file.specs.declared.{setting.ByteOrder.ByteOrder, setting.ByteOrder.TheVariants.Little, setting.ByteOrder.TheVariants.Big, setting.FileForm.FileForm, setting.FileForm.TheVariants.Pcap, setting.FileForm.TheVariants.Pcapng, setting.LinkType.LinkType, setting.Interface.Interface, setting.Setting.Setting}
use Rattle.capture_file.specs.{Fields.field, Fields.half, Settings.link_numbered, Settings.units_of, Settings.moment, Options.resolution_in, Packets.Packet}

-- ---- Where a piece ends

-- A record of pcap: 16 octets (seconds, fraction, captured length, original length), and the octets
-- that were captured, which are no more than the frame had.
pub record IsRecord (order : ByteOrder) (text : List ℕ) : Type 0 where
  pub head : 16 ≤ length text
  pub octets : length text ≡ 16 + field order 8 text
  pub within : field order 8 text ≤ field order 12 text

-- A block of pcapng: its type, its length, its body, and its length once more. The length is a
-- multiple of 4.
pub record IsBlock (order : ByteOrder) (text : List ℕ) : Type 0 where
  pub fixed : 12 ≤ length text
  pub fourths : length text % 4 ≡ 0
  pub first : field order 4 text ≡ length text
  pub last : field order (length text - 4) text ≡ length text

-- a section header block, whose type reads alike in both byte orders
abbrev pub is_section : List ℕ → Bool
is_section text = field Big 0 text == 0x0a0d0d0a

-- a section says its byte order by itself, in the four octets behind its length
abbrev pub section_order : List ℕ → ByteOrder
section_order text = if field Little 8 text == 0x1a2b3c4d then Little else Big

-- the byte order of a block
abbrev pub order_in : Setting → List ℕ → ByteOrder
order_in s text = if is_section text then section_order text else s.order

-- a piece of a file of this form
abbrev pub IsPieceOf : FileForm → Setting → List ℕ → Type 0
IsPieceOf Pcap s text = IsRecord s.order text
IsPieceOf Pcapng s text = IsBlock (order_in s text) text

-- a piece of the setting's form
abbrev pub IsPiece : Setting → List ℕ → Type 0
IsPiece s text = IsPieceOf s.form s text

-- ---- What it means

-- a frame; a section, which has no interfaces yet; one more interface; an interface of a link type
-- that isn't read; or nothing
pub data Meant : Type 0 where
  Frame : Packet → Meant
  Section : ByteOrder → Meant
  Described : Interface → Meant
  OtherLink : ℕ → Meant
  PassedOver : Meant

-- a frame of an interface, if that is there
abbrev pub frame_of : Option Interface → ℕ → ℕ → ℕ → List ℕ → Option Meant
frame_of None seconds ticks whole octets = None
frame_of (Some i) seconds ticks whole octets =
    Some (Frame (record { link = i.link; at_ns = moment i.units seconds ticks; whole = whole; octets = octets }))

-- a record of pcap; all are of one interface
abbrev pub record_meant : Setting → List ℕ → Option Meant
record_meant s text =
    frame_of (slice_get s.interfaces 0) (field s.order 0 text) (field s.order 4 text) (field s.order 12 text) (drop 16 text)

-- a section header block: byte-order magic, versions, length of the section
abbrev pub section_meant : ByteOrder → List ℕ → Option Meant
section_meant order text =
    if nat_le 28 (length text) && field order 8 text == 0x1a2b3c4d then Some (Section order) else None

-- an interface of this link type, with this number in the file, if its options are whole
abbrev pub described : Option LinkType → ℕ → ℕ → Option ℕ → Option Meant
described None number snap resolution = Some (OtherLink number)
described (Some link) number snap None = None
described (Some link) number snap (Some resolution) =
    Some (Described (record { link = link; units = units_of resolution; snap = snap }))

-- the options of an interface description block
abbrev pub interface_options : List ℕ → List ℕ
interface_options text = take (length text - 20) (drop 16 text)

-- an interface description block: link type, snap length, options
abbrev pub interface_meant : ByteOrder → List ℕ → Option Meant
interface_meant order text =
    if nat_le 20 (length text) then described (link_numbered (half order 8 text)) (half order 8 text) (field order 12 text) (resolution_in order 0 (interface_options text))
    else None

-- the captured octets of an enhanced packet block are no more than the frame had, and stand in the
-- block
abbrev pub enhanced_fits : ByteOrder → List ℕ → Bool
enhanced_fits order text =
    nat_le (field order 20 text) (field order 24 text) && nat_le (field order 20 text + 32) (length text)

-- an enhanced packet block: the interface's number, the moment's high and low halves, captured and
-- original length, octets
abbrev pub enhanced_meant : ByteOrder → Setting → List ℕ → Option Meant
enhanced_meant order s text =
    if enhanced_fits order text then frame_of (slice_get s.interfaces (field order 8 text)) 0 (field order 12 text * 0x1_0000_0000 + field order 16 text) (field order 24 text) (take (field order 20 text) (drop 28 text))
    else None

-- how many octets an interface keeps of a frame; a snap length of 0 keeps all
abbrev pub kept : ℕ → ℕ → ℕ
kept snap whole = if snap == 0 then whole else min snap whole

-- a frame of the first interface, of this original length, if the octets that are kept stand in the
-- block
abbrev pub simple_frame : Option Interface → ℕ → List ℕ → Option Meant
simple_frame None whole text = None
simple_frame (Some i) whole text =
    if nat_le (kept i.snap whole + 16) (length text) then frame_of (Some i) 0 0 whole (take (kept i.snap whole) (drop 12 text))
    else None

-- a simple packet block: original length, octets. It has no moment, which counts as 0.
abbrev pub simple_meant : ByteOrder → Setting → List ℕ → Option Meant
simple_meant order s text = simple_frame (slice_get s.interfaces 0) (field order 8 text) text

-- a block by its type; others are passed over
abbrev pub block_meant : ByteOrder → Setting → List ℕ → Option Meant
block_meant order s text =
    let kind = field order 0 text in
    if kind == 0x0a0d0d0a then section_meant order text
    else (if kind == 1 then interface_meant order text
    else (if kind == 6 then enhanced_meant order s text
    else (if kind == 3 then simple_meant order s text
    else Some PassedOver)))

-- a piece of a file of this form
unfoldable pub meaning_of : FileForm → Setting → List ℕ → Option Meant
meaning_of Pcap s text = record_meant s text
meaning_of Pcapng s text = block_meant (order_in s text) s text

-- what a piece means, if its fields keep their rules
abbrev pub meaning : Setting → List ℕ → Option Meant
meaning s text = meaning_of s.form s text

-- ---- What it leaves

-- the setting behind it: a section begins with no interfaces, and each description adds one
abbrev pub after : Setting → Meant → Setting
after s (Section order) = record { form = s.form; order = order; interfaces = [] }
after s (Described i) = record { form = s.form; order = s.order; interfaces = s.interfaces ++ i ∷ [] }
after s (Frame packet) = s
after s (OtherLink number) = s
after s PassedOver = s

-- the frames that it says
abbrev pub packets_meant : Meant → List Packet
packets_meant (Frame packet) = packet ∷ []
packets_meant (Section order) = []
packets_meant (Described i) = []
packets_meant (OtherLink number) = []
packets_meant PassedOver = []

-- whether the file is read on behind it
abbrev pub is_read_on : Meant → Bool
is_read_on (OtherLink number) = false
is_read_on (Frame packet) = true
is_read_on (Section order) = true
is_read_on (Described i) = true
is_read_on PassedOver = true
