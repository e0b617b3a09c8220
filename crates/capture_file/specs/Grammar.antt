-- The grammar of capture files: which octets spell a capture of which frames, where others break
-- off, and which are none. All of it joins whole lists of octets.
use Rattle.std.specs.Prelude.{◌≡◌, ℕ, ◌%◌, ◌<◌, ◌≤◌, ◌&&◌, true, ◌==◌, if◌then◌else◌, List, [], ◌∷◌, ◌++◌, length, Option, Some, None, Result, Ok, Err}
use Rattle.std.specs.List.{flat_map}
use Rattle.capture_file.specs.declared.{error.CaptureErr.CaptureErr, setting.ByteOrder.ByteOrder, setting.ByteOrder.TheVariants.Little, setting.ByteOrder.TheVariants.Big, setting.FileForm.FileForm, setting.FileForm.TheVariants.Pcap, setting.FileForm.TheVariants.Pcapng, setting.LinkType.LinkType, setting.Magic.Magic, setting.Setting.Setting}
use Rattle.capture_file.specs.declared.error.CaptureErr.TheVariants as errors
use Rattle.capture_file.specs.{Fields.field, Settings.link_numbered, Settings.units_of, Packets.Packet, Pieces.IsPiece, Pieces.Meant, Pieces.meaning, Pieces.after, Pieces.packets_meant, Pieces.is_read_on, Pieces.Meant.OtherLink}

-- ---- How a file begins

-- the form that the first octets tell, if they tell one in this byte order: pcap in µs or ns,
-- pcapng with its byte-order magic
abbrev pub magic_in : ByteOrder → List ℕ → Option Magic
magic_in order octets =
    let first = field order 0 octets in
    if first == 0xa1b2c3d4 then Some (record { form = Pcap; order = order; resolution = 6 })
    else (if first == 0xa1b23c4d then Some (record { form = Pcap; order = order; resolution = 9 })
    else (if first == 0x0a0d0d0a && field order 8 octets == 0x1a2b3c4d then Some (record { form = Pcapng; order = order; resolution = 6 })
    else None))

-- the first of two that is there
abbrev pub first_of : Option Magic → Option Magic → Option Magic
first_of (Some magic) other = Some magic
first_of None other = other

-- in either byte order
unfoldable pub magic_of : List ℕ → Option Magic
magic_of octets = first_of (magic_in Big octets) (magic_in Little octets)

-- the head of pcap: magic, versions, zone, accuracy, snap length, link type. In pcapng the first
-- piece stands at once.
abbrev pub head_size : FileForm → ℕ
head_size Pcap = 24
head_size Pcapng = 0

-- the setting of pcap: one interface, if its link type is one that is read
abbrev pub pcap_setting : Magic → ℕ → Option LinkType → ℕ → Result Setting CaptureErr
pcap_setting magic snap None number = Err (errors.OtherLink number)
pcap_setting magic snap (Some link) number = Ok (record {
  form = Pcap;
  order = magic.order;
  interfaces = record { link = link; units = units_of magic.resolution; snap = snap } ∷ [];
})

-- the link type of pcap's head, its low 28 bits
abbrev pub head_link : Magic → List ℕ → ℕ
head_link magic octets = field magic.order 20 octets % 0x1000_0000

-- the setting behind the head of a file of this form
abbrev pub setting_of : FileForm → Magic → List ℕ → Result Setting CaptureErr
setting_of Pcap magic octets =
    pcap_setting magic (field magic.order 16 octets) (link_numbered (head_link magic octets)) (head_link magic octets)
setting_of Pcapng magic octets = Ok (record { form = Pcapng; order = magic.order; interfaces = [] })

-- the setting behind the head, or the link type that isn't read
unfoldable pub setting_in : Magic → List ℕ → Result Setting CaptureErr
setting_in magic octets = setting_of magic.form magic octets

-- ---- Pieces one after another

-- a piece with its meaning
pub record Piece : Type 0 where
  pub text : List ℕ
  pub meant : Meant

-- a piece that is whole in this setting, and behind which the file is read on
pub record IsWhole (s : Setting) (p : Piece) : Type 0 where
  pub piece : IsPiece s p.text
  pub means : meaning s p.text ≡ Some p.meant
  pub on : is_read_on p.meant ≡ true

-- whole pieces, each in the setting that those before it leave
abbrev pub AreWhole : Setting → List Piece → Type 0
AreWhole s [] = Unit {0}
AreWhole s (p ∷ ps) = IsWhole s p × AreWhole (after s p.meant) ps

-- the setting that they leave
abbrev pub setting_after : Setting → List Piece → Setting
setting_after s [] = s
setting_after s (p ∷ ps) = setting_after (after s p.meant) ps

-- their octets
abbrev pub pieces_octets : List Piece → List ℕ
pieces_octets ps = flat_map (λ p. p.text) ps

-- the frames that they say
abbrev pub pieces_packets : List Piece → List Packet
pieces_packets ps = flat_map (λ p. packets_meant p.meant) ps

-- ---- A file

-- The file's head and whole pieces are its octets up to a place; behind it these octets stand, in
-- this setting.
pub record Reaches (octets : List ℕ) (packets : List Packet) (setting : Setting) (front rest : List ℕ) : Type 0 where
  pub magic : Magic
  pub known : magic_of octets ≡ Some magic
  pub head : List ℕ
  pub size : length head ≡ head_size magic.form
  pub start : Setting
  pub starts : setting_in magic octets ≡ Ok start
  pub pieces : List Piece
  pub rules : AreWhole start pieces
  pub spelled : front ≡ head ++ pieces_octets pieces
  pub whole : octets ≡ front ++ rest
  pub meaning : packets ≡ pieces_packets pieces
  pub leaves : setting ≡ setting_after start pieces

-- the octets are a capture file that has these frames
pub record Spells (octets : List ℕ) (packets : List Packet) : Type 0 where
  pub setting : Setting
  pub reaches : Reaches octets packets setting octets []

-- No piece that keeps its rules begins here: the octets are too few, or lengths, magics or numbers
-- in them aren't allowed.
pub record NoneBegins (s : Setting) (rest : List ℕ) : Type 0 where
  pub some : 0 < length rest
  pub none : (text more : List ℕ) → rest ≡ text ++ more → IsPiece s text → meaning s text ≡ None

-- the file has these frames up to this place, the offset of the piece or the head that isn't whole
pub data BreaksAt (octets : List ℕ) (packets : List Packet) (place : ℕ) : Type 0 where
  in_head : (magic : Magic) → magic_of octets ≡ Some magic → length octets < head_size magic.form
      → packets ≡ [] → place ≡ 0 → BreaksAt octets packets place
  in_piece : (setting : Setting) (front rest : List ℕ) → Reaches octets packets setting front rest
      → NoneBegins setting rest → place ≡ length front → BreaksAt octets packets place

-- the first interface whose link type isn't read has this one
pub data HasOtherLink (octets : List ℕ) (number : ℕ) : Type 0 where
  in_head : (magic : Magic) → magic_of octets ≡ Some magic → head_size magic.form ≤ length octets
      → setting_in magic octets ≡ Err (errors.OtherLink number) → HasOtherLink octets number
  in_piece : (packets : List Packet) (setting : Setting) (front text more : List ℕ) → Reaches octets packets setting front (text ++ more)
      → IsPiece setting text → meaning setting text ≡ Some (OtherLink number) → HasOtherLink octets number

-- ---- What is read of a file

-- its frames, and the place where it breaks off, if it does; or why it has none
abbrev pub Outcome : Type 0
Outcome = Result (List Packet × Option ℕ) CaptureErr

-- frames up to the file's end, or up to a place
abbrev pub IsReadTo : List ℕ → List Packet → Option ℕ → Type 0
IsReadTo octets packets None = Spells octets packets
IsReadTo octets packets (Some place) = BreaksAt octets packets place

-- the octets have this outcome
abbrev pub IsReading : List ℕ → Outcome → Type 0
IsReading octets (Ok x) = IsReadTo octets x.0 x.1
IsReading octets (Err errors.NotCapture) = magic_of octets ≡ None
IsReading octets (Err (errors.OtherLink number)) = HasOtherLink octets number
IsReading octets (Err errors.NoMemory) = ⊥
