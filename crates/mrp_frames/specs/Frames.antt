-- Reading a frame from left to right. That this is the grammar is the law `frames_are_the_grammar`.
use Rattle.std.specs.Prelude.{ℕ, ◌+◌, ◌*◌, nat_le, if◌then◌else◌, List, ◌∷◌, length, drop, Option, Some, None, option_map}
use Rattle.capture_file.specs.Packets.{Packet}
use Rattle.mrpdu_codec.specs.declared.form.AppForm.{AppForm}
use Rattle.mrp_frames.specs.declared.frame.MrpFrame.{MrpFrame}
use Rattle.mrp_frames.specs.{Heads.head_size, Heads.type_at, Heads.address_at, Heads.app_of, Heads.is_tag, Heads.first_two, Heads.first_six}

-- A frame of MRP: the source address, the application, and the octets behind the EtherType.
pub record Seen : Type 0 where
  pub address : ℕ
  pub app : AppForm
  pub pdu : List ℕ

-- a frame in place
abbrev pub seen_in : MrpFrame → Seen
seen_in f = record { address = f.address; app = f.app; pdu = f.pdu.now }

-- the EtherType behind a tag's two octets, and what stands behind it
unfoldable pub next_type : List ℕ → Option (ℕ × List ℕ)
next_type (a ∷ b ∷ c ∷ d ∷ octets) = Some (c * 256 + d, octets)
next_type _ = None

-- what stands behind an EtherType that is no tag's
abbrev pub told : Option AppForm → List ℕ → Option (AppForm × List ℕ)
told app octets = option_map (λ a. (a, octets)) app

-- the application and its PDU behind an EtherType, and behind the tags that it begins
unfoldable pub pdu_behind : ℕ → List ℕ → Option (AppForm × List ℕ)
pdu_behind number (a ∷ b ∷ c ∷ d ∷ octets) =
    if is_tag number then pdu_behind (c * 256 + d) octets else told (app_of number) (a ∷ b ∷ c ∷ d ∷ octets)
pdu_behind number octets = if is_tag number then None else told (app_of number) octets

-- the frame behind a head
abbrev pub framed : Option ℕ → Option (AppForm × List ℕ) → Option Seen
framed None behind = None
framed (Some address) None = None
framed (Some address) (Some x) = Some (record { address = address; app = x.0; pdu = x.1 })

-- the frame of MRP that a captured frame is, if it is one
unfoldable pub frame_in : Packet → Option Seen
frame_in p =
    if nat_le (head_size p.link) (length p.octets) then framed (first_six (drop (address_at p.link) p.octets)) (pdu_behind (first_two (drop (type_at p.link) p.octets)) (drop (head_size p.link) p.octets))
    else None
