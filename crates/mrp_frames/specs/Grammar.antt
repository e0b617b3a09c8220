-- Which octets are a frame of MRP: a head, tags one after another, and the PDU with what stands
-- behind it.
use Rattle.std.specs.Prelude.{◌≡◌, ℕ, true, List, [], ◌∷◌, ◌++◌, length, drop, Some}
use Rattle.srp_base.specs.Text.{whole_of}
use Rattle.capture_file.specs.declared.setting.LinkType.{LinkType}
use Rattle.mrp_frames.specs.{Heads.head_size, Heads.type_at, Heads.address_at, Heads.app_of, Heads.is_tag, Heads.first_two, Heads.first_six, Frames.Seen}

-- Behind an EtherType tags stand, four octets each: two of the tag's own, and the next EtherType.
-- The last EtherType is this one.
abbrev pub LeadsTo : ℕ → List (List ℕ) → ℕ → Type 0
LeadsTo number [] last = last ≡ number
LeadsTo number (tag ∷ tags) last = (is_tag number ≡ true) × (length tag ≡ 4) × LeadsTo (first_two (drop 2 tag)) tags last

-- the octets of a frame with a head of this link type
pub record IsFrame (link : LinkType) (octets : List ℕ) (seen : Seen) : Type 0 where
  pub head : List ℕ
  pub size : length head ≡ head_size link
  pub source : first_six (drop (address_at link) head) ≡ Some seen.address
  pub tags : List (List ℕ)
  pub last : ℕ
  pub tagged : LeadsTo (first_two (drop (type_at link) head)) tags last
  pub carries : app_of last ≡ Some seen.app
  pub spelled : octets ≡ head ++ (whole_of tags ++ seen.pdu)
