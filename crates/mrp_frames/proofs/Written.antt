-- A frame that was written is seen as what was written.
use Rattle.std.proofs.Common.{◌≡◌, ℕ, ◌+◌, ◌-◌, ◌≤◌, nat_le, true, List, ◌++◌, length, drop, Option, Some, refl, ap, ◌∙◌, append_assoc, length-append, arith}
use Rattle.std.specs.Int.{bytes_high_first}
use Rattle.std.proofs.lemmas.{Bool.le-leb, List.length-replicate}
use Rattle.srp_base.specs.Hexadecimal.{number_high_first}
use Rattle.capture_file.specs.Packets.{Packet}
use Rattle.capture_file.specs.declared.setting.LinkType.TheVariants.{Ethernet}
use Rattle.mrpdu_codec.specs.declared.form.AppForm.TheVariants.{Mvrp, Msrp, Mmrp}
use Rattle.mrp_frames.specs.{AppForm, first_two, first_six, pdu_behind, frame_in, group_of, type_of, padding_of, frame_text}
use Rattle.mrp_frames.proofs.Behind.{no_tag}

-- how long it is
text_length : (app : AppForm) (address : ℕ) (pdu : List ℕ) → length (frame_text app address pdu) ≡ 14 + (length pdu + length (padding_of pdu))
unfolding frame_text
text_length app address pdu = omega (arith, length-append pdu (padding_of pdu))

padding_length : (pdu : List ℕ) → length (padding_of pdu) ≡ 46 - length pdu
padding_length pdu = length-replicate (46 - length pdu) 0

pub at_least : (app : AppForm) (address : ℕ) (pdu : List ℕ) → 60 ≤ length (frame_text app address pdu)
at_least app address pdu = omega (arith, text_length app address pdu, padding_length pdu)

pub at_most : (app : AppForm) (address : ℕ) (pdu : List ℕ) → length (frame_text app address pdu) ≤ 60 + length pdu
at_most app address pdu = omega (arith, text_length app address pdu, padding_length pdu)

-- its parts
source_back : (app : AppForm) (address : ℕ) (pdu : List ℕ) → number_high_first (bytes_high_first 6 address) ≡ address → first_six (drop 6 (frame_text app address pdu)) ≡ Some address
unfolding frame_text first_six
source_back app address pdu back = ap (λ (n : ℕ). let o : Option ℕ = Some n in o) back

type_back : (app : AppForm) (address : ℕ) (pdu : List ℕ) → first_two (drop 12 (frame_text app address pdu)) ≡ type_of app
unfolding frame_text first_two
type_back Mvrp address pdu = refl
type_back Msrp address pdu = refl
type_back Mmrp address pdu = refl

pdu_back : (app : AppForm) (address : ℕ) (pdu : List ℕ) → drop 14 (frame_text app address pdu) ≡ pdu ++ padding_of pdu
unfolding frame_text
pdu_back app address pdu = refl

behind_type : (app : AppForm) (octets : List ℕ) → pdu_behind (type_of app) octets ≡ Some (app, octets)
behind_type Mvrp octets = no_tag 0x88f5 octets refl
behind_type Msrp octets = no_tag 0x22ea octets refl
behind_type Mmrp octets = no_tag 0x88f6 octets refl

pub seen_back : (app : AppForm) (address : ℕ) (pdu : List ℕ) (packet : Packet) → number_high_first (bytes_high_first 6 address) ≡ address
    → packet.link ≡ Ethernet → packet.octets ≡ frame_text app address pdu → frame_in packet ≡ Some (record { address = address; app = app; pdu = pdu ++ padding_of pdu })
unfolding frame_in
seen_back app address pdu packet back link octets =
    let long : nat_le 14 (length (frame_text app address pdu)) ≡ true = le-leb 14 (length (frame_text app address pdu)) (omega (arith, at_least app address pdu)) in
    rw (link, octets, long, source_back app address pdu back, type_back app address pdu, pdu_back app address pdu, behind_type app (pdu ++ padding_of pdu)) refl

-- ---- how it is written

four_parts : (o a b c d : List ℕ) → (((o ++ a) ++ b) ++ c) ++ d ≡ o ++ (a ++ (b ++ (c ++ d)))
four_parts o a b c d = append_assoc ((o ++ a) ++ b) c d ∙ append_assoc (o ++ a) b (c ++ d) ∙ append_assoc o a (b ++ (c ++ d))

-- a destination, a source, an EtherType and a padded PDU, one after the other
pub put_parts : (app : AppForm) (address group from kind : ℕ) (pdu o first second third last : List ℕ) → group ≡ group_of app → from ≡ address → kind ≡ type_of app
    → first ≡ o ++ bytes_high_first 6 group → second ≡ first ++ bytes_high_first 6 from → third ≡ second ++ bytes_high_first 2 kind
    → last ≡ third ++ (pdu ++ padding_of pdu) → last ≡ o ++ frame_text app address pdu
unfolding frame_text
put_parts app address group from kind pdu o first second third last g f k one two three four =
    four
    ∙ ap (λ (l : List ℕ). l ++ (pdu ++ padding_of pdu)) (three ∙ ap (λ (l : List ℕ). l ++ bytes_high_first 2 kind) (two ∙ ap (λ (l : List ℕ). l ++ bytes_high_first 6 from) one))
    ∙ four_parts o (bytes_high_first 6 group) (bytes_high_first 6 from) (bytes_high_first 2 kind) (pdu ++ padding_of pdu)
    ∙ ap (λ (n : ℕ). o ++ (bytes_high_first 6 n ++ (bytes_high_first 6 from ++ (bytes_high_first 2 kind ++ (pdu ++ padding_of pdu))))) g
    ∙ ap (λ (n : ℕ). o ++ (bytes_high_first 6 (group_of app) ++ (bytes_high_first 6 n ++ (bytes_high_first 2 kind ++ (pdu ++ padding_of pdu))))) f
    ∙ ap (λ (n : ℕ). o ++ (bytes_high_first 6 (group_of app) ++ (bytes_high_first 6 address ++ (bytes_high_first 2 n ++ (pdu ++ padding_of pdu))))) k
