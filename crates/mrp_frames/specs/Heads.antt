-- What stands in front of a PDU of MRP in a captured frame, by the link type of the capture: the
-- heads of Ethernet (IEEE Std 802.3-2018, 3.2), of Linux's cooked capture and of its second version
-- (LINKTYPE_LINUX_SLL, LINKTYPE_LINUX_SLL2).
use Rattle.std.specs.Prelude.{ℕ, ◌+◌, ◌*◌, Bool, ◌||◌, ◌==◌, if◌then◌else◌, List, [], ◌∷◌, Option, Some, None}
use Rattle.srp_base.specs.Hexadecimal.{number_high_first}
use Rattle.capture_file.specs.declared.setting.LinkType.{LinkType}
use Rattle.capture_file.specs.declared.setting.LinkType.TheVariants.{Ethernet, Cooked, CookedV2}
use Rattle.mrpdu_codec.specs.declared.form.AppForm.{AppForm}
use Rattle.mrpdu_codec.specs.declared.form.AppForm.TheVariants.{Mvrp, Msrp, Mmrp}

-- how many octets a head takes
abbrev pub head_size : LinkType → ℕ
head_size Ethernet = 14
head_size Cooked = 16
head_size CookedV2 = 20

-- the offset of its EtherType, which of a cooked head is called the protocol
abbrev pub type_at : LinkType → ℕ
type_at Ethernet = 12
type_at Cooked = 14
type_at CookedV2 = 0

-- the offset of the source address, which in a cooked head has eight octets, the last two of them
-- unused where it has six
abbrev pub address_at : LinkType → ℕ
address_at Ethernet = 6
address_at Cooked = 6
address_at CookedV2 = 12

-- the application of MRP that an EtherType is of (IEEE Std 802.1Q-2018, Table 10-2)
abbrev pub app_of : ℕ → Option AppForm
app_of number =
    if number == 0x88f5 then Some Mvrp
    else (if number == 0x22ea then Some Msrp
    else (if number == 0x88f6 then Some Mmrp
    else None))

-- whether an EtherType is that of a tag: of a customer's VLAN or of a service's (Table 9-1)
abbrev pub is_tag : ℕ → Bool
is_tag number = number == 0x8100 || number == 0x88a8

-- the number in the first two octets, or 0 where there are fewer
unfoldable pub first_two : List ℕ → ℕ
first_two (a ∷ b ∷ octets) = a * 256 + b
first_two _ = 0

-- the address in the first six octets, if there are as many
unfoldable pub first_six : List ℕ → Option ℕ
first_six (a ∷ b ∷ c ∷ d ∷ e ∷ f ∷ octets) = Some (number_high_first (a ∷ b ∷ c ∷ d ∷ e ∷ f ∷ []))
first_six _ = None
