-- The frame of Ethernet in which a PDU of MRP is sent, without its check sequence (IEEE Std
-- 802.3-2018, 3.2). That it is read as what was written is the law `what_is_written_is_seen`.
use Rattle.std.specs.Prelude.{ℕ, ◌-◌, List, ◌++◌, length, replicate}
use Rattle.std.specs.Int.{bytes_high_first}
use Rattle.mrpdu_codec.specs.declared.form.AppForm.{AppForm}
use Rattle.mrpdu_codec.specs.declared.form.AppForm.TheVariants.{Mvrp, Msrp, Mmrp}

-- The address to which an application sends (IEEE Std 802.1Q-2018): the Customer Bridge MVRP
-- address, the Nearest Bridge group address (35.2.2.1), the Customer and Provider Bridge MMRP
-- address (Tables 10-1, 8-1).
abbrev pub group_of : AppForm → ℕ
group_of Mvrp = 0x0180c2000021
group_of Msrp = 0x0180c200000e
group_of Mmrp = 0x0180c2000020

-- its EtherType (Table 10-2)
abbrev pub type_of : AppForm → ℕ
type_of Mvrp = 0x88f5
type_of Msrp = 0x22ea
type_of Mmrp = 0x88f6

-- what fills a PDU up to the 46 octets that a frame has at least
abbrev pub padding_of : List ℕ → List ℕ
padding_of pdu = replicate (46 - length pdu) 0

-- the frame: destination, source, EtherType, PDU, padding
unfoldable pub frame_text : AppForm → ℕ → List ℕ → List ℕ
frame_text app address pdu =
    bytes_high_first 6 (group_of app)
    ++ (bytes_high_first 6 address
    ++ (bytes_high_first 2 (type_of app)
    ++ (pdu ++ padding_of pdu)))
