-- What the octets of an application mean, as far as its side looks at it.
use Rattle.std.specs.Prelude.{◌≡◌, ◌≢◌, ◌≤◌, ℕ, ◌+◌, ◌*◌, Bool, false, List, [], length, Result, Ok}
use Rattle.srp_base.specs.declared.mrp.MrpEvent.{MrpEvent}

-- of a PDU, whether it has LeaveAll, and its events in order; the PDU of these; what octets read
-- as, a PDU or the place where they break; and the octets in which a PDU is written
pub record Codec (K Pdu : Type 0) : Type 0 where
  pub leave_all_of : Pdu → Bool
  pub events_of : Pdu → List (MrpEvent × K)
  pub pdu_of : Bool → List (MrpEvent × K) → Pdu
  pub reading : List ℕ → Result Pdu ℕ
  pub spelling : Pdu → List ℕ

-- a LeaveAll or an event is to be written, and so few that they fit into 1,500 octets, of which a
-- PDU takes some, and each key as many as this
pub record IsFitting {K : Type 0} (base octets : ℕ) (leave_all : Bool) (events : List (MrpEvent × K)) : Type 0 where
  pub fits : base + octets * length events ≤ 1500
  pub says : leave_all ≡ false → events ≢ []

-- octets in which a PDU is written: they read as it, and fit into a frame
pub record IsWritten {K Pdu : Type 0} (codec : Codec K Pdu) (pdu : Pdu) (octets : List ℕ) : Type 0 where
  pub spelled : octets ≡ codec.spelling pdu
  pub reads : codec.reading octets ≡ Ok pdu
  pub short : length octets ≤ 1500
