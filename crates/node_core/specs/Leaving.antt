-- LeaveAll in what waits at a port, and in what is next sent there (IEEE Std 802.1Q-2018, 10.7.10).
use Rattle.std.specs.Prelude.{ℕ, Bool, false, List, Result, Ok, Err}
use Rattle.srp_base.specs.declared.{mrp.App.App, mrp.App.TheVariants.Mvrp, mrp.App.TheVariants.Msrp}
use Rattle.mvrp_codec.specs.declared.pdu.MvrpPdu.{MvrpPdu}
use Rattle.mvrp_codec.specs.Meaning.{mvrp_reading}
use Rattle.msrp_codec.specs.declared.pdu.MsrpPdu.{MsrpPdu}
use Rattle.msrp_codec.specs.Meaning.{msrp_reading}
use Rattle.mrp_participant.specs.State.{is_active}
use Rattle.node_core.specs.declared.types.Wire.{Wire}
use Rattle.node_core.specs.State.{NodeState, of_part, of_port}

-- whether what octets of MVRP say has LeaveAll; malformed octets say nothing
abbrev pub vlans_leave : Result MvrpPdu ℕ → Bool
vlans_leave (Ok pdu) = pdu.leave_all
vlans_leave (Err place) = false

-- the same of octets of MSRP
abbrev pub streams_leave : Result MsrpPdu ℕ → Bool
streams_leave (Ok pdu) = pdu.leave_all
streams_leave (Err place) = false

-- the same of octets of an application
abbrev pub octets_leave : App → List ℕ → Bool
octets_leave Mvrp octets = vlans_leave (mvrp_reading octets)
octets_leave Msrp octets = streams_leave (msrp_reading octets)

-- whether what a PDU says has LeaveAll
abbrev pub has_leave_all : Wire → Bool
has_leave_all wire = octets_leave wire.app wire.octets

-- whether the LeaveAll machine of an application at a place is Active, so that the next PDU sent
-- there has LeaveAll
abbrev pub is_leave_all_at : App → ℕ → NodeState → Bool
is_leave_all_at Mvrp at s = of_part (λ part. is_active part.leave_all) false at s.vlans
is_leave_all_at Msrp at s = of_port (λ port. is_active port.part.leave_all) false at s.streams
