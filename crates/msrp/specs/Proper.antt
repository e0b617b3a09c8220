-- That what MSRP keeps at a node fits in the fields in which it is sent (IEEE Std 802.1Q-2018,
-- 35.2.2.8, 35.2.2.9), and how the node's ports are set up.
use Rattle.std.specs.Prelude.{◌≡◌, ◌<◌, ◌^◌, List, map, Some}
use Rattle.std.specs.List.{AllByRecursion}
use Rattle.stream_importance.specs.declared.slope.Caps.{Caps}
use Rattle.msrp_talker.specs.declared.port_config.PortConfig.{PortConfig}
use Rattle.mrp_participant.specs.declared.row.Row.{Row}
use Rattle.mrp_participant.specs.Lookup.{find}
use Rattle.msrp_codec.specs.declared.{pdu.MsrpKey.MsrpKey, pdu.MsrpContent.MsrpContent}
use Rattle.msrp_codec.specs.{Content.value_of, FirstValue.IsFirst, FirstValue.IsTalker}
use Rattle.msrp.specs.declared.{domain.DomainSet.DomainSet, asking.SrpRequest.SrpRequest}
use Rattle.msrp.specs.{PortState.PortState, Part.Part, Part.key_cmp, Side.Streams, Side.IsKept}
use Rattle.msrp.specs.declared.asking.SrpRequest.TheVariants.{Talk, Hush, Listen, Unlisten}

-- of each key that has a row, the declared and the registered content fit in their fields
pub record HasRanges (s : Part) : Type 0 where
  pub declared : (key : MsrpKey) (r : Row MsrpKey MsrpContent)
      → find key_cmp key s.rows ≡ Some r → IsFirst (value_of key r.content)
  pub registered : (key : MsrpKey) (r : Row MsrpKey MsrpContent)
      → find key_cmp key s.rows ≡ Some r → IsFirst (value_of key r.heard)

-- all that a side keeps fits: the contents at its link ports, the Talkers of its application, and
-- the BridgeID of each port. Of the latency that a port adds nothing is asked, since the sum stands
-- still at the field's end
pub record AreOfRange (side : Streams) : Type 0 where
  pub parts : AllByRecursion (λ (p : PortState). HasRanges p.part) side.ports
  pub talks : AllByRecursion IsTalker side.talks
  pub configs : AllByRecursion (λ (p : PortState). p.config.bridge.0 < 2 ^ 64) side.ports

-- what a side keeps, of contents that fit
pub record IsProper (side : Streams) : Type 0 where
  pub kept : IsKept side
  pub ranges : AreOfRange side

-- a Talker that the application asks for fits
abbrev pub IsRequestInRange : SrpRequest → Type 0
IsRequestInRange (Talk talker) = IsTalker talker
IsRequestInRange (Hush stream) = Unit {0}
IsRequestInRange (Listen stream) = Unit {0}
IsRequestInRange (Unlisten stream) = Unit {0}

-- how a link port is set up: its BridgeID and its latency, the caps of its ledger, and the Domain
-- values of its node
pub record Setup : Type 0 where
  pub config : PortConfig
  pub caps : Caps
  pub domain : DomainSet

abbrev pub setup_of : PortState → Setup
setup_of p = record { config = p.config; caps = p.ledger.caps; domain = p.domain }

-- how each link port is set up
abbrev pub setups_of : Streams → List Setup
setups_of side = map setup_of side.ports
