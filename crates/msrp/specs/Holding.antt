-- What a side of MSRP and its link ports hold: their states, and the memory that is taken for what
-- comes. What a call does is said of the states alone.
use Rattle.std.specs.Prelude.{ℕ, Bool, true, false, List, length, map}
use Rattle.srp_base.specs.declared.{streams.Talker.Talker, numbers.StreamId.StreamId}
use Rattle.attribute_propagation.specs.{Dirty.KeySet, Ports.HasRoom, Ports.keys_in}
use Rattle.msrp_codec.specs.declared.pdu.MsrpKey.{MsrpKey}
use Rattle.msrp.specs.{PortState.PortState, Settling.talker_keys, Side.Streams}

-- the state of a link port; for how many new keys its participant has room, and for how many new
-- streams its ledger
pub record PortHolding : Type 0 where
  pub state : PortState
  pub rows : ℕ
  pub wants : ℕ

-- the states of some link ports
abbrev pub ports_in : List PortHolding → List PortState
ports_in ports = map (λ p. p.state) ports

-- the state of a side, and whether it is ready for the clock: then a clock takes no memory
pub record SideHolding : Type 0 where
  pub state : Streams
  pub ready : Bool

-- the state of a side of these link ports, sets of awaiting keys, Talkers and streams that the
-- application asked for, at a moment
abbrev pub streams_of : List PortHolding → List (KeySet MsrpKey) → List Talker → List StreamId → ℕ → Streams
streams_of ports sets talks listens moment =
    record { ports = ports_in ports; awaiting = keys_in sets; talks = talks; listens = listens; moment = moment }

-- at each link port there is room for the Talker keys of all streams with a Talker, where the side
-- is ready
abbrev pub IsReadyAs : Bool → List Talker → List PortHolding → List (KeySet MsrpKey) → Type 0
IsReadyAs false talks ports sets = Unit {0}
IsReadyAs true talks ports sets = HasRoom (length (talker_keys talks (ports_in ports))) sets
