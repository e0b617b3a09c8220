-- Bookings: a stream has bandwidth at a port exactly where the port declares that it is advertised,
-- and Listeners that can have it are registered there (IEEE Std 802.1Q-2018, 35.2.4). Either side
-- by its own definition: one looks at the port's ledger, the other at its participant, at what it
-- declares and at what it has registered.
use Rattle.std.specs.Prelude.{◌≡◌, ◌↔◌, Bool, true, false, is_some}
use Rattle.std.specs.Option.{option_map_or}
use Rattle.srp_base.specs.declared.{numbers.EgressPort.EgressPort, numbers.StreamId.StreamId}
use Rattle.port_ledger.specs.Book.{since_of}
use Rattle.tree_topology.specs.Topology.{HasPort}
use Rattle.mrp_participant.specs.State.{declared_at}
use Rattle.msrp_codec.specs.declared.pdu.MsrpKey.TheVariants.{Talker as TalkerKey}
use Rattle.msrp.specs.{PortState.PortState, Part.key_cmp, Part.registered_listener, Part.talker_reg_of, Stream.is_advertised, Stream.is_ready}
use Rattle.attribute_propagation.specs.Ports.{place_of}
use Rattle.node_core.specs.State.{NodeState, of_port}
use Rattle.world_core.specs.World.{WorldState, node_at}
use Rattle.network_laws.specs.Streams.{has_booked}

-- ---- at a link port

-- whether a port's ledger has booked a stream
abbrev pub is_booked_in : StreamId → PortState → Bool
is_booked_in stream port = is_some (since_of port.ledger.entries stream)

-- whether a port declares a Talker Advertise of a stream
abbrev pub declares_advertise : StreamId → PortState → Bool
declares_advertise stream port = is_advertised (talker_reg_of (declared_at key_cmp (TalkerKey stream) port.part))

-- whether Listener Ready or Ready Failed of a stream is registered at a port
abbrev pub registers_ready : StreamId → PortState → Bool
registers_ready stream port = is_ready (registered_listener stream port.part)

-- a port has booked a stream exactly where it declares a Talker Advertise of it and has Listener
-- Ready or Ready Failed of it registered
abbrev pub IsBookedAsAdvertised : StreamId → PortState → Type 0
IsBookedAsAdvertised stream port =
    (is_booked_in stream port ≡ true)
    ↔ ((declares_advertise stream port ≡ true) × (registers_ready stream port ≡ true))

-- ---- in a network

-- what a test says of a port of a network; false where there is no such port
abbrev pub at_port_of : (PortState → Bool) → EgressPort → WorldState → Bool
at_port_of test p w =
    option_map_or (λ (s : NodeState). of_port test false (place_of p.port) s.streams) (node_at p.node w) false

-- a stream is booked at a port of a network exactly where the port declares a Talker Advertise of
-- it and has Listener Ready or Ready Failed of it registered
abbrev pub BookingsMatch : WorldState → StreamId → Type 0
BookingsMatch w stream =
    (p : EgressPort) → HasPort w.tree p
    → (has_booked w stream p ≡ true)
    ↔ ((at_port_of (declares_advertise stream) p w ≡ true) × (at_port_of (registers_ready stream) p w ≡ true))
