-- At a link port at which neither key of a stream awaits, the ledger and the declarations hang together: the stream is booked
-- exactly where it is advertised and Listeners that can have it are registered.
use Rattle.std.proofs.Common.{◌≡◌, ℕ, suc, ◌+◌, ◌-◌, ◌<◌, ◌&&◌, Bool, true, false, List, [], length, refl, sym, ap, subst, ◌∙◌, arith}
use Rattle.std.specs.Prelude.{slice_get, Option, Some, None, is_some, option_and_then, ◌↔◌, ◌==◌}
use Rattle.std.specs.{Option.option_map_or, List.list_all}
use Rattle.std.proofs.lemmas.Bool.{and_parts}
use Rattle.std.proofs.lemmas.Option.{slice_get_within}
use Rattle.srp_base.proofs.Lists.{each-get, get-all, within as get-some}
use Rattle.srp_base.specs.declared.{numbers.EgressPort.EgressPort, numbers.StreamId.StreamId, streams.TalkerReg.TalkerReg}
use Rattle.stream_importance.specs.declared.entry.Entry.{Entry}
use Rattle.port_ledger.specs.Book.{entry_of, want_of, since_of}
use Rattle.tree_topology.specs.{Topology.HasPort, Ports.neighbours}
use Rattle.mrp_participant.specs.State.{declared_at, is_still}
use Rattle.msrp_codec.specs.declared.pdu.MsrpKey.{MsrpKey}
use Rattle.msrp_codec.specs.declared.pdu.MsrpKey.TheVariants as keys
use Rattle.msrp.specs.{PortState.PortState, Part.key_cmp, Part.talker_reg_of, Stream.is_advertised, Stream.talker_at, Stream.wanted_at, Side.Streams, Side.IsKept, Side.IsPort, Side.IsSettled, Side.awaiting_at, Side.seen_by, Side.are_still as streams_are_still}
use Rattle.attribute_propagation.specs.{Dirty.is_awaiting, Ports.place_of}
use Rattle.attribute_propagation.proofs.Lists.{get-empty}
use Rattle.flat_side.specs.Side.{are_still}
use Rattle.node_core.specs.State.{NodeState, are_empty, booked_at, if_booked, is_still_node, of_port, ports_of}
use Rattle.world_core.specs.{World.WorldState, World.is_quiet, World.node_at, Kept.IsKeptWorld}
use Rattle.network_laws.specs.{BookingsMatch, IsBookedAsAdvertised, at_port_of, declares_advertise, is_booked_in, registers_ready, has_booked}
use Rattle.network_laws.proofs.{StreamNode.KeptWants, StreamNode.advertised-booked, StreamNode.booked-advertises, StreamNode.booked-wants, StreamNode.reg-content, StreamNet.entry-booked}

module _ (kept-wants : KeptWants) (side : Streams) (kept : IsKept side) (at : ℕ) (port : PortState) (stream : StreamId)
    (has : slice_get side.ports at ≡ Some port) where
  -- at a port where neither key of the stream is among those that await
  settled-booked : (awaiting : List MsrpKey) → slice_get side.awaiting at ≡ Some awaiting
      → is_awaiting key_cmp (keys.Talker stream) awaiting ≡ false → is_awaiting key_cmp (keys.Listener stream) awaiting ≡ false
      → IsBookedAsAdvertised stream port
  settled-booked awaiting e talker listener =
      let talkers : List TalkerReg = (seen_by side stream).talkers in
      let rules : IsSettled at port awaiting (seen_by side) = kept.settled at port awaiting has e in
      let book = (each-get (IsPort side.moment) side.ports at port kept.ports has).ledger in
      let wanted : want_of port.ledger.entries stream ≡ wanted_at at port talkers stream = rules.wanted stream talker listener in
      let declared : talker_reg_of (declared_at key_cmp (keys.Talker stream) port.part) ≡ talker_at at port talkers =
      ap talker_reg_of (rules.declared (keys.Talker stream) talker) ∙ reg-content (talker_at at port talkers) in (
        (λ booked. (ap is_advertised declared ∙ booked-advertises kept-wants at port talkers stream book wanted booked, (booked-wants kept-wants at port talkers stream book wanted booked).2.ready)),
        (λ parts. advertised-booked kept-wants at port talkers stream book wanted (ap is_advertised (sym declared) ∙ parts.0) parts.1),
      )

  pub port-booked : is_awaiting key_cmp (keys.Talker stream) (awaiting_at at side) ≡ false → is_awaiting key_cmp (keys.Listener stream) (awaiting_at at side) ≡ false
      → IsBookedAsAdvertised stream port
  port-booked talker listener =
      let lt : at < length side.awaiting = omega (arith, kept.sets, slice_get_within side.ports at port has) in
      let found = get-some side.awaiting at lt in
      let here : awaiting_at at side ≡ found.0 = rw found.1 refl in
      settled-booked found.0 found.1 (ap (is_awaiting key_cmp (keys.Talker stream)) (sym here) ∙ talker) (ap (is_awaiting key_cmp (keys.Listener stream)) (sym here) ∙ listener)

-- in a network in which nothing is pending, at each port
module _ (kept-wants : KeptWants) (w : WorldState) (stream : StreamId) (kept : IsKeptWorld w) (quiet : is_quiet w ≡ true) where
  -- no key awaits at a node's ports
  none-awaits : (x : ℕ) (s : NodeState) → slice_get w.nodes x ≡ Some s → list_all (λ (keys : List MsrpKey). length keys == 0) s.streams.awaiting ≡ true
  none-awaits x s e =
      let all = and_parts (are_empty s.inboxes && are_empty s.outboxes && are_still s.vlans) (streams_are_still s.streams) (get-all is_still_node w.nodes x s quiet e) in
      (and_parts (list_all (λ (p : PortState). is_still p.part) s.streams.ports) (list_all (λ (keys : List MsrpKey). length keys == 0) s.streams.awaiting) all.1).1

  of-node : (p : EgressPort) (s : NodeState) (port : PortState) → node_at p.node w ≡ Some s → slice_get s.streams.ports (place_of p.port) ≡ Some port
      → (has_booked w stream p ≡ true)
      ↔ ((at_port_of (declares_advertise stream) p w ≡ true) × (at_port_of (registers_ready stream) p w ≡ true))
  of-node p s port node has =
      let fits = kept.nodes (p.node.0 - 1) s node in
      let side : IsKept s.streams = fits.kept.kept.streams in
      let lt : place_of p.port < length s.streams.awaiting = omega (arith, side.sets, slice_get_within s.streams.ports (place_of p.port) port has) in
      let found = get-some s.streams.awaiting (place_of p.port) lt in
      let none : found.0 ≡ [] = get-empty s.streams.awaiting (place_of p.port) found.0 (none-awaits (p.node.0 - 1) s node) found.1 in
      let law : IsBookedAsAdvertised stream port = settled-booked kept-wants s.streams side (place_of p.port) port stream has [] (found.1 ∙ ap Some none) refl refl in
      let booked : has_booked w stream p ≡ is_booked_in stream port =
      ap (λ o. option_map_or (λ (t : NodeState). is_some (booked_at stream (place_of p.port) t)) o false) node
      ∙ (ap (λ o. is_some (option_map_or (λ (x : PortState). option_and_then if_booked (entry_of x.ledger.entries stream)) o None)) has
      ∙ entry-booked (entry_of port.ledger.entries stream)) in
      let test : (f : PortState → Bool) → at_port_of f p w ≡ f port =
      λ f. ap (λ o. option_map_or (λ (t : NodeState). of_port f false (place_of p.port) t.streams) o false) node
      ∙ ap (λ o. option_map_or f o false) has in (
        (λ h. (let both = law.0 (sym booked ∙ h) in (test (declares_advertise stream) ∙ both.0, test (registers_ready stream) ∙ both.1))),
        (λ h. booked ∙ law.1 (sym (test (declares_advertise stream)) ∙ h.0, sym (test (registers_ready stream)) ∙ h.1)),
      )

  pub bookings-match : BookingsMatch w stream
  bookings-match p h =
      let few : p.node.0 - 1 < length w.nodes = omega (arith, h.0.0, h.0.1, kept.many) in
      let n = get-some w.nodes (p.node.0 - 1) few in
      let fits = kept.nodes (p.node.0 - 1) n.0 n.1 in
      let one : p.node.0 - 1 + 1 ≡ p.node.0 = omega (arith, h.0.0) in
      let ports : length n.0.streams.ports ≡ length (neighbours w.tree.links p.node.0) =
      fits.kept.kept.same_ports ∙ (fits.ports ∙ ap (λ x. length (neighbours w.tree.links x)) one) in
      let here : place_of p.port < length n.0.streams.ports = omega (arith, h.1, h.2, ports) in
      let port = get-some n.0.streams.ports (place_of p.port) here in
      of-node p n.0 port.0 n.1 port.1
