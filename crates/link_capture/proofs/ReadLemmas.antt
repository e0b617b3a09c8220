-- What is read of a capture: each crossing of a legal run, in its frame.
use Rattle.std.proofs.Common.{◌≡◌, ℕ, suc, ◌+◌, ◌-◌, ◌<◌, ◌≤◌, ◌^◌, List, [], ◌∷◌, ◌++◌, length, map, Option, Some, None, refl, ap, ◌∙◌, arith}
use Rattle.std.specs.Prelude.{slice_get}
use Rattle.std.specs.{Option.option_map_or, List.AllByRecursion}
use Rattle.srp_base.proofs.Lists.{each_append, each-get}
use Rattle.srp_base.specs.declared.numbers.EgressPort.{EgressPort}
use Rattle.tree_topology.specs.{Graph.IsNode, Topology.Topology, Topology.HasLink, Topology.HasPort, Ports.neighbours, Ports.ends_of}
use Rattle.topology_file.specs.declared.entries.NodeEntry.{NodeEntry}
use Rattle.topology_file.specs.{Plan.Plan, Scenario.node_kinds, Scenario.tree_links}
use Rattle.attribute_propagation.specs.Ports.{place_of}
use Rattle.capture_file.specs.declared.setting.LinkType.TheVariants.{Ethernet}
use Rattle.capture_file.specs.{Packets.Packet, Writing.Fits}
use Rattle.mrpdu_codec.specs.declared.form.AppForm.{AppForm}
use Rattle.mrp_frames.specs.{Frames.Seen, Frames.frame_in, Writing.frame_text, Writing.padding_of}
use Rattle.node_core.specs.declared.types.Wire.{Wire}
use Rattle.node_core.specs.{State.NodeState, State.box_at, Wires.IsShort, Wires.AreShort}
use Rattle.world_core.specs.declared.journal.Tick.{Tick}
use Rattle.world_core.specs.{World.WorldState, World.node_at, World.outbox, World.world_after, Start.world_of, Ticks.after_steps, Ticks.tick_events, Ticks.IsLegalTick, Ticks.LeadTo, Ticks.AreLegalTicks, Kept.IsKeptWorld, During.IsDuring}
use Rattle.link_capture.specs.{Crossing, sent_by, crossed_at, crossed_from, crossings, form_of, address_of, packet_of, seen_of, TickLaws}
use Rattle.link_capture.proofs.{RunLemmas.length_led, TickLemmas.stepped_during}

-- its moment, its address and its PDU fit
record IsProper (c : Crossing) : Type 0 where
  moment : c.tick ≤ 12000
  address : address_of c.from < 2 ^ 48
  short : IsShort c.wire

-- ---- what waits in an outbox is short

box_short : (boxes : List (List Wire)) (at : ℕ) → AllByRecursion AreShort boxes → AreShort (box_at at boxes)
box_short boxes at all = go (slice_get boxes at) refl where
  go : (o : Option (List Wire)) → slice_get boxes at ≡ o → AreShort (option_map_or (λ (wires : List Wire). wires) o [])
  go None is = tt
  go (Some b) is = each-get AreShort boxes at b all is

outbox_short : (w : WorldState) → IsKeptWorld w → (p : EgressPort) → AreShort (outbox p w)
outbox_short w kept p = go (node_at p.node w) refl where
  go : (o : Option NodeState) → node_at p.node w ≡ o → AreShort (option_map_or (λ (s : NodeState). box_at (place_of p.port) s.outboxes) o [])
  go None is = tt
  go (Some s) is = box_short s.outboxes (place_of p.port) (kept.nodes (p.node.0 - 1) s is).kept.kept.short_out

sent_proper : (t : ℕ) (p : EgressPort) (wires : List Wire) → t ≤ 12000 → address_of p < 2 ^ 48 → AreShort wires → AllByRecursion IsProper (sent_by t p wires)
sent_proper t p [] moment address short = tt
sent_proper t p (wire ∷ wires) moment address short =
    (record { moment = moment; address = address; short = short.0 }, sent_proper t p wires moment address short.1)

kinds_many : (nodes : List NodeEntry) → length (node_kinds nodes) ≡ length nodes
kinds_many [] = refl
kinds_many (x ∷ nodes) = let rest = kinds_many nodes in omega (arith, rest)

-- ---- the crossings of a legal run

module _ (plan : Plan) (laws : TickLaws plan) where
  port_small : (p : EgressPort) → HasPort plan.tree p → address_of p < 2 ^ 48
  port_small p has =
      let kinds : length plan.tree.kinds ≡ length plan.nodes = ap (λ (r : Topology). length r.kinds) laws.rules.tree ∙ kinds_many plan.nodes in
      let count : length (neighbours plan.tree.links p.node.0) ≡ length (neighbours (tree_links plan.links) p.node.0) =
      ap (λ (r : Topology). length (neighbours r.links p.node.0)) laws.rules.tree in
      let nodes = laws.rules.node_count.1 in
      let upto = has.0.1 in
      let within = has.2 in
      let node : IsNode (length plan.nodes) p.node.0 = (has.0.0, omega (arith, upto, kinds)) in
      let few = laws.rules.uncrowded p.node.0 node in
      omega (arith, upto, within, kinds, count, few, nodes)

  module _ (ends : EgressPort × EgressPort) (a : HasPort plan.tree ends.0) (b : HasPort plan.tree ends.1) where
    from_proper : (t : ℕ) (w : WorldState) (ticks : List Tick) (end : WorldState) → IsDuring plan.tree t w → LeadTo (IsLegalTick plan) plan t w ticks plan.ticks end
        → AllByRecursion IsProper (crossed_from plan ends t w ticks)
    from_proper t w [] end during leads = tt
    from_proper t w (tick ∷ ticks) end during leads =
        let long : t + length (tick ∷ ticks) ≡ plan.ticks = length_led plan t w (tick ∷ ticks) plan.ticks end leads in
        let within : t < plan.ticks = omega (arith, long) in
        let few = laws.rules.ticks.1 in
        let moment : t ≤ 12000 = omega (arith, within, few) in
        let v : WorldState = after_steps plan t tick w in
        let kept = (stepped_during plan laws t within w tick during leads.0).kept in
        each_append IsProper (crossed_at t ends v) (crossed_from plan ends (suc t) (world_after (tick_events plan t tick) w) ticks)
        (each_append IsProper (sent_by t ends.0 (outbox ends.0 v)) (sent_by t ends.1 (outbox ends.1 v))
        (sent_proper t ends.0 (outbox ends.0 v) moment (port_small ends.0 a) (outbox_short v kept ends.0))
        (sent_proper t ends.1 (outbox ends.1 v) moment (port_small ends.1 b) (outbox_short v kept ends.1)))
        (from_proper (suc t) (world_after (tick_events plan t tick) w) ticks end (laws.next t w tick within during leads.0) leads.1)

  all_proper : (ticks : List Tick) (end : WorldState) (n : ℕ) → HasLink plan.tree n → AreLegalTicks plan ticks end → AllByRecursion IsProper (crossings plan ticks n)
  all_proper ticks end n has legal =
      from_proper (ends_of plan.tree.links n) (laws.ports.end_a n has) (laws.ports.end_b n has) 0 (world_of plan) ticks end laws.begins legal

-- ---- what is read of them

module _ (most : (app : AppForm) (address : ℕ) (pdu : List ℕ) → length (frame_text app address pdu) ≤ 60 + length pdu) where
  fits : (c : Crossing) → IsProper c → Fits Ethernet (packet_of c)
  fits c is =
      let long = most (form_of c.wire.app) (address_of c.from) c.wire.octets in
      let moment = is.moment in
      let short = is.short in
      record { link_is = refl; moment = omega (arith, moment); whole = omega (arith, long, short); within = omega arith; kept = omega (arith, long, short) }

  all_fit : (cs : List Crossing) → AllByRecursion IsProper cs → AllByRecursion (Fits Ethernet) (map packet_of cs)
  all_fit [] all = tt
  all_fit (c ∷ cs) all = (fits c all.0, all_fit cs all.1)

  pub crossings_fit : (plan : Plan) → TickLaws plan → (ticks : List Tick) (end : WorldState) (n : ℕ) → HasLink plan.tree n → AreLegalTicks plan ticks end
      → AllByRecursion (Fits Ethernet) (map packet_of (crossings plan ticks n))
  crossings_fit plan laws ticks end n has legal = all_fit (crossings plan ticks n) (all_proper plan laws ticks end n has legal)

abbrev SeenAs : AppForm → ℕ → List ℕ → Seen
SeenAs app address pdu = record { address = address; app = app; pdu = pdu ++ padding_of pdu }

module _ (seen : (app : AppForm) (address : ℕ) (pdu : List ℕ) (packet : Packet) → address < 2 ^ 48 → packet.link ≡ Ethernet → packet.octets ≡ frame_text app address pdu
    → frame_in packet ≡ Some (SeenAs app address pdu)) where
  all_seen : (cs : List Crossing) → AllByRecursion IsProper cs → map frame_in (map packet_of cs) ≡ map (λ (c : Crossing). Some (seen_of c)) cs
  all_seen [] all = refl
  all_seen (c ∷ cs) all =
      let one : frame_in (packet_of c) ≡ Some (seen_of c) = seen (form_of c.wire.app) (address_of c.from) c.wire.octets (packet_of c) all.0.address refl refl in
      ap (λ (o : Option Seen). o ∷ map frame_in (map packet_of cs)) one ∙ ap (λ (os : List (Option Seen)). Some (seen_of c) ∷ os) (all_seen cs all.1)

  pub crossings_seen : (plan : Plan) → TickLaws plan → (ticks : List Tick) (end : WorldState) (n : ℕ) → HasLink plan.tree n → AreLegalTicks plan ticks end
      → map frame_in (map packet_of (crossings plan ticks n)) ≡ map (λ (c : Crossing). Some (seen_of c)) (crossings plan ticks n)
  crossings_seen plan laws ticks end n has legal = all_seen (crossings plan ticks n) (all_proper plan laws ticks end n has legal)
