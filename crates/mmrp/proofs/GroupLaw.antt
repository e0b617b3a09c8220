-- In a network at rest a MAC address is registered at a port exactly where the far node's application, or another port of
-- the far node, has it; and so, by the tree, exactly where a station behind the port has joined it.
use Rattle.std.proofs.Common.{◌≡◌, ◌≢◌, ◌⊎◌, inl, inr, ℕ, suc, ◌+◌, ◌-◌, ◌<◌, true, false, ◌&&◌, List, [], ◌∷◌, ◌++◌, length, map, refl, sym, ap, ◌∙◌, arith}
use Rattle.std.specs.Prelude.{slice_get, filter_map, Option, Some, ◌==◌, ◌↔◌}
use Rattle.std.specs.{List.list_all, Option.option_map_or, Option.option_and_then, Option.is_some, Ordering.nat_cmp}
use Rattle.std.proofs.lemmas.{Bool.and_parts, Option.slice_get_within}
use Rattle.std.proofs.lemmas.Bool.{and_from as both}
use Rattle.srp_base.proofs.{Options.one_some as one, Lists.within, Lists.get-all, Lists.get-map, Lists.map-get, Bools.one-test}
use Rattle.srp_base.specs.declared.numbers.EgressPort.{EgressPort}
use Rattle.tree_topology.specs.declared.{graph.NodeKind.NodeKind, graph.NodeKind.TheVariants.Station, graph.NodeKind.TheVariants.Bridge}
use Rattle.tree_topology.specs.{Topology.HasNode, Topology.HasPort, Ports.neighbours, Ports.peer_of, Ports.far_node, Ports.LiesBehind, Refusal.is_station, Walk.is_behind, PortLaws.HasPortLaws, PortLaws.IsPropagated, PortLaws.HasBeyond, PortLaws.HasBehind}
use Rattle.attribute_propagation.specs.{Dirty.is_awaiting, Flat.elsewhere, Ports.place_of}
use Rattle.mrp_participant.specs.{Link.Link, Link.AreDutiesMet, State.is_still, State.registered_at, State.declared_at}
use Rattle.tree_topology.proofs.EgressPorts.{same_numbers}
use Rattle.attribute_propagation.proofs.{Lists.get-empty, Lists.range-from, Lists.range-at, FlatLemmas.flat-cases, FlatLemmas.flat-own, FlatLemmas.flat-other, FlatLemmas.some_elsewhere, FlatLemmas.elsewhere_some}
use Rattle.flat_side.specs.Side.{are_still, is_flat}
use Rattle.link_app.specs.Flat.{link_of, message_of}
use Rattle.link_node.specs.{Boxes.are_empty, Boxes.box_at, State.are_all_sound, State.is_still_node}
use Rattle.mmrp.specs.{Part, mac_codec, registers, declares, has_joined, NodeGroups, Waiting, group_words, NetGroups, node_at, inbox, outbox, in_flight, part_at, IsKeptNet, is_registered, is_station_at, is_joined_at, is_joined_behind, HasJoinedBehind, GroupsMatch, IsAtRest}
use Rattle.mmrp.proofs.{Places.empty-box, Bridges.no_bridge_joined}

-- what a still link registers at its near end
abbrev pub StillLink : Type 0
StillLink = (l : Link ℕ (Unit {0})) → AreDutiesMet nat_cmp l → l.sent ≡ [] → l.coming ≡ []
    → is_still l.near ≡ true → is_still l.far ≡ true → l.far.sound ≡ true
    → (k : ℕ) → registered_at nat_cmp k l.near ≡ declared_at nat_cmp k l.far

-- what rest says of a node
record IsStillNode (s : NodeGroups) : Type 0 where
  inboxes : are_empty s.inboxes ≡ true
  outboxes : are_empty s.outboxes ≡ true
  still : list_all is_still s.app.parts ≡ true
  none : list_all (λ (macs : List ℕ). length macs == 0) s.app.awaiting ≡ true
  sound : list_all (λ (part : Part). part.sound) s.app.parts ≡ true

module _ (w : NetGroups) (kept : IsKeptNet w) (rest : IsAtRest w) (laws : HasPortLaws w.tree) (still : StillLink) where
  -- what rest says of a node
  still-at : (x : ℕ) (s : NodeGroups) → slice_get w.nodes x ≡ Some s → IsStillNode s
  still-at x s e =
      let all = and_parts (are_empty s.inboxes && are_empty s.outboxes) (are_still s.app) (get-all (is_still_node group_words) w.nodes x s rest.quiet e) in
      let boxes = and_parts (are_empty s.inboxes) (are_empty s.outboxes) all.0 in
      let side = and_parts (list_all is_still s.app.parts) (list_all (λ (macs : List ℕ). length macs == 0) s.app.awaiting) all.1 in
      record { inboxes = boxes.0; outboxes = boxes.1; still = side.0; none = side.1; sound = get-all (are_all_sound group_words) w.nodes x s rest.in_step e }

  -- the node of a port
  node-at : (p : EgressPort) → HasPort w.tree p → (s : NodeGroups) × (node_at p.node w ≡ Some s)
  node-at p h = let lt : p.node.0 - 1 < length w.nodes = omega (arith, h.0.0, h.0.1, kept.many) in within w.nodes (p.node.0 - 1) lt

  inbox-empty : (p : EgressPort) → HasPort w.tree p → inbox p w ≡ []
  inbox-empty p h =
      let n = node-at p h in
      ap (λ o. option_map_or (λ (s : NodeGroups). box_at (place_of p.port) s.inboxes) o []) n.1
      ∙ empty-box n.0.inboxes (place_of p.port) (still-at (p.node.0 - 1) n.0 n.1).inboxes

  outbox-empty : (p : EgressPort) → HasPort w.tree p → outbox p w ≡ []
  outbox-empty p h =
      let n = node-at p h in
      ap (λ o. option_map_or (λ (s : NodeGroups). box_at (place_of p.port) s.outboxes) o []) n.1
      ∙ empty-box n.0.outboxes (place_of p.port) (still-at (p.node.0 - 1) n.0 n.1).outboxes

  -- nothing is in flight
  none-in-flight : (p : EgressPort) → HasPort w.tree p → in_flight p w ≡ []
  none-in-flight p h =
      ap (λ (xs : Waiting). xs ++ outbox p w) (inbox-empty (peer_of w.tree.links p) (laws.peer_port p h)) ∙ outbox-empty p h

  -- a port has registered what its peer declares, where both are still and the peer is sound
  registers-declared : (p : EgressPort) → HasPort w.tree p → (near far : Part)
      → part_at p w ≡ Some near → part_at (peer_of w.tree.links p) w ≡ Some far
      → is_still near ≡ true → is_still far ≡ true → far.sound ≡ true
      → (k : ℕ) → registered_at nat_cmp k near ≡ declared_at nat_cmp k far
  registers-declared p h near far a b near-still far-still far-sound k =
      still (link_of mac_codec near far (in_flight p w) (in_flight (peer_of w.tree.links p) w)) (kept.duties tt p h near far a b)
      (ap (filter_map (message_of mac_codec)) (none-in-flight p h)) (ap (filter_map (message_of mac_codec)) (none-in-flight (peer_of w.tree.links p) (laws.peer_port p h)))
      near-still far-still far-sound k

  -- a port's node, and its participant
  record At (p : EgressPort) : Type 0 where
    s : NodeGroups
    node : node_at p.node w ≡ Some s
    part : Part
    has : slice_get s.app.parts (place_of p.port) ≡ Some part

  ports-are : (p : EgressPort) (s : NodeGroups) → HasPort w.tree p → node_at p.node w ≡ Some s → length s.app.parts ≡ length (neighbours w.tree.links p.node.0)
  ports-are p s h e =
      let one : p.node.0 - 1 + 1 ≡ p.node.0 = omega (arith, h.0.0) in
      (kept.nodes (p.node.0 - 1) s e).ports ∙ ap (λ n. length (neighbours w.tree.links n)) one

  at-port : (p : EgressPort) → HasPort w.tree p → At p
  at-port p h =
      let lt : p.node.0 - 1 < length w.nodes = omega (arith, h.0.0, h.0.1, kept.many) in
      let n = within w.nodes (p.node.0 - 1) lt in
      let few : place_of p.port < length n.0.app.parts = omega (arith, h.1, h.2, ports-are p n.0 h n.1) in
      let part = within n.0.app.parts (place_of p.port) few in
      record { s = n.0; node = n.1; part = part.0; has = part.1 }

  part-is : (p : EgressPort) (a : At p) → part_at p w ≡ Some a.part
  part-is p a = ap (λ (o : Option NodeGroups). option_and_then (λ (s : NodeGroups). slice_get s.app.parts (place_of p.port)) o) a.node ∙ a.has

  -- ---- what rest says

  still-node : (p : EgressPort) (a : At p) → IsStillNode a.s
  still-node p a = still-at (p.node.0 - 1) a.s a.node

  part-still : (p : EgressPort) (a : At p) → is_still a.part ≡ true
  part-still p a = get-all is_still a.s.app.parts (place_of p.port) a.part (still-node p a).still a.has

  part-sound : (p : EgressPort) (a : At p) → a.part.sound ≡ true
  part-sound p a = get-all (λ (part : Part). part.sound) a.s.app.parts (place_of p.port) a.part (still-node p a).sound a.has

  -- what a port has registered is what its peer declares
  linked : (p : EgressPort) → HasPort w.tree p → (a : At p) (b : At (peer_of w.tree.links p)) (mac : ℕ) → registers mac a.part ≡ declares mac b.part
  linked p h a b mac =
      ap is_some (registers-declared p h a.part b.part (part-is p a) (part-is (peer_of w.tree.links p) b)
      (part-still p a) (part-still (peer_of w.tree.links p) b) (part-sound (peer_of w.tree.links p) b) mac)

  -- ---- the node

  -- what a port declares is what the flat rule says, since nothing awaits
  settled : (p : EgressPort) (a : At p) (mac : ℕ) → declares mac a.part ≡ is_flat nat_cmp a.s.app (place_of p.port) mac
  settled p a mac =
      let side = (kept.nodes (p.node.0 - 1) a.s a.node).kept.node.app.kept in
      let lt : place_of p.port < length a.s.app.awaiting = omega (arith, side.ports, slice_get_within a.s.app.parts (place_of p.port) a.part a.has) in
      let macs = within a.s.app.awaiting (place_of p.port) lt in
      let none : macs.0 ≡ [] = get-empty a.s.app.awaiting (place_of p.port) macs.0 (still-node p a).none macs.1 in
      side.flat (place_of p.port) a.part macs.0 mac a.has macs.1 (ap (λ (ks : List ℕ). is_awaiting nat_cmp mac ks) none)

  registered-is : (p : EgressPort) (a : At p) (mac : ℕ) → is_registered w mac p ≡ registers mac a.part
  registered-is p a mac = ap (λ o. option_map_or (registers mac) o false) (part-is p a)

  -- at a port: what its far node's port that leads back sees of the node
  far-rule : (p : EgressPort) → HasPort w.tree p → (b : At (peer_of w.tree.links p)) (mac : ℕ)
      → is_registered w mac p ≡ elsewhere (suc (place_of (peer_of w.tree.links p).port)) (has_joined mac b.s.app ∷ map (registers mac) b.s.app.parts)
  far-rule p h b mac =
      let a = at-port p h in
      registered-is p a mac ∙ (linked p h a b mac ∙ settled (peer_of w.tree.links p) b mac)

  joined-is : (p : EgressPort) (b : At (peer_of w.tree.links p)) (mac : ℕ)
      → is_joined_at w mac (far_node w.tree.links p) ≡ (is_station_at w (far_node w.tree.links p) && has_joined mac b.s.app)
  joined-is p b mac = ap (λ o. is_station_at w (far_node w.tree.links p) && option_map_or (λ (s : NodeGroups). has_joined mac s.app) o false) b.node

  -- an application that has joined is a station's
  station-own : (p : EgressPort) → HasPort w.tree p → (b : At (peer_of w.tree.links p)) (mac : ℕ) → has_joined mac b.s.app ≡ true → is_station_at w (far_node w.tree.links p) ≡ true
  station-own p h b mac joined =
      let q = peer_of w.tree.links p in
      let hq = laws.peer_port p h in
      let kind = within w.tree.kinds (q.node.0 - 1) (omega (arith, hq.0.0, hq.0.1)) in
      by kind.0 kind.1
    where
      by : (k : NodeKind) → slice_get w.tree.kinds ((peer_of w.tree.links p).node.0 - 1) ≡ Some k → is_station_at w (far_node w.tree.links p) ≡ true
      by Station is = ap (λ o. option_map_or is_station o false) is
      by Bridge is =
          let none : has_joined mac b.s.app ≡ false = ap (λ own. is_awaiting nat_cmp mac own) (no_bridge_joined w kept ((peer_of w.tree.links p).node.0 - 1) b.s b.node is) in
          cc

  -- another port of the far node that has the MAC address registered
  to-beyond : (p : EgressPort) → HasPort w.tree p → (b : At (peer_of w.tree.links p)) (mac j : ℕ) (part : Part)
      → j ≢ place_of (peer_of w.tree.links p).port → slice_get b.s.app.parts j ≡ Some part → registers mac part ≡ true
      → HasBeyond w.tree (is_registered w mac) p
  to-beyond p h b mac j part ne has t =
      let q = peer_of w.tree.links p in
      let hq = laws.peer_port p h in
      let r : EgressPort = record { node = q.node; port = record { 0 = j + 1 } } in
      let back : j + 1 - 1 ≡ j = omega arith in
      let few : j < length (neighbours w.tree.links q.node.0) = omega (arith, slice_get_within b.s.app.parts j part has, ports-are q b.s hq b.node) in
      let c : At r = record { s = b.s; node = b.node; part = part; has = ap (λ n. slice_get b.s.app.parts n) back ∙ has } in
      (r, (hq.0, omega arith, omega (arith, few)), refl, (λ e. ne (omega (arith, ap (λ (x : EgressPort). x.port.0) e, hq.1))), registered-is r c mac ∙ t)

  forward : (p : EgressPort) → HasPort w.tree p → (b : At (peer_of w.tree.links p)) (mac : ℕ) → is_registered w mac p ≡ true
      → (is_joined_at w mac (far_node w.tree.links p) ≡ true) ⊎ HasBeyond w.tree (is_registered w mac) p
  forward p h b mac t = by (flat-cases (place_of q.port) (has_joined mac b.s.app) (map (registers mac) b.s.app.parts) (sym (far-rule p h b mac) ∙ t))
    where
      q : EgressPort
      q = peer_of w.tree.links p

      by : (has_joined mac b.s.app ≡ true) ⊎ (elsewhere (place_of (peer_of w.tree.links p).port) (map (registers mac) b.s.app.parts) ≡ true)
          → (is_joined_at w mac (far_node w.tree.links p) ≡ true) ⊎ HasBeyond w.tree (is_registered w mac) p
      by (inl o) = inl (joined-is p b mac ∙ both (is_station_at w (far_node w.tree.links p)) (has_joined mac b.s.app) (station-own p h b mac o) o)
      by (inr r) =
          let j = some_elsewhere (place_of (peer_of w.tree.links p).port) (map (registers mac) b.s.app.parts) r in
          let x = get-map (registers mac) b.s.app.parts j.0 j.2 in
          inr (to-beyond p h b mac j.0 x.0 j.1 x.1 x.2)

  backward : (p : EgressPort) → HasPort w.tree p → (b : At (peer_of w.tree.links p)) (mac : ℕ)
      → (is_joined_at w mac (far_node w.tree.links p) ≡ true) ⊎ HasBeyond w.tree (is_registered w mac) p → is_registered w mac p ≡ true
  backward p h b mac (inl o) =
      let own = (and_parts (is_station_at w (far_node w.tree.links p)) (has_joined mac b.s.app) (sym (joined-is p b mac) ∙ o)).1 in
      far-rule p h b mac
      ∙ (ap (λ t. elsewhere (suc (place_of (peer_of w.tree.links p).port)) (t ∷ map (registers mac) b.s.app.parts)) own
      ∙ flat-own (place_of (peer_of w.tree.links p).port) (map (registers mac) b.s.app.parts))
  backward p h b mac (inr r) =
      let q = peer_of w.tree.links p in
      let hq = laws.peer_port p h in
      let c = at-port r.0 r.1 in
      let same : c.s ≡ b.s = one (node_at q.node w) c.s b.s (ap (λ (n : ℕ). slice_get w.nodes (n - 1)) (sym r.2) ∙ c.node) b.node in
      let has : slice_get b.s.app.parts (place_of r.0.port) ≡ Some c.part = ap (λ (s : NodeGroups). slice_get s.app.parts (place_of r.0.port)) (sym same) ∙ c.has in
      let t : registers mac c.part ≡ true = sym (registered-is r.0 c mac) ∙ r.4 in
      let other : place_of r.0.port ≢ place_of q.port = λ e. r.3 (same_numbers r.0 q r.2 (omega (arith, e, r.1.1, hq.1))) in
      far-rule p h b mac
      ∙ flat-other (place_of q.port) (has_joined mac b.s.app) (map (registers mac) b.s.app.parts)
      (elsewhere_some (place_of q.port) (map (registers mac) b.s.app.parts) (place_of r.0.port) other (map-get (registers mac) b.s.app.parts (place_of r.0.port) c.part has t))

  propagated : (mac : ℕ) → IsPropagated w.tree (is_registered w mac) (is_joined_at w mac)
  propagated mac p h =
      let b = at-port (peer_of w.tree.links p) (laws.peer_port p h) in
      (forward p h b mac, backward p h b mac)

  abbrev WalkBehind : Type 0
  WalkBehind = (p : EgressPort) (y : ℕ) → HasPort w.tree p → HasNode w.tree y → (LiesBehind w.tree.links p y ↔ (is_behind w.tree.links p y ≡ true))

  pub groups-match : WalkBehind → GroupsMatch w
  groups-match walk p mac h =
      let law = laws.propagation (is_registered w mac) (is_joined_at w mac) p (propagated mac) h in
      ((λ t. to (law.0 t)), (λ d. law.1 (from d)))
    where
      to : HasBehind w.tree (is_joined_at w mac) p → HasJoinedBehind w mac p
      to b = (b.0, b.1, (walk p b.0 h b.1).1 b.2, b.3)

      from : HasJoinedBehind w mac p → HasBehind w.tree (is_joined_at w mac) p
      from d = (d.0, d.1, (walk p d.0 h d.1).0 d.2, d.3)

  pub sides-are-one : WalkBehind → (p : EgressPort) (mac : ℕ) → HasPort w.tree p → is_registered w mac p ≡ is_joined_behind w mac p
  sides-are-one walk p mac h =
      let match = groups-match walk p mac h in
      one-test (is_registered w mac p) (is_joined_behind w mac p) (λ t. to (match.0 t)) (λ t. match.1 (from t))
    where
      to : HasJoinedBehind w mac p → is_joined_behind w mac p ≡ true
      to d =
          range-from (λ y. is_behind w.tree.links p y && is_joined_at w mac y) (length w.tree.kinds) 1 d.0 d.1.0 (omega (arith, d.1.1))
          (both (is_behind w.tree.links p d.0) (is_joined_at w mac d.0) ((walk p d.0 h d.1).0 d.2) d.3)

      from : is_joined_behind w mac p ≡ true → HasJoinedBehind w mac p
      from t =
          let r = range-at (λ y. is_behind w.tree.links p y && is_joined_at w mac y) (length w.tree.kinds) 1 t in
          let node : HasNode w.tree r.0 = (r.1, omega (arith, r.2)) in
          let parts = and_parts (is_behind w.tree.links p r.0) (is_joined_at w mac r.0) r.3 in
          (r.0, node, (walk p r.0 h node).1 parts.0, parts.1)
