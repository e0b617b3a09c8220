-- In a network at rest a VID is registered at a port exactly where the far node's application, or another port of the far
-- node, has it; and so, by the tree, exactly where a station behind the port has declared it.
use Rattle.std.proofs.Common.{◌≡◌, ◌≢◌, ◌⊎◌, inl, inr, ℕ, suc, ◌+◌, ◌-◌, ◌<◌, true, false, ◌&&◌, ◌||◌, List, [], ◌∷◌, length, map, refl, sym, ap, ◌∙◌, arith}
use Rattle.std.specs.Prelude.{slice_get, Option, Some, ◌↔◌}
use Rattle.std.specs.{Option.option_map_or, Option.option_and_then, Option.is_some, Ordering.nat_cmp}
use Rattle.std.proofs.lemmas.Bool.{and_parts}
use Rattle.std.proofs.lemmas.Bool.{and_from as both}
use Rattle.std.proofs.lemmas.Option.{slice_get_within}
use Rattle.srp_base.proofs.{Options.one_some as one, Lists.within as get-some, Lists.get-all, Lists.get-map, Lists.map-get, Bools.one-test}
use Rattle.srp_base.specs.declared.{numbers.EgressPort.EgressPort, mrp.App.TheVariants.Mvrp}
use Rattle.tree_topology.specs.declared.{graph.NodeKind.NodeKind, graph.NodeKind.TheVariants.Station, graph.NodeKind.TheVariants.Bridge}
use Rattle.tree_topology.specs.{Topology.HasNode, Topology.HasPort, Ports.neighbours, Ports.peer_of, Ports.far_node, Ports.LiesBehind, Walk.is_behind, PortLaws.HasPortLaws, PortLaws.IsPropagated, PortLaws.HasBeyond, PortLaws.HasBehind, Refusal.is_station}
use Rattle.attribute_propagation.specs.{Dirty.is_awaiting, Flat.elsewhere, Ports.place_of}
use Rattle.mrp_participant.specs.State.{is_still}
use Rattle.tree_topology.proofs.EgressPorts.{same_numbers}
use Rattle.attribute_propagation.proofs.{Lists.get-empty, Lists.range-from, Lists.range-at, FlatLemmas.flat-cases, FlatLemmas.flat-own, FlatLemmas.flat-other, FlatLemmas.some_elsewhere, FlatLemmas.elsewhere_some}
use Rattle.mvrp.specs.{Part.Part, Part.registers, Part.declares, Side.Vlans, Side.has_own, Side.is_flat}
use Rattle.node_core.specs.State.{NodeState}
use Rattle.world_core.specs.{Marks.mark_at, World.WorldState, World.node_at, Duty.message_of, Duty.vlan_place, Duty.vlan_part, Kept.IsKeptWorld, Kept.FitsTree}
use Rattle.network_laws.specs.{is_registered, is_declared_at, is_declared_behind, HasDeclaredBehind, VlansMatch, IsAtRest}
use Rattle.network_laws.proofs.AtRest.{StillLink, IsStillNode, still-at, sound-at, registers-declared}

-- an application that declares is a station's
station-own : (vid : ℕ) (kind : NodeKind) (vlans : Vlans) → (kind ≡ Bridge → vlans.own ≡ []) → has_own vid vlans ≡ true → (is_station kind && has_own vid vlans) ≡ true
station-own vid Station vlans h e = e
station-own vid Bridge vlans h e = let none : has_own vid vlans ≡ false = ap (λ own. is_awaiting nat_cmp vid own) (h refl) in cc

module _ (w : WorldState) (kept : IsKeptWorld w) (rest : IsAtRest w) (laws : HasPortLaws w.tree) (still : StillLink ℕ (Unit {0}) nat_cmp) where
  -- a port's node, and its participant
  record At (p : EgressPort) : Type 0 where
    s : NodeState
    node : node_at p.node w ≡ Some s
    part : Part
    has : slice_get s.vlans.parts (place_of p.port) ≡ Some part

  fits : (p : EgressPort) (a : At p) → FitsTree w.tree (p.node.0 - 1) a.s
  fits p a = kept.nodes (p.node.0 - 1) a.s a.node

  ports-are : (p : EgressPort) (s : NodeState) → HasPort w.tree p → node_at p.node w ≡ Some s → length s.vlans.parts ≡ length (neighbours w.tree.links p.node.0)
  ports-are p s h e =
      let one : p.node.0 - 1 + 1 ≡ p.node.0 = omega (arith, h.0.0) in
      (kept.nodes (p.node.0 - 1) s e).ports ∙ ap (λ n. length (neighbours w.tree.links n)) one

  at-port : (p : EgressPort) → HasPort w.tree p → At p
  at-port p h =
      let lt : p.node.0 - 1 < length w.nodes = omega (arith, h.0.0, h.0.1, kept.many) in
      let n = get-some w.nodes (p.node.0 - 1) lt in
      let few : place_of p.port < length n.0.vlans.parts = omega (arith, h.1, h.2, ports-are p n.0 h n.1) in
      let part = get-some n.0.vlans.parts (place_of p.port) few in
      record { s = n.0; node = n.1; part = part.0; has = part.1 }

  vlan-is : (p : EgressPort) (a : At p) → vlan_part p w ≡ Some a.part
  vlan-is p a = ap (λ o. option_and_then (λ (s : NodeState). slice_get s.vlans.parts (place_of p.port)) o) a.node ∙ a.has

  -- ---- what rest says

  still-node : (p : EgressPort) (a : At p) → IsStillNode a.s
  still-node p a = still-at w rest (p.node.0 - 1) a.s a.node

  part-still : (p : EgressPort) (a : At p) → is_still a.part ≡ true
  part-still p a = get-all is_still a.s.vlans.parts (place_of p.port) a.part (still-node p a).vlans a.has

  part-sound : (p : EgressPort) → HasPort w.tree p → (a : At p) → ((mark_at Mvrp p w.marks).assured || a.part.sound) ≡ true
  part-sound p h a =
      ap (λ (o : Option Part). (mark_at Mvrp p w.marks).assured || option_map_or (λ (part : Part). part.sound) o false) (sym a.has)
      ∙ (sound-at w rest p h a.s a.node (slice_get_within a.s.vlans.parts (place_of p.port) a.part a.has)).0

  -- what a port has registered is what its peer declares
  linked : (p : EgressPort) → HasPort w.tree p → (a : At p) (b : At (peer_of w.tree.links p)) (vid : ℕ) → registers vid a.part ≡ declares vid b.part
  linked p h a b vid =
      ap is_some (registers-declared w rest kept laws nat_cmp vlan_place message_of Mvrp kept.duties still p h a.part b.part (vlan-is p a) (vlan-is (peer_of w.tree.links p) b)
      (part-still p a) (part-still (peer_of w.tree.links p) b) (part-sound (peer_of w.tree.links p) (laws.peer_port p h) b) vid)

  -- ---- the node

  -- what a port declares is what the flat rule says, since nothing awaits
  settled : (p : EgressPort) (a : At p) (vid : ℕ) → declares vid a.part ≡ is_flat a.s.vlans (place_of p.port) vid
  settled p a vid =
      let side = (fits p a).kept.kept.vlans in
      let lt : place_of p.port < length a.s.vlans.awaiting = omega (arith, side.ports, slice_get_within a.s.vlans.parts (place_of p.port) a.part a.has) in
      let vids = get-some a.s.vlans.awaiting (place_of p.port) lt in
      let none : vids.0 ≡ [] = get-empty a.s.vlans.awaiting (place_of p.port) vids.0 (still-node p a).no_vids vids.1 in
      side.flat (place_of p.port) a.part vids.0 vid a.has vids.1 (ap (λ (ks : List ℕ). is_awaiting nat_cmp vid ks) none)

  registered-is : (p : EgressPort) (a : At p) (vid : ℕ) → is_registered w vid p ≡ registers vid a.part
  registered-is p a vid = ap (λ o. option_map_or (registers vid) o false) (vlan-is p a)

  -- at a port: what its far node's port that leads back sees of the node
  far-rule : (p : EgressPort) → HasPort w.tree p → (b : At (peer_of w.tree.links p)) (vid : ℕ)
      → is_registered w vid p ≡ elsewhere (suc (place_of (peer_of w.tree.links p).port)) (has_own vid b.s.vlans ∷ map (registers vid) b.s.vlans.parts)
  far-rule p h b vid =
      let a = at-port p h in
      registered-is p a vid ∙ (linked p h a b vid ∙ settled (peer_of w.tree.links p) b vid)

  declared-is : (p : EgressPort) (b : At (peer_of w.tree.links p)) (vid : ℕ)
      → is_declared_at w vid (far_node w.tree.links p) ≡ (is_station b.s.kind && has_own vid b.s.vlans)
  declared-is p b vid = ap (λ o. option_map_or (λ (s : NodeState). is_station s.kind && has_own vid s.vlans) o false) b.node

  -- another port of the far node that has the VID registered
  to-beyond : (p : EgressPort) → HasPort w.tree p → (b : At (peer_of w.tree.links p)) (vid j : ℕ) (part : Part)
      → j ≢ place_of (peer_of w.tree.links p).port → slice_get b.s.vlans.parts j ≡ Some part → registers vid part ≡ true
      → HasBeyond w.tree (is_registered w vid) p
  to-beyond p h b vid j part ne has t =
      let q = peer_of w.tree.links p in
      let hq = laws.peer_port p h in
      let r : EgressPort = record { node = q.node; port = record { 0 = j + 1 } } in
      let back : j + 1 - 1 ≡ j = omega arith in
      let few : j < length (neighbours w.tree.links q.node.0) = omega (arith, slice_get_within b.s.vlans.parts j part has, ports-are q b.s hq b.node) in
      let c : At r = record { s = b.s; node = b.node; part = part; has = ap (λ n. slice_get b.s.vlans.parts n) back ∙ has } in
      (r, (hq.0, omega arith, omega (arith, few)), refl, (λ e. ne (omega (arith, ap (λ (x : EgressPort). x.port.0) e, hq.1))), registered-is r c vid ∙ t)

  forward : (p : EgressPort) → HasPort w.tree p → (b : At (peer_of w.tree.links p)) (vid : ℕ) → is_registered w vid p ≡ true
      → (is_declared_at w vid (far_node w.tree.links p) ≡ true) ⊎ HasBeyond w.tree (is_registered w vid) p
  forward p h b vid t = by (flat-cases (place_of q.port) (has_own vid b.s.vlans) (map (registers vid) b.s.vlans.parts) (sym (far-rule p h b vid) ∙ t))
    where
      q : EgressPort
      q = peer_of w.tree.links p

      by : (has_own vid b.s.vlans ≡ true) ⊎ (elsewhere (place_of (peer_of w.tree.links p).port) (map (registers vid) b.s.vlans.parts) ≡ true)
          → (is_declared_at w vid (far_node w.tree.links p) ≡ true) ⊎ HasBeyond w.tree (is_registered w vid) p
      by (inl o) = inl (declared-is p b vid ∙ station-own vid b.s.kind b.s.vlans (λ k. ((kept.nodes ((peer_of w.tree.links p).node.0 - 1) b.s b.node).kept.idle k).own) o)
      by (inr r) =
          let j = some_elsewhere (place_of (peer_of w.tree.links p).port) (map (registers vid) b.s.vlans.parts) r in
          let x = get-map (registers vid) b.s.vlans.parts j.0 j.2 in
          inr (to-beyond p h b vid j.0 x.0 j.1 x.1 x.2)

  backward : (p : EgressPort) → HasPort w.tree p → (b : At (peer_of w.tree.links p)) (vid : ℕ)
      → (is_declared_at w vid (far_node w.tree.links p) ≡ true) ⊎ HasBeyond w.tree (is_registered w vid) p → is_registered w vid p ≡ true
  backward p h b vid (inl o) =
      let own = (and_parts (is_station b.s.kind) (has_own vid b.s.vlans) (sym (declared-is p b vid) ∙ o)).1 in
      far-rule p h b vid
      ∙ (ap (λ t. elsewhere (suc (place_of (peer_of w.tree.links p).port)) (t ∷ map (registers vid) b.s.vlans.parts)) own
      ∙ flat-own (place_of (peer_of w.tree.links p).port) (map (registers vid) b.s.vlans.parts))
  backward p h b vid (inr r) =
      let q = peer_of w.tree.links p in
      let hq = laws.peer_port p h in
      let c = at-port r.0 r.1 in
      let same : c.s ≡ b.s = one (node_at q.node w) c.s b.s (ap (λ (n : ℕ). slice_get w.nodes (n - 1)) (sym r.2) ∙ c.node) b.node in
      let has : slice_get b.s.vlans.parts (place_of r.0.port) ≡ Some c.part = ap (λ (s : NodeState). slice_get s.vlans.parts (place_of r.0.port)) (sym same) ∙ c.has in
      let t : registers vid c.part ≡ true = sym (registered-is r.0 c vid) ∙ r.4 in
      let other : place_of r.0.port ≢ place_of q.port = λ e. r.3 (same_numbers r.0 q r.2 (omega (arith, e, r.1.1, hq.1))) in
      far-rule p h b vid
      ∙ flat-other (place_of q.port) (has_own vid b.s.vlans) (map (registers vid) b.s.vlans.parts)
      (elsewhere_some (place_of q.port) (map (registers vid) b.s.vlans.parts) (place_of r.0.port) other (map-get (registers vid) b.s.vlans.parts (place_of r.0.port) c.part has t))

  propagated : (vid : ℕ) → IsPropagated w.tree (is_registered w vid) (is_declared_at w vid)
  propagated vid p h =
      let b = at-port (peer_of w.tree.links p) (laws.peer_port p h) in
      (forward p h b vid, backward p h b vid)

  abbrev WalkBehind : Type 0
  WalkBehind = (p : EgressPort) (y : ℕ) → HasPort w.tree p → HasNode w.tree y → (LiesBehind w.tree.links p y ↔ (is_behind w.tree.links p y ≡ true))

  pub vlans-match : WalkBehind → VlansMatch w
  vlans-match walk p vid h =
      let law = laws.propagation (is_registered w vid) (is_declared_at w vid) p (propagated vid) h in
      ((λ t. to (law.0 t)), (λ d. law.1 (from d)))
    where
      to : HasBehind w.tree (is_declared_at w vid) p → HasDeclaredBehind w vid p
      to b = (b.0, b.1, (walk p b.0 h b.1).1 b.2, b.3)

      from : HasDeclaredBehind w vid p → HasBehind w.tree (is_declared_at w vid) p
      from d = (d.0, d.1, (walk p d.0 h d.1).0 d.2, d.3)

  pub sides-are-one : WalkBehind → (p : EgressPort) (vid : ℕ) → HasPort w.tree p → is_registered w vid p ≡ is_declared_behind w vid p
  sides-are-one walk p vid h =
      let match = vlans-match walk p vid h in
      one-test (is_registered w vid p) (is_declared_behind w vid p) (λ t. to (match.0 t)) (λ t. match.1 (from t))
    where
      to : HasDeclaredBehind w vid p → is_declared_behind w vid p ≡ true
      to d =
          range-from (λ y. is_behind w.tree.links p y && is_declared_at w vid y) (length w.tree.kinds) 1 d.0 d.1.0 (omega (arith, d.1.1))
          (both (is_behind w.tree.links p d.0) (is_declared_at w vid d.0) ((walk p d.0 h d.1).0 d.2) d.3)

      from : is_declared_behind w vid p ≡ true → HasDeclaredBehind w vid p
      from t =
          let r = range-at (λ y. is_behind w.tree.links p y && is_declared_at w vid y) (length w.tree.kinds) 1 t in
          let node : HasNode w.tree r.0 = (r.1, omega (arith, r.2)) in
          let parts = and_parts (is_behind w.tree.links p r.0) (is_declared_at w vid r.0) r.3 in
          (r.0, node, (walk p r.0 h node).1 parts.0, parts.1)
