-- In a network at rest with a stream that at most one station talks: its Talker is registered at a port exactly where that
-- station is behind the port; so the Talker's port of each other node leads to the station, and along the path from there
-- bookings, declared Talkers and declared Listeners hang together port by port.
use Rattle.std.proofs.Common.{◌≡◌, ◌≢◌, ◌⊎◌, inl, inr, ℕ, zero, suc, ◌+◌, ◌-◌, ◌<◌, Bool, true, false, ◌&&◌, List, [], ◌∷◌, ◌++◌, length, map, refl, sym, ap, subst, ◌∙◌, arith}
use Rattle.std.specs.Prelude.{slice_get, not, Option, Some, None, is_some, option_map, option_and_then, ◌==◌}
use Rattle.std.specs.{Option.option_map_or, List.list_all}
use Rattle.std.proofs.lemmas.Bool.{and_parts}
use Rattle.std.proofs.lemmas.Option.{slice_get_within}
use Rattle.srp_base.proofs.{Options.one_some as one, Lists.each-get, Lists.within as get-some, Arithmetic.is_other as other-port}
use Rattle.srp_base.specs.declared.{numbers.EgressPort.EgressPort, numbers.StreamId.StreamId, streams.Failure.Failure, streams.Talker.Talker, streams.TalkerReg.TalkerReg, streams.ListenerKind.ListenerKind}
use Rattle.srp_base.specs.declared.streams.TalkerReg.TheVariants.{Absent, Advertise, Failed}
use Rattle.stream_importance.specs.declared.{entry.Want.Want, entry.Entry.Entry}
use Rattle.tree_topology.specs.declared.{graph.NodeKind.NodeKind, graph.NodeKind.TheVariants.Station, graph.NodeKind.TheVariants.Bridge}
use Rattle.tree_topology.specs.{Topology.HasNode, Topology.HasPort, Ports.neighbours, Ports.peer_of, Ports.far_node, Walk.is_behind, Walk.path_between, Walk.count_behind, PortLaws.HasPortLaws, PortLaws.HasBeyond, Refusal.is_station}
use Rattle.mrp_participant.specs.State.{registered_at, declared_at}
use Rattle.port_ledger.specs.Book.{entry_of, since_of, want_of}
use Rattle.msrp_codec.specs.declared.pdu.MsrpKey.{MsrpKey}
use Rattle.msrp_codec.specs.declared.pdu.MsrpKey.TheVariants as keys
use Rattle.msrp_listener.specs.declared.port_listener.PortListener.{PortListener}
use Rattle.msrp.specs.{PortState.PortState, Part.key_cmp, Part.registered_talker, Part.registered_listener, Part.talker_reg_of, Part.listener_kind_of, Stream.Registrations, Stream.advertise_of, Stream.talk_of, Stream.is_present, Stream.is_advertised, Stream.is_talker_port, Stream.is_ready, Stream.listener_row, Stream.first_talker, Stream.edge_at, Stream.talker_at, Stream.listener_at, Stream.wanted_at, Side.Streams, Side.IsKept, Side.IsPort, Side.IsSettled, Side.has_talk, Side.seen_by}
use Rattle.msrp_talker.specs.TalkerOut.{statement_of, talker_in, IsCarriedOn, IsOfPort}
use Rattle.attribute_propagation.specs.Ports.{place_of}
use Rattle.attribute_propagation.proofs.Lists.{get-empty}
use Rattle.node_core.specs.{Proper.IsIdleBridge, State.NodeState, State.if_booked, State.booked_at}
use Rattle.world_core.specs.World.{WorldState, node_at}
use Rattle.network_laws.specs.{is_talked_at, IsTalkedOnce, has_booked}
use Rattle.network_laws.proofs.StreamNode.{IsTalkers, first-is, port-of, port-of-present, is-port, same-port, declares, declared-present, present-declared, out-states, reg-content, kind-content, KeptWants, Wants, booked-wants, advertised-booked, fit_of_reg, failed-at, can_have, forwards}

-- what MSRP keeps of a port
abbrev pub stream_port : EgressPort → WorldState → Option PortState
stream_port p w = option_and_then (λ (s : NodeState). slice_get s.streams.ports (place_of p.port)) (node_at p.node w)

-- what holds of the streams of a network at rest
pub record AreStreamsStill (w : WorldState) : Type 0 where
  pub laws : HasPortLaws w.tree
  pub many : length w.nodes ≡ length w.tree.kinds
  pub kept : (x : ℕ) (s : NodeState) → slice_get w.nodes x ≡ Some s → IsKept s.streams
  pub ports : (x : ℕ) (s : NodeState) → slice_get w.nodes x ≡ Some s → length s.streams.ports ≡ length (neighbours w.tree.links (x + 1))
  pub none_await : (x : ℕ) (s : NodeState) → slice_get w.nodes x ≡ Some s → list_all (λ (keys : List MsrpKey). length keys == 0) s.streams.awaiting ≡ true
  pub moment : (x : ℕ) (s : NodeState) → slice_get w.nodes x ≡ Some s → s.streams.moment ≡ s.clock.0
  pub named : (x : ℕ) (s : NodeState) (i : ℕ) (port : PortState) → slice_get w.nodes x ≡ Some s → slice_get s.streams.ports i ≡ Some port → port.config.bridge ≡ s.bridge
  pub idle : (x : ℕ) (s : NodeState) → slice_get w.nodes x ≡ Some s → IsIdleBridge s
  pub linked : (p : EgressPort) → HasPort w.tree p → (a b : PortState) → stream_port p w ≡ Some a → stream_port (peer_of w.tree.links p) w ≡ Some b
      → (key : MsrpKey) → registered_at key_cmp key a.part ≡ declared_at key_cmp key b.part

pub map-get : {X Y : Type 0} (f : X → Y) (xs : List X) (j : ℕ) (x : X) → slice_get xs j ≡ Some x → slice_get (map f xs) j ≡ Some (f x)
map-get f [] j x h = cc
map-get f (y ∷ xs) zero x h = let same : y ≡ x = cc in ap (λ z. Some (f z)) same
map-get f (y ∷ xs) (suc j) x h = map-get f xs j x h

pub get-map : {X Y : Type 0} (f : X → Y) (xs : List X) (j : ℕ) (y : Y) → slice_get (map f xs) j ≡ Some y → (x : X) × (slice_get xs j ≡ Some x) × (f x ≡ y)
get-map f [] j y h = cc
get-map f (x ∷ xs) zero y h = (x, refl, (let same : f x ≡ y = cc in same))
get-map f (x ∷ xs) (suc j) y h = get-map f xs j y h

not-true : (a b : Bool) → a ≡ not b → b ≡ true → a ≡ false
not-true a true e h = e
not-true a false e h = cc

not-false : (a b : Bool) → a ≡ not b → b ≡ false → a ≡ true
not-false a true e h = cc
not-false a false e h = e

pub is-not : (a : Bool) → a ≡ false → ¬ (a ≡ true)
is-not a h t = cc

pub are-both : (b : Bool) → (b ≡ true) ⊎ (b ≡ false)
are-both true = inl refl
are-both false = inr refl

-- a Talker of the application is registered exactly where it talks
pub talks-present : (o : Option Talker) → is_present (advertise_of o) ≡ is_some o
talks-present None = refl
talks-present (Some t) = refl

-- an entry is a booked one exactly where it has a moment
pub entry-booked : (o : Option Entry) → is_some (option_and_then if_booked o) ≡ is_some (option_and_then (λ (x : Entry). x.since) o)
entry-booked None = refl
entry-booked (Some x) = by (is_some x.since) refl
  where
    by : (b : Bool) → is_some x.since ≡ b → is_some (if_booked x) ≡ is_some x.since
    by true e = rw e refl
    by false e = rw e refl

station-talk : (stream : StreamId) (kind : NodeKind) (side : Streams) → (kind ≡ Bridge → side.talks ≡ []) → has_talk stream side ≡ true → (is_station kind && has_talk stream side) ≡ true
station-talk stream Station side h e = e
station-talk stream Bridge side h e = let none : has_talk stream side ≡ false = ap (λ talks. is_some (talk_of stream talks)) (h refl) in cc

module _ (w : WorldState) (still : AreStreamsStill w) (stream : StreamId) (kept-wants : KeptWants) where
  -- a port's node, and what MSRP keeps of the port
  pub record At (p : EgressPort) : Type 0 where
    pub s : NodeState
    pub node : node_at p.node w ≡ Some s
    pub port : PortState
    pub has : slice_get s.streams.ports (place_of p.port) ≡ Some port

  laws : HasPortLaws w.tree
  laws = still.laws

  abbrev far : EgressPort → ℕ
  far p = far_node w.tree.links p

  abbrev behind : EgressPort → ℕ → Bool
  behind p y = is_behind w.tree.links p y

  abbrev q_of : EgressPort → EgressPort
  q_of p = peer_of w.tree.links p

  pub ports-are : (p : EgressPort) (s : NodeState) → HasPort w.tree p → node_at p.node w ≡ Some s → length s.streams.ports ≡ length (neighbours w.tree.links p.node.0)
  ports-are p s h e =
      let one : p.node.0 - 1 + 1 ≡ p.node.0 = omega (arith, h.0.0) in
      still.ports (p.node.0 - 1) s e ∙ ap (λ n. length (neighbours w.tree.links n)) one

  pub at-port : (p : EgressPort) → HasPort w.tree p → At p
  at-port p h =
      let lt : p.node.0 - 1 < length w.nodes = omega (arith, h.0.0, h.0.1, still.many) in
      let n = get-some w.nodes (p.node.0 - 1) lt in
      let few : place_of p.port < length n.0.streams.ports = omega (arith, h.1, h.2, ports-are p n.0 h n.1) in
      let port = get-some n.0.streams.ports (place_of p.port) few in
      record { s = n.0; node = n.1; port = port.0; has = port.1 }

  pub port-is : (p : EgressPort) (a : At p) → stream_port p w ≡ Some a.port
  port-is p a = ap (λ o. option_and_then (λ (s : NodeState). slice_get s.streams.ports (place_of p.port)) o) a.node ∙ a.has

  -- what is registered of the Talker at a port, and of Listeners
  abbrev pub reg : EgressPort → TalkerReg
  reg p = option_map_or (λ (x : PortState). registered_talker stream x.part) (stream_port p w) Absent

  abbrev pub kind_at : EgressPort → Option ListenerKind
  kind_at p = option_and_then (λ (x : PortState). registered_listener stream x.part) (stream_port p w)

  pub reg-is : (p : EgressPort) (a : At p) → reg p ≡ registered_talker stream a.port.part
  reg-is p a = ap (λ o. option_map_or (λ (x : PortState). registered_talker stream x.part) o Absent) (port-is p a)

  pub kind-is : (p : EgressPort) (a : At p) → kind_at p ≡ registered_listener stream a.port.part
  kind-is p a = ap (λ o. option_and_then (λ (x : PortState). registered_listener stream x.part) o) (port-is p a)

  -- what is registered at all ports of a port's node
  abbrev pub regs : {p : EgressPort} → At p → Registrations
  regs a = seen_by a.s.streams stream

  -- ---- the node

  side-kept : (p : EgressPort) (a : At p) → IsKept a.s.streams
  side-kept p a = still.kept (p.node.0 - 1) a.s a.node

  pub settled : (p : EgressPort) (a : At p) → IsSettled (place_of p.port) a.port [] (seen_by a.s.streams)
  settled p a =
      let side = side-kept p a in
      let lt : place_of p.port < length a.s.streams.awaiting = omega (arith, side.sets, slice_get_within a.s.streams.ports (place_of p.port) a.port a.has) in
      let keys = get-some a.s.streams.awaiting (place_of p.port) lt in
      let none : keys.0 ≡ [] = get-empty a.s.streams.awaiting (place_of p.port) keys.0 (still.none_await (p.node.0 - 1) a.s a.node) keys.1 in
      side.settled (place_of p.port) a.port [] a.has (keys.1 ∙ ap Some none)

  pub port-kept : (p : EgressPort) (a : At p) → IsPort a.s.streams.moment a.port
  port-kept p a = each-get (IsPort a.s.streams.moment) a.s.streams.ports (place_of p.port) a.port (side-kept p a).ports a.has

  pub wanted : (p : EgressPort) (a : At p) → want_of a.port.ledger.entries stream ≡ wanted_at (place_of p.port) a.port (regs a).talkers stream
  wanted p a = (settled p a).wanted stream refl refl

  -- what a port's peer has registered is what the rules state there
  pub far-talker : (p : EgressPort) → HasPort w.tree p → (a : At p) → reg (q_of p) ≡ talker_at (place_of p.port) a.port (regs a).talkers
  far-talker p h a =
      let hq = laws.peer_port p h in
      let b = at-port (q_of p) hq in
      let back : stream_port (peer_of w.tree.links (q_of p)) w ≡ Some a.port = ap (λ x. stream_port x w) (laws.peer_twice p h) ∙ port-is p a in
      reg-is (q_of p) b
      ∙ (ap talker_reg_of (still.linked (q_of p) hq b.port a.port (port-is (q_of p) b) back (keys.Talker stream) ∙ (settled p a).declared (keys.Talker stream) refl)
      ∙ reg-content (talker_at (place_of p.port) a.port (regs a).talkers))

  pub far-listener : (p : EgressPort) → HasPort w.tree p → (a : At p) → kind_at (q_of p) ≡ listener_at (place_of p.port) (regs a)
  far-listener p h a =
      let hq = laws.peer_port p h in
      let b = at-port (q_of p) hq in
      let back : stream_port (peer_of w.tree.links (q_of p)) w ≡ Some a.port = ap (λ x. stream_port x w) (laws.peer_twice p h) ∙ port-is p a in
      kind-is (q_of p) b
      ∙ (ap listener_kind_of (still.linked (q_of p) hq b.port a.port (port-is (q_of p) b) back (keys.Listener stream) ∙ (settled p a).declared (keys.Listener stream) refl)
      ∙ kind-content (listener_at (place_of p.port) (regs a)))

  -- ---- the Talker's port of a node

  abbrev pub test : EgressPort → Bool
  test p = is_present (reg p)

  abbrev pub own : ℕ → Bool
  own y = is_talked_at w stream y

  own-is : (p : EgressPort) (a : At p) → own p.node.0 ≡ (is_station a.s.kind && has_talk stream a.s.streams)
  own-is p a = ap (λ o. option_map_or (λ (s : NodeState). is_station s.kind && has_talk stream s.streams) o false) a.node

  pub own-from : (p : EgressPort) (a : At p) → has_talk stream a.s.streams ≡ true → own p.node.0 ≡ true
  own-from p a t = own-is p a ∙ station-talk stream a.s.kind a.s.streams (λ k. (still.idle (p.node.0 - 1) a.s a.node k).talks) t

  pub own-talk : (p : EgressPort) (a : At p) → own p.node.0 ≡ true → has_talk stream a.s.streams ≡ true
  own-talk p a t = (and_parts (is_station a.s.kind) (has_talk stream a.s.streams) (sym (own-is p a) ∙ t)).1

  -- another link port of a port's node
  pub record Sibling (p : EgressPort) (a : At p) (r : EgressPort) : Type 0 where
    pub port : HasPort w.tree r
    pub node : r.node ≡ p.node
    pub at : At r
    pub same : at.s ≡ a.s

  pub sibling : (p : EgressPort) (h : HasPort w.tree p) (a : At p) (r : EgressPort) → HasPort w.tree r → r.node ≡ p.node → Sibling p a r
  sibling p h a r hr e =
      let c = at-port r hr in
      record {
        port = hr;
        node = e;
        at = c;
        same = one (node_at p.node w) c.s a.s (ap (λ n. node_at n w) (sym e) ∙ c.node) a.node;
      }

  -- what stands of a link port among all that is registered
  link-at : (p : EgressPort) (a : At p) → slice_get (regs a).talkers (suc (place_of p.port)) ≡ Some (reg p)
  link-at p a = map-get (λ (x : PortState). registered_talker stream x.part) a.s.streams.ports (place_of p.port) a.port a.has ∙ ap Some (sym (reg-is p a))

  sibling-at : (p : EgressPort) (a : At p) (r : EgressPort) → Sibling p a r → slice_get (regs a).talkers (suc (place_of r.port)) ≡ Some (reg r)
  sibling-at p a r b = ap (λ (s : NodeState). slice_get (seen_by s.streams stream).talkers (suc (place_of r.port))) (sym b.same) ∙ link-at r b.at

  -- the Talker's port is the application, or a link port
  pub data TalkersAt (p : EgressPort) (a : At p) (n : ℕ) : Type 0 where
    at-app : n ≡ 0 → has_talk stream a.s.streams ≡ true → TalkersAt p a n
    at-link : (r : EgressPort) → Sibling p a r → n ≡ suc (place_of r.port) → test r ≡ true → first_talker (regs a).talkers ≡ reg r → TalkersAt p a n

  pub talkers-at : (p : EgressPort) (h : HasPort w.tree p) (a : At p) (n : ℕ) (x : TalkerReg) → IsTalkers (regs a).talkers n x → TalkersAt p a n
  talkers-at p h a zero x t =
      let same : advertise_of (talk_of stream a.s.streams.talks) ≡ x = one (Some x) (advertise_of (talk_of stream a.s.streams.talks)) x (sym t.at) refl in
      at-app refl (sym (talks-present (talk_of stream a.s.streams.talks)) ∙ (ap is_present same ∙ t.present))
  talkers-at p h a (suc j) x t =
      let at = get-map (λ (y : PortState). registered_talker stream y.part) a.s.streams.ports j x t.at in
      let r : EgressPort = record { node = p.node; port = record { 0 = j + 1 } } in
      let few : j < length (neighbours w.tree.links p.node.0) = omega (arith, slice_get_within a.s.streams.ports j at.0 at.1, ports-are p a.s h a.node) in
      let hr : HasPort w.tree r = (h.0, omega arith, omega (arith, few)) in
      let back : j + 1 - 1 ≡ j = omega arith in
      let b = sibling p h a r hr refl in
      let is : x ≡ reg r = one (slice_get (regs a).talkers (suc j)) x (reg r) t.at (ap (λ n. slice_get (regs a).talkers (suc n)) (sym back) ∙ sibling-at p a r b) in
      at-link r b (ap suc (sym back)) (ap is_present (sym is) ∙ t.present) (t.is ∙ is)

  -- ---- from node to node

  same-port-is : (q r : EgressPort) → HasPort w.tree q → HasPort w.tree r → q.node ≡ r.node → place_of q.port ≡ place_of r.port → q ≡ r
  same-port-is q r hq hr e f =
      let ports : q.port.0 ≡ r.port.0 = omega (arith, f, hq.1, hr.1) in
      ap (λ n. record { node = n; port = q.port }) e ∙ ap (λ (n : ℕ). record { node = r.node; port = record { 0 = n } }) ports

  other-place : (q r : EgressPort) → HasPort w.tree q → HasPort w.tree r → q.node ≡ r.node → q ≢ r → place_of q.port ≢ place_of r.port
  other-place q r hq hr e ne f = ne (same-port-is q r hq hr e f)

  pub near-talker : (p : EgressPort) → HasPort w.tree p → (b : At (q_of p)) → reg p ≡ talker_at (place_of (q_of p).port) b.port (regs b).talkers
  near-talker p h b = ap reg (sym (laws.peer_twice p h)) ∙ far-talker (q_of p) (laws.peer_port p h) b

  -- where a Talker is registered, the far node's application talks, or one is registered at another port of the far node
  forward : (p : EgressPort) → HasPort w.tree p → test p ≡ true → (own (far p) ≡ true) ⊎ HasBeyond w.tree test p
  forward p h t =
      let q = q_of p in
      let hq = laws.peer_port p h in
      let b = at-port q hq in
      let parts = declared-present (place_of q.port) b.port (regs b).talkers (sym (ap is_present (near-talker p h b)) ∙ t) in
      let n = port-of-present (regs b).talkers parts.1 in
      by b n.0 (sym (is-port (regs b).talkers n.0 n.1 (suc (place_of q.port)) n.2) ∙ parts.0) (talkers-at q hq b n.0 n.1 n.2)
    where
      by : (b : At (q_of p)) (n : ℕ) → (n == suc (place_of (q_of p).port)) ≡ false → TalkersAt (q_of p) b n → (own (far p) ≡ true) ⊎ HasBeyond w.tree test p
      by b n ne (at-app z k) = inl (own-from (q_of p) b k)
      by b n ne (at-link r s e k is) =
          inr (
            r,
            s.port,
            ap (λ x. x.0) s.node,
            (λ f. absurd (is-not (n == suc (place_of (q_of p).port)) ne
                (ap (λ m. m == suc (place_of (q_of p).port)) (e ∙ ap (λ (x : EgressPort). suc (place_of x.port)) f) ∙ same-port (suc (place_of (q_of p).port))))),
            k,
          )

  -- where it talks, one is registered
  backward-own : (p : EgressPort) → HasPort w.tree p → own (far p) ≡ true → test p ≡ true
  backward-own p h t =
      let q = q_of p in
      let hq = laws.peer_port p h in
      let b = at-port q hq in
      let talk : is_present (advertise_of (talk_of stream b.s.streams.talks)) ≡ true = talks-present (talk_of stream b.s.streams.talks) ∙ own-talk q b t in
      let first : IsTalkers (regs b).talkers 0 (advertise_of (talk_of stream b.s.streams.talks)) =
      first-is (advertise_of (talk_of stream b.s.streams.talks)) (map (λ (x : PortState). registered_talker stream x.part) b.s.streams.ports) talk in
      let away : is_talker_port (suc (place_of q.port)) (regs b).talkers ≡ false =
      is-port (regs b).talkers 0 (advertise_of (talk_of stream b.s.streams.talks)) (suc (place_of q.port)) first ∙ other-port 0 (suc (place_of q.port)) (λ e. absurd (omega arith)) in
      ap is_present (near-talker p h b)
      ∙ present-declared (place_of q.port) b.port (regs b).talkers away (ap is_present first.is ∙ talk)

  -- where one is registered at another port of the far node, and none at that which leads back, one is registered
  backward-beyond : (p : EgressPort) → HasPort w.tree p → HasBeyond w.tree test p → test (q_of p) ≡ false → test p ≡ true
  backward-beyond p h r none =
      let q = q_of p in
      let hq = laws.peer_port p h in
      let b = at-port q hq in
      let s = sibling q hq b r.0 r.1 (ap (λ (n : ℕ). record { 0 = n }) r.2) in
      let n = port-of (regs b).talkers (suc (place_of r.0.port)) (reg r.0) (sibling-at q b r.0 s) r.4 in
      let away : is_talker_port (suc (place_of q.port)) (regs b).talkers ≡ false =
      is-port (regs b).talkers n.0 n.1 (suc (place_of q.port)) n.2 ∙ other-port n.0 (suc (place_of q.port)) (λ e. not-there b n.0 n.1 n.2 e) in
      ap is_present (near-talker p h b)
      ∙ present-declared (place_of q.port) b.port (regs b).talkers away (ap is_present n.2.is ∙ n.2.present)
    where
      not-there : (b : At (q_of p)) (n : ℕ) (x : TalkerReg) → IsTalkers (regs b).talkers n x → n ≡ suc (place_of (q_of p).port) → ⊥
      not-there b n x t e =
          let same : x ≡ reg (q_of p) = one (slice_get (regs b).talkers n) x (reg (q_of p)) t.at (ap (λ m. slice_get (regs b).talkers m) e ∙ link-at (q_of p) b) in
          is-not (test (q_of p)) none (ap is_present (sym same) ∙ t.present)

  abbrev count : EgressPort → ℕ
  count p = count_behind (length w.tree.kinds) w.tree.links p

  -- a station that talks
  pub record Talks (y : ℕ) : Type 0 where
    pub node : HasNode w.tree y
    pub talks : own y ≡ true

  far-has : (p : EgressPort) → HasPort w.tree p → HasNode w.tree (far p)
  far-has p h = (laws.peer_port p h).0

  -- where a Talker is registered, a station that talks lies behind
  ahead : (n : ℕ) (p : EgressPort) → HasPort w.tree p → count p < n → test p ≡ true → (y : ℕ) × Talks y × (behind p y ≡ true)
  ahead zero p h lt t = absurd (omega arith)
  ahead (suc n) p h lt t = by (forward p h t) (λ r hr less k. ahead n r hr less k)
    where
      by : (own (far p) ≡ true) ⊎ HasBeyond w.tree test p → ((r : EgressPort) → HasPort w.tree r → count r < n → test r ≡ true → (y : ℕ) × Talks y × (behind r y ≡ true))
          → (y : ℕ) × Talks y × (behind p y ≡ true)
      by (inl o) further = (far p, record { node = far-has p h; talks = o }, laws.far p h)
      by (inr r) further =
          let less : count r.0 < n = omega (arith, laws.ahead_falls p r.0 h r.1 r.2 r.3, lt) in
          let y = further r.0 r.1 less r.4 in
          (y.0, y.1, laws.beyond p r.0 y.0 h r.1 y.1.node r.2 r.3 y.2)

  pub registered-behind : (p : EgressPort) → HasPort w.tree p → test p ≡ true → (y : ℕ) × Talks y × (behind p y ≡ true)
  registered-behind p h t = ahead (suc (count p)) p h (omega arith) t

  module _ (once : IsTalkedOnce w stream) (t : ℕ) (talks : Talks t) where
    pub one-talker : (y : ℕ) → Talks y → y ≡ t
    one-talker y k = once y t k.node talks.node k.talks talks.talks

    registered-t : (p : EgressPort) → HasPort w.tree p → test p ≡ true → behind p t ≡ true
    registered-t p h k = let y = registered-behind p h k in ap (λ n. behind p n) (sym (one-talker y.0 y.1)) ∙ y.2

    -- where the station lies on the other side, none is registered
    absent : (p : EgressPort) → HasPort w.tree p → behind p t ≡ false → test p ≡ false
    absent p h off = by (are-both (test p))
      where
        by : (test p ≡ true) ⊎ (test p ≡ false) → test p ≡ false
        by (inl k) = absurd (is-not (behind p t) off (registered-t p h k))
        by (inr k) = k

    -- it lies on one side of a link
    pub other-side : (p : EgressPort) → HasPort w.tree p → behind p t ≡ true → behind (q_of p) t ≡ false
    other-side p h k =
        let flip = laws.sides (q_of p) t (laws.peer_port p h) talks.node in
        not-true (behind (q_of p) t) (behind p t) (flip ∙ ap (λ x. not (behind x t)) (laws.peer_twice p h)) k

    this-side : (p : EgressPort) → HasPort w.tree p → behind p t ≡ false → behind (q_of p) t ≡ true
    this-side p h k =
        let flip = laws.sides (q_of p) t (laws.peer_port p h) talks.node in
        not-false (behind (q_of p) t) (behind p t) (flip ∙ ap (λ x. not (behind x t)) (laws.peer_twice p h)) k

    -- a Talker is registered where the station lies behind
    reached : (n : ℕ) (p : EgressPort) → HasPort w.tree p → count p < n → behind p t ≡ true → test p ≡ true
    reached zero p h lt k = absurd (omega arith)
    reached (suc n) p h lt k = by (laws.no_more p t h talks.node k) (λ r hr less b. reached n r hr less b)
      where
        by : (t ≡ far p) ⊎ HasBeyond w.tree (λ q. behind q t) p → ((r : EgressPort) → HasPort w.tree r → count r < n → behind r t ≡ true → test r ≡ true) → test p ≡ true
        by (inl e) further = backward-own p h (ap own (sym e) ∙ talks.talks)
        by (inr r) further =
            let less : count r.0 < n = omega (arith, laws.ahead_falls p r.0 h r.1 r.2 r.3, lt) in
            backward-beyond p h (r.0, r.1, r.2, r.3, further r.0 r.1 less r.4)
            (absent (q_of p) (laws.peer_port p h) (other-side p h k))

    pub behind-registered : (p : EgressPort) → HasPort w.tree p → behind p t ≡ true → test p ≡ true
    behind-registered p h k = reached (suc (count p)) p h (omega arith) k

    -- ---- the way from the station

    -- at a port away from which the station lies: the port's node is the station, or another port of it leads there, and is
    -- the Talker's port
    pub record Towards (p : EgressPort) (a : At p) (r : EgressPort) : Type 0 where
      pub sib : Sibling p a r
      pub leads : behind r t ≡ true
      pub differs : r ≢ p
      pub is_port : is_talker_port (suc (place_of r.port)) (regs a).talkers ≡ true
      pub is_reg : first_talker (regs a).talkers ≡ reg r

    -- at any port: the node is the station, or a port leads there
    pub towards : (p : EgressPort) (h : HasPort w.tree p) (a : At p)
        → (p.node.0 ≡ t) ⊎ ((r : EgressPort) × Sibling p a r × (behind r t ≡ true) × (is_talker_port (suc (place_of r.port)) (regs a).talkers ≡ true) × (first_talker (regs a).talkers ≡ reg r))
    towards p h a = by (laws.some_port p.node.0 t h.0 talks.node)
      where
        by : (p.node.0 ≡ t) ⊎ ((r : EgressPort) × HasPort w.tree r × (r.node.0 ≡ p.node.0) × (behind r t ≡ true))
            → (p.node.0 ≡ t) ⊎ ((r : EgressPort) × Sibling p a r × (behind r t ≡ true) × (is_talker_port (suc (place_of r.port)) (regs a).talkers ≡ true) × (first_talker (regs a).talkers ≡ reg r))
        by (inl e) = inl e
        by (inr r) =
            let s = sibling p h a r.0 r.1 (ap (λ (n : ℕ). record { 0 = n }) r.2) in
            let n = port-of (regs a).talkers (suc (place_of r.0.port)) (reg r.0) (sibling-at p a r.0 s) (behind-registered r.0 r.1 r.3) in
            inr (found r.0 s r.3 n.0 n.1 n.2 (talkers-at p h a n.0 n.1 n.2))
          where
            found : (r : EgressPort) (s : Sibling p a r) → behind r t ≡ true → (n : ℕ) (x : TalkerReg) → IsTalkers (regs a).talkers n x → TalkersAt p a n
                → (r : EgressPort) × Sibling p a r × (behind r t ≡ true) × (is_talker_port (suc (place_of r.port)) (regs a).talkers ≡ true) × (first_talker (regs a).talkers ≡ reg r)
            found r s k n x m (at-app z o) =
                let e : p.node.0 ≡ t = one-talker p.node.0 (record { node = h.0; talks = own-from p a o }) in
                absurd (laws.own r s.port (ap (λ y. behind r y) (ap (λ x. x.0) s.node ∙ e) ∙ k))
            found r s k n x m (at-link r2 s2 e o is) =
                (r2, s2, registered-t r2 s2.port o, is-port (regs a).talkers n x (suc (place_of r2.port)) m ∙ (ap (λ m. m == suc (place_of r2.port)) e ∙ same-port (suc (place_of r2.port))), is)

    step-back : (p : EgressPort) (h : HasPort w.tree p) (a : At p) → behind p t ≡ false → (p.node.0 ≡ t) ⊎ ((r : EgressPort) × Towards p a r)
    step-back p h a off = by (towards p h a)
      where
        by : (p.node.0 ≡ t) ⊎ ((r : EgressPort) × Sibling p a r × (behind r t ≡ true) × (is_talker_port (suc (place_of r.port)) (regs a).talkers ≡ true) × (first_talker (regs a).talkers ≡ reg r))
            → (p.node.0 ≡ t) ⊎ ((r : EgressPort) × Towards p a r)
        by (inl e) = inl e
        by (inr r) = inr (r.0, record { sib = r.1; leads = r.2; differs = (λ e. is-not (behind p t) off (ap (λ x. behind x t) (sym e) ∙ r.2)); is_port = r.3; is_reg = r.4 })

    -- the station's own node: the Talker's port is the application
    at-station : (p : EgressPort) (h : HasPort w.tree p) (a : At p) → p.node.0 ≡ t → first_talker (regs a).talkers ≡ advertise_of (talk_of stream a.s.streams.talks)
    at-station p h a e =
        let talk : is_present (advertise_of (talk_of stream a.s.streams.talks)) ≡ true =
        talks-present (talk_of stream a.s.streams.talks) ∙ own-talk p a (ap own e ∙ talks.talks) in
        rw talk refl

    -- the path to a port's far node ends with the port
    pub path-last : (p : EgressPort) → HasPort w.tree p → behind p t ≡ false → path_between w.tree.links t (far p) ≡ path_between w.tree.links t p.node.0 ++ p ∷ []
    path-last p h off = laws.path_last p t h talks.node (is-not (behind p t) off)

    pub path-start : (p : EgressPort) → HasPort w.tree p → p.node.0 ≡ t → path_between w.tree.links t p.node.0 ≡ []
    path-start p h e = ap (λ y. path_between w.tree.links t y) e ∙ laws.path_none t talks.node

    -- the measure falls on the way back
    back : (p : EgressPort) (h : HasPort w.tree p) (a : At p) (r : EgressPort) → Towards p a r → count (q_of (q_of r)) < count (q_of p)
    back p h a r b =
        let hr = b.sib.port in
        let hq = laws.peer_port r hr in
        let node : p.node.0 ≡ far (q_of r) = sym (ap (λ x. x.0) b.sib.node) ∙ sym (laws.peer_back r hr) in
        laws.back_falls (q_of r) p hq h node (λ e. b.differs (sym (e ∙ laws.peer_twice r hr)))

    far-back : (p : EgressPort) (h : HasPort w.tree p) (a : At p) (r : EgressPort) → Towards p a r → far (q_of r) ≡ p.node.0
    far-back p h a r b = laws.peer_back r b.sib.port ∙ ap (λ x. x.0) b.sib.node

    abbrev booked : EgressPort → Bool
    booked p = has_booked w stream p

    pub booked-is : (p : EgressPort) (a : At p) → booked p ≡ is_some (since_of a.port.ledger.entries stream)
    booked-is p a =
        ap (λ o. option_map_or (λ (s : NodeState). is_some (booked_at stream (place_of p.port) s)) o false) a.node
        ∙ (ap (λ o. is_some (option_map_or (λ (x : PortState). option_and_then if_booked (entry_of x.ledger.entries stream)) o None)) a.has
        ∙ entry-booked (entry_of a.port.ledger.entries stream))

    -- where a port away from the station has booked, so has the one before it
    booked-before : (p : EgressPort) (h : HasPort w.tree p) (a : At p) (r : EgressPort) → Towards p a r → booked p ≡ true → booked (q_of r) ≡ true
    booked-before p h a r b k =
        let hr = b.sib.port in
        let hq = laws.peer_port r hr in
        let c = at-port (q_of r) hq in
        let kept = (port-kept p a).ledger in
        let some : is_some (since_of a.port.ledger.entries stream) ≡ true = sym (booked-is p a) ∙ k in
        let why = booked-wants kept-wants (place_of p.port) a.port (regs a).talkers stream kept (wanted p a) some in
        let advertised-r : reg r ≡ Advertise why.0 = sym b.is_reg ∙ why.2.advertised in
        let told : is_advertised (talker_at (place_of (q_of r).port) c.port (regs c).talkers) ≡ true =
        ap is_advertised (sym (near-talker r hr c) ∙ advertised-r) in
        let ready-r : is_ready (listener_at (place_of r.port) (regs b.sib.at)) ≡ true = ready-there why.0 why.1 why.2 some in
        let ready : is_ready (registered_listener stream c.port.part) ≡ true =
        ap is_ready (sym (kind-is (q_of r) c) ∙ far-listener r hr b.sib.at) ∙ ready-r in
        booked-is (q_of r) c
        ∙ advertised-booked kept-wants (place_of (q_of r).port) c.port (regs c).talkers stream (port-kept (q_of r) c).ledger (wanted (q_of r) c) told ready
      where
        ready-there : (u : Talker) (v : Want) → Wants (place_of p.port) a.port (regs a).talkers stream u v → is_some (since_of a.port.ledger.entries stream) ≡ true
            → is_ready (listener_at (place_of r.port) (regs b.sib.at)) ≡ true
        ready-there u v why some = of (registered_listener stream a.port.part) refl
          where
            of : (o : Option ListenerKind) → registered_listener stream a.port.part ≡ o → is_ready (listener_at (place_of r.port) (regs b.sib.at)) ≡ true
            of None e = let off : is_ready (registered_listener stream a.port.part) ≡ false = ap is_ready e in let yes_ : is_ready (registered_listener stream a.port.part) ≡ true = why.ready in cc
            of (Some kind) e =
                let row : PortListener = record { kind = kind; booked = is_some (since_of a.port.ledger.entries stream) } in
                let listed : slice_get (regs a).listeners (place_of p.port) ≡ Some (Some row) =
                map-get (listener_row stream) a.s.streams.ports (place_of p.port) a.port a.has
                ∙ ap (λ k. Some (option_map (λ kind. record { kind = kind; booked = is_some (since_of a.port.ledger.entries stream) }) k)) e in
                let kind-ready : is_ready (Some kind) ≡ true = ap is_ready (sym e) ∙ why.ready in
                let can : can_have row ≡ true = rw some kind-ready in
                let there_ : is_ready (listener_at (place_of r.port) (regs a)) ≡ true =
                forwards (place_of r.port) (regs a) (place_of p.port) row b.is_port
                (other-place p r h b.sib.port (sym b.sib.node) (λ f. b.differs (sym f))) listed can in
                ap (λ (s : NodeState). is_ready (listener_at (place_of r.port) (seen_by s.streams stream))) b.sib.same ∙ there_

    all-snoc : (xs : List EgressPort) (p : EgressPort) → list_all booked xs ≡ true → booked p ≡ true → list_all booked (xs ++ p ∷ []) ≡ true
    all-snoc [] p h k = rw k refl
    all-snoc (x ∷ xs) p h k =
        let parts = and_parts (booked x) (list_all booked xs) h in
        rw parts.0 (all-snoc xs p parts.1 k)

    all-booked : (n : ℕ) (p : EgressPort) (h : HasPort w.tree p) → count (q_of p) < n → behind p t ≡ false → booked p ≡ true
        → list_all booked (path_between w.tree.links t (far p)) ≡ true
    all-booked zero p h lt off k = absurd (omega arith)
    all-booked (suc n) p h lt off k =
        ap (list_all booked) (path-last p h off) ∙ all-snoc (path_between w.tree.links t p.node.0) p (by (step-back p h (at-port p h) off) (λ q hq less away b. all-booked n q hq less away b)) k
      where
        by : (p.node.0 ≡ t) ⊎ ((r : EgressPort) × Towards p (at-port p h) r)
            → ((q : EgressPort) (hq : HasPort w.tree q) → count (q_of q) < n → behind q t ≡ false → booked q ≡ true → list_all booked (path_between w.tree.links t (far q)) ≡ true)
            → list_all booked (path_between w.tree.links t p.node.0) ≡ true
        by (inl e) further = ap (list_all booked) (path-start p h e)
        by (inr r) further =
            let a = at-port p h in
            let hr = r.1.sib.port in
            let less : count (q_of (q_of r.0)) < n = omega (arith, back p h a r.0 r.1, lt) in
            ap (λ y. list_all booked (path_between w.tree.links t y)) (sym (far-back p h a r.0 r.1))
            ∙ further (q_of r.0) (laws.peer_port r.0 hr) less (other-side r.0 hr r.1.leads) (booked-before p h a r.0 r.1 k)

    pub path-booked : (p : EgressPort) → HasPort w.tree p → behind p t ≡ false → booked p ≡ true → list_all booked (path_between w.tree.links t (far p)) ≡ true
    path-booked p h off k = all-booked (suc (count (q_of p))) p h (omega arith) off k

    -- ---- what the station states

    abbrev pub stated : TalkerReg → Option Talker
    stated x = statement_of (talker_in x)

    abbrev pub stated_by : NodeState → Option Talker
    stated_by s = statement_of (talk_of stream s.streams.talks)

    advertised-states : (o : Option Talker) → stated (advertise_of o) ≡ statement_of o
    advertised-states None = refl
    advertised-states (Some u) = refl

    states-there : (p : EgressPort) (h : HasPort w.tree p) (a : At p) → p.node.0 ≡ t → (s : NodeState) → node_at (record { 0 = t }) w ≡ Some s
        → stated (first_talker (regs a).talkers) ≡ stated_by s
    states-there p h a e s f =
        let same : a.s ≡ s = one (node_at p.node w) a.s s a.node (ap (λ (n : ℕ). node_at (record { 0 = n }) w) e ∙ f) in
        ap stated (at-station p h a e) ∙ (advertised-states (talk_of stream a.s.streams.talks) ∙ ap stated_by same)

    -- wherever the Talker is registered it states what the station's application states
    states : (n : ℕ) (p : EgressPort) (h : HasPort w.tree p) → count p < n → behind p t ≡ true → (s : NodeState) → node_at (record { 0 = t }) w ≡ Some s
        → stated (reg p) ≡ stated_by s
    states zero p h lt k s e = absurd (omega arith)
    states (suc n) p h lt k s e =
        let hq = laws.peer_port p h in
        let b = at-port (q_of p) hq in
        let parts = declared-present (place_of (q_of p).port) b.port (regs b).talkers (sym (ap is_present (near-talker p h b)) ∙ behind-registered p h k) in
        ap stated (near-talker p h b ∙ declares (place_of (q_of p).port) b.port (regs b).talkers parts.0)
        ∙ (out-states (first_talker (regs b).talkers) b.port.config (edge_at b.port (regs b).talkers) (fit_of_reg b.port.ledger (first_talker (regs b).talkers))
        ∙ by b (step-back (q_of p) hq b (other-side p h k)) (λ r hr less b. states n r hr less b s e))
      where
        by : (b : At (q_of p)) → ((q_of p).node.0 ≡ t) ⊎ ((r : EgressPort) × Towards (q_of p) b r)
            → ((r : EgressPort) (hr : HasPort w.tree r) → count r < n → behind r t ≡ true → stated (reg r) ≡ stated_by s) → stated (first_talker (regs b).talkers) ≡ stated_by s
        by b (inl f) further = states-there (q_of p) (laws.peer_port p h) b f s e
        by b (inr r) further =
            let hr = r.1.sib.port in
            let node : r.0.node.0 ≡ far p = ap (λ x. x.0) r.1.sib.node in
            let less : count r.0 < n = omega (arith, laws.ahead_falls p r.0 h hr node r.1.differs, lt) in
            ap stated r.1.is_reg ∙ further r.0 hr less r.1.leads

    pub states-the-same : (p : EgressPort) (h : HasPort w.tree p) → behind p t ≡ true → (s : NodeState) → node_at (record { 0 = t }) w ≡ Some s → stated (reg p) ≡ stated_by s
    states-the-same p h k s e = states (suc (count p)) p h (omega arith) k s e

    -- so it does at each port's node
    pub states-at : (p : EgressPort) (h : HasPort w.tree p) (a : At p) → (s : NodeState) → node_at (record { 0 = t }) w ≡ Some s
        → stated (first_talker (regs a).talkers) ≡ stated_by s
    states-at p h a s e = by (towards p h a)
      where
        by : (p.node.0 ≡ t) ⊎ ((r : EgressPort) × Sibling p a r × (behind r t ≡ true) × (is_talker_port (suc (place_of r.port)) (regs a).talkers ≡ true) × (first_talker (regs a).talkers ≡ reg r))
            → stated (first_talker (regs a).talkers) ≡ stated_by s
        by (inl f) = states-there p h a f s e
        by (inr r) = ap stated r.4 ∙ states-the-same r.0 r.1.port r.2 s e

    -- ---- failures

    -- a port of the path to a node refuses what the station states, with this failure
    pub record Refusing (l : ℕ) (f : Failure) (s : NodeState) : Type 0 where
      pub p : EgressPort
      pub port : HasPort w.tree p
      pub a : At p
      pub i : ℕ
      pub on : slice_get (path_between w.tree.links t l) i ≡ Some p
      pub elsewhere : is_talker_port (suc (place_of p.port)) (regs a).talkers ≡ false
      pub refuses : IsOfPort a.port.config (edge_at a.port (regs a).talkers) (fit_of_reg a.port.ledger (first_talker (regs a).talkers)) (first_talker (regs a).talkers) f
      pub states_it : stated (first_talker (regs a).talkers) ≡ stated_by s

    get-front : {X : Type 0} (xs ys : List X) (i : ℕ) (x : X) → slice_get xs i ≡ Some x → slice_get (xs ++ ys) i ≡ Some x
    get-front [] ys i x h = cc
    get-front (y ∷ xs) ys zero x h = h
    get-front (y ∷ xs) ys (suc i) x h = get-front xs ys i x h

    get-end : {X : Type 0} (xs : List X) (x : X) → slice_get (xs ++ x ∷ []) (length xs) ≡ Some x
    get-end [] x = refl
    get-end (y ∷ xs) x = get-end xs x

    never-failed : (o : Option Talker) (u : Talker) (f : Failure) → advertise_of o ≡ Failed u f → ⊥
    never-failed None u f h = cc
    never-failed (Some v) u f h = cc

    later : (p : EgressPort) (h : HasPort w.tree p) (f : Failure) (s : NodeState) → behind p t ≡ false → Refusing p.node.0 f s → Refusing (far p) f s
    later p h f s off r =
        record {
          p = r.p;
          port = r.port;
          a = r.a;
          i = r.i;
          on = ap (λ xs. slice_get xs r.i) (path-last p h off) ∙ get-front (path_between w.tree.links t p.node.0) (p ∷ []) r.i r.p r.on;
          elsewhere = r.elsewhere;
          refuses = r.refuses;
          states_it = r.states_it;
        }

    refusing : (n : ℕ) (p : EgressPort) (h : HasPort w.tree p) → count (q_of p) < n → behind p t ≡ false → (s : NodeState) → node_at (record { 0 = t }) w ≡ Some s
        → (u : Talker) (f : Failure) → reg (q_of p) ≡ Failed u f → Refusing (far p) f s
    refusing zero p h lt off s e u f k = absurd (omega arith)
    refusing (suc n) p h lt off s e u f k =
        let a = at-port p h in
        by a (step-back p h a off) (failed-at (place_of p.port) a.port (regs a).talkers u f (sym (far-talker p h a) ∙ k))
        (λ q hq less away v g. refusing n q hq less away s e v f g)
      where
        elsewhere : (a : At p) → is_present (talker_at (place_of p.port) a.port (regs a).talkers) ≡ true → is_talker_port (suc (place_of p.port)) (regs a).talkers ≡ false
        elsewhere a x = (declared-present (place_of p.port) a.port (regs a).talkers x).0

        by : (a : At p) → (p.node.0 ≡ t) ⊎ ((r : EgressPort) × Towards p a r)
            → IsCarriedOn (first_talker (regs a).talkers) f
            ⊎ IsOfPort a.port.config (edge_at a.port (regs a).talkers) (fit_of_reg a.port.ledger (first_talker (regs a).talkers)) (first_talker (regs a).talkers) f
            → ((q : EgressPort) (hq : HasPort w.tree q) → count (q_of q) < n → behind q t ≡ false → (v : Talker) → reg (q_of q) ≡ Failed v f → Refusing (far q) f s)
            → Refusing (far p) f s
        by a where_ (inr refuses) further =
            record {
              p = p;
              port = h;
              a = a;
              i = length (path_between w.tree.links t p.node.0);
              on = ap (λ xs. slice_get xs (length (path_between w.tree.links t p.node.0))) (path-last p h off) ∙ get-end (path_between w.tree.links t p.node.0) p;
              elsewhere = elsewhere a (ap is_present (sym (far-talker p h a) ∙ k));
              refuses = refuses;
              states_it = states-at p h a s e;
            }
        by a (inl g) (inl v) further = absurd (never-failed (talk_of stream a.s.streams.talks) v.0 f (sym (at-station p h a g) ∙ v.1))
        by a (inr r) (inl v) further =
            let hr = r.1.sib.port in
            let hq = laws.peer_port r.0 hr in
            let less : count (q_of (q_of r.0)) < n = omega (arith, back p h a r.0 r.1, lt) in
            let here_ : reg (q_of (q_of r.0)) ≡ Failed v.0 f = ap reg (laws.peer_twice r.0 hr) ∙ (sym r.1.is_reg ∙ v.1) in
            let before = further (q_of r.0) hq less (other-side r.0 hr r.1.leads) v.0 here_ in
            later p h f s off (subst (λ y. Refusing y f s) (far-back p h a r.0 r.1) before)

    pub refused : (p : EgressPort) (h : HasPort w.tree p) → behind p t ≡ false → (s : NodeState) → node_at (record { 0 = t }) w ≡ Some s
        → (u : Talker) (f : Failure) → reg (q_of p) ≡ Failed u f → Refusing (far p) f s
    refused p h off s e u f k = refusing (suc (count (q_of p))) p h (omega arith) off s e u f k
