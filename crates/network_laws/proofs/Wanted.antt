-- In a network at rest with a stream that at most one station talks: what a port's ledger keeps as wanted is what that station
-- asks for, and a station behind the port listens to the stream and hears Ready.
use Rattle.std.proofs.Common.{◌≡◌, ◌≢◌, ◌⊎◌, inl, inr, ℕ, zero, suc, ◌+◌, ◌-◌, ◌<◌, true, false, ◌&&◌, length, map, refl, sym, ap, ◌∙◌, arith}
use Rattle.std.specs.Prelude.{slice_get, Some, option_and_then, ◌==◌}
use Rattle.std.specs.Option.{option_map_or}
use Rattle.std.proofs.lemmas.Option.{slice_get_within}
use Rattle.srp_base.proofs.Arithmetic.{is_other as other-port}
use Rattle.srp_base.specs.declared.{numbers.EgressPort.EgressPort, numbers.StreamId.StreamId}
use Rattle.stream_importance.specs.declared.entry.Want.{Want}
use Rattle.port_ledger.specs.Book.{want_of}
use Rattle.tree_topology.specs.declared.{graph.NodeKind.NodeKind, graph.NodeKind.TheVariants.Station, graph.NodeKind.TheVariants.Bridge}
use Rattle.tree_topology.specs.{Topology.HasNode, Topology.HasPort, Ports.neighbours, Ports.peer_of, Ports.far_node, Walk.is_behind, Walk.count_behind, Refusal.is_station}
use Rattle.msrp_listener.specs.declared.port_listener.PortListener.{PortListener}
use Rattle.msrp_talker.specs.TalkerOut.{talker_in}
use Rattle.msrp.specs.{PortState.PortState, Part.registered_talker, Stream.advertise_of, Stream.talk_of, Stream.is_present, Stream.is_advertised, Stream.is_ready, Stream.is_talker_port, Stream.talker_port, Stream.first_talker, Stream.listener_at, Stream.listener_row, Stream.want_of_talker, Side.has_listen, Side.heard_of}
use Rattle.attribute_propagation.specs.Ports.{place_of}
use Rattle.node_core.specs.{Proper.IsIdleBridge, State.NodeState}
use Rattle.world_core.specs.World.{WorldState}
use Rattle.network_laws.specs.{IsTalkedOnce, IsWantedBehind, hears_ready, is_listened_at, is_ready_heard, is_talked_at}
use Rattle.network_laws.proofs.{Listeners.CanHave, Listeners.own, Listeners.other, Listeners.declares-ready, Listeners.row-ready, StreamNode.KeptWants, StreamNode.can_have, StreamNode.first-is, StreamNode.is-port, StreamNode.port-of-present, StreamNode.same-port, StreamNode.stated-want, StreamNode.wants, StreamNet.AreStreamsStill, StreamNet.At, StreamNet.TalkersAt, StreamNet.Talks, StreamNet.are-both, StreamNet.at-app, StreamNet.at-link, StreamNet.at-port, StreamNet.far-listener, StreamNet.get-map, StreamNet.is-not, StreamNet.kind-is, StreamNet.kind_at, StreamNet.own-from, StreamNet.own-talk, StreamNet.ports-are, StreamNet.registered-behind, StreamNet.regs, StreamNet.states-at, StreamNet.talkers-at, StreamNet.talks-present, StreamNet.wanted, StreamLaw.heard-from, StreamLaw.lowest, StreamLaw.node-of, StreamLaw.not-zero}

-- a bridge listens to nothing
station-listens : (stream : StreamId) (s : NodeState) → IsIdleBridge s → has_listen stream s.streams ≡ true → (is_station s.kind && has_listen stream s.streams) ≡ true
station-listens stream s idle e = by s.kind refl
  where
    by : (k : NodeKind) → s.kind ≡ k → (is_station s.kind && has_listen stream s.streams) ≡ true
    by Station k = rw k e
    by Bridge k = let none : has_listen stream s.streams ≡ false = rw (idle k).listens refl in cc

module _ (w : WorldState) (still : AreStreamsStill w) (stream : StreamId) (kept : KeptWants) where
  -- a station that listens to the stream, not the one that talks it, and hears that it has it
  record HearsReady (l : ℕ) : Type 0 where
    node : HasNode w.tree l
    listens : is_listened_at w stream l ≡ true
    is_other : is_talked_at w stream l ≡ false
    ready : hears_ready w stream l ≡ true

  -- where the application talks, no link port is the Talker's port
  talks-itself : (q : EgressPort) (b : At w still stream kept q) → is_talked_at w stream q.node.0 ≡ true
      → is_talker_port (suc (place_of q.port)) (regs w still stream kept b).talkers ≡ false
  talks-itself q b t =
      let talk : is_present (advertise_of (talk_of stream b.s.streams.talks)) ≡ true = talks-present (talk_of stream b.s.streams.talks) ∙ own-talk w still stream kept q b t in
      let reg = advertise_of (talk_of stream b.s.streams.talks) in
      is-port (regs w still stream kept b).talkers 0 reg (suc (place_of q.port)) (first-is reg (map (λ (x : PortState). registered_talker stream x.part) b.s.streams.ports) talk)
      ∙ other-port 0 (suc (place_of q.port)) (λ e. absurd (omega (arith, e)))

  -- at a node with the Talker's port whose application listens to an advertised Talker
  hears-here : (q : EgressPort) → HasPort w.tree q → (b : At w still stream kept q) → is_talker_port (suc (place_of q.port)) (regs w still stream kept b).talkers ≡ true
      → (regs w still stream kept b).listens ≡ true → is_advertised (first_talker (regs w still stream kept b).talkers) ≡ true → HearsReady q.node.0
  hears-here q h b port l adv =
      record {
        node = h.0;
        listens = ap (λ o. option_map_or (λ (s : NodeState). is_station s.kind && has_listen stream s.streams) o false) b.node
            ∙ station-listens stream b.s (still.idle (q.node.0 - 1) b.s b.node) l;
        is_other = by (are-both (is_talked_at w stream q.node.0));
        ready = ap (λ o. option_map_or (λ (s : NodeState). is_ready_heard (heard_of stream s.streams)) o false) b.node
            ∙ heard-from (regs w still stream kept b) l (not-zero (place_of q.port) (talker_port (regs w still stream kept b).talkers) port) adv;
      }
    where
      by : (is_talked_at w stream q.node.0 ≡ true) ⊎ (is_talked_at w stream q.node.0 ≡ false) → is_talked_at w stream q.node.0 ≡ false
      by (inl t) = absurd (is-not (is_talker_port (suc (place_of q.port)) (regs w still stream kept b).talkers) (talks-itself q b t) port)
      by (inr f) = f

  -- another port of a node, by its place
  record Placed (q : EgressPort) (b : At w still stream kept q) (j : ℕ) : Type 0 where
    r : EgressPort
    port : HasPort w.tree r
    node_is : r.node.0 ≡ q.node.0
    place : place_of r.port ≡ j
    ready : is_ready (kind_at w still stream kept r) ≡ true

  placed : (q : EgressPort) → HasPort w.tree q → (b : At w still stream kept q) (j : ℕ) (row : PortListener) → slice_get (regs w still stream kept b).listeners j ≡ Some (Some row)
      → can_have row ≡ true → Placed q b j
  placed q h b j row e can =
      let at = get-map (listener_row stream) b.s.streams.ports j (Some row) e in
      let r : EgressPort = record { node = q.node; port = record { 0 = j + 1 } } in
      let few : j < length (neighbours w.tree.links q.node.0) = omega (arith, slice_get_within b.s.streams.ports j at.0 at.1, ports-are w still stream kept q b.s h b.node) in
      let back : j + 1 - 1 ≡ j = omega arith in
      let c : At w still stream kept r = record { s = b.s; node = b.node; port = at.0; has = ap (λ i. slice_get b.s.streams.ports i) back ∙ at.1 } in
      record {
        r = r;
        port = (h.0, omega arith, omega (arith, few));
        node_is = refl;
        place = back;
        ready = ap is_ready (kind-is w still stream kept r c) ∙ row-ready stream at.0 row at.2 can;
      }

  -- where Listeners that can have the stream are registered, a station behind hears Ready
  ready-behind : (n : ℕ) (p : EgressPort) → HasPort w.tree p → count_behind (length w.tree.kinds) w.tree.links p < n → is_ready (kind_at w still stream kept p) ≡ true
      → (l : ℕ) × HearsReady l × (is_behind w.tree.links p l ≡ true)
  ready-behind zero p h lt k = absurd (omega (arith, lt))
  ready-behind (suc n) p h lt k =
      let q = peer_of w.tree.links p in
      let hq = still.laws.peer_port p h in
      let b = at-port w still stream kept q hq in
      let stated : kind_at w still stream kept p ≡ listener_at (place_of q.port) (regs w still stream kept b) =
      ap (kind_at w still stream kept) (sym (still.laws.peer_twice p h)) ∙ far-listener w still stream kept q hq b in
      let parts = declares-ready (place_of q.port) (regs w still stream kept b) (ap is_ready (sym stated) ∙ k) in
      by b parts.0 parts.1 (λ r hr less k. ready-behind n r hr less k)
    where
      by : (b : At w still stream kept (peer_of w.tree.links p)) → is_talker_port (suc (place_of (peer_of w.tree.links p).port)) (regs w still stream kept b).talkers ≡ true
          → CanHave (place_of (peer_of w.tree.links p).port) (regs w still stream kept b)
          → ((r : EgressPort) → HasPort w.tree r → count_behind (length w.tree.kinds) w.tree.links r < n → is_ready (kind_at w still stream kept r) ≡ true
          → (l : ℕ) × HearsReady l × (is_behind w.tree.links r l ≡ true))
          → (l : ℕ) × HearsReady l × (is_behind w.tree.links p l ≡ true)
      by b port (own l adv) further =
          (far_node w.tree.links p, hears-here (peer_of w.tree.links p) (still.laws.peer_port p h) b port l adv, still.laws.far p h)
      by b port (other j row ne e can) further =
          let x = placed (peer_of w.tree.links p) (still.laws.peer_port p h) b j row e can in
          let differs : x.r ≢ peer_of w.tree.links p = λ same. ne (sym x.place ∙ ap (λ (y : EgressPort). place_of y.port) same) in
          let less : count_behind (length w.tree.kinds) w.tree.links x.r < n = omega (arith, still.laws.ahead_falls p x.r h x.port x.node_is differs, lt) in
          let y = further x.r x.port less x.ready in
          (y.0, y.1, still.laws.beyond p x.r y.0 h x.port y.1.node x.node_is differs y.2)

  -- the station that talks isn't behind a port that isn't the Talker's
  talker-before : (p : EgressPort) (h : HasPort w.tree p) (a : At w still stream kept p) (n : ℕ) → (n == suc (place_of p.port)) ≡ false → TalkersAt w still stream kept p a n
      → (y : ℕ) × Talks w still stream kept y × (is_behind w.tree.links p y ≡ false)
  talker-before p h a n ne (at-app z k) = (p.node.0, record { node = h.0; talks = own-from w still stream kept p a k }, by (are-both (is_behind w.tree.links p p.node.0)))
    where
      by : (is_behind w.tree.links p p.node.0 ≡ true) ⊎ (is_behind w.tree.links p p.node.0 ≡ false) → is_behind w.tree.links p p.node.0 ≡ false
      by (inl t) = absurd (still.laws.own p h t)
      by (inr f) = f
  talker-before p h a n ne (at-link r s e k is) =
      let y = registered-behind w still stream kept r s.port k in
      (y.0, y.1, by y.0 y.2 (are-both (is_behind w.tree.links p y.0)))
    where
      by : (y : ℕ) → is_behind w.tree.links r y ≡ true → (is_behind w.tree.links p y ≡ true) ⊎ (is_behind w.tree.links p y ≡ false) → is_behind w.tree.links p y ≡ false
      by y there (inl t) =
          let same : r ≡ p = still.laws.one_port r p y s.port h (ap (λ x. x.0) s.node) there t in
          let number : n ≡ suc (place_of p.port) = e ∙ ap (λ (x : EgressPort). suc (place_of x.port)) same in
          absurd (is-not (n == suc (place_of p.port)) ne (ap (λ m. m == suc (place_of p.port)) number ∙ same-port (suc (place_of p.port))))
      by y there (inr f) = f

  pub wanted-behind : IsTalkedOnce w stream → (p : EgressPort) → HasPort w.tree p → (a : At w still stream kept p) (want : Want) → want_of a.port.ledger.entries stream ≡ Some want
      → IsWantedBehind w stream p want
  wanted-behind once p h a want e =
      let talkers = (regs w still stream kept a).talkers in
      let why = wants (place_of p.port) a.port talkers stream want (sym (wanted w still stream kept p a) ∙ e) in
      let n = port-of-present talkers (ap is_present why.1.advertised) in
      let elsewhere : (n.0 == suc (place_of p.port)) ≡ false = sym (is-port talkers n.0 n.1 (suc (place_of p.port)) n.2) ∙ why.1.elsewhere in
      let y = talker-before p h a n.0 elsewhere (talkers-at w still stream kept p h a n.0 n.1 n.2) in
      let s = node-of w still stream kept once y.0 y.1.node in
      let l = ready-behind (suc (count_behind (length w.tree.kinds) w.tree.links p)) p h (omega arith) (ap is_ready (kind-is w still stream kept p a) ∙ why.1.ready) in
      let here : option_and_then want_of_talker (talker_in (first_talker talkers)) ≡ Some want = ap (λ reg. option_and_then want_of_talker (talker_in reg)) why.1.advertised ∙ why.1.want in
      let asks : option_and_then want_of_talker (talk_of stream s.0.streams.talks) ≡ Some want =
      sym (stated-want (talk_of stream s.0.streams.talks))
      ∙ (ap (option_and_then want_of_talker) (sym (states-at w still stream kept once y.0 y.1 p h a s.0 s.1)) ∙ (stated-want (talker_in (first_talker talkers)) ∙ here)) in
      record {
        t = y.0;
        talker = lowest w still stream kept once y.0 y.1;
        asked = ap (λ o. option_and_then (λ (x : NodeState). option_and_then want_of_talker (talk_of stream x.streams.talks)) o) s.1 ∙ asks;
        before = y.2;
        l = l.0;
        node = l.1.node;
        behind = l.2;
        listens = l.1.listens;
        is_other = l.1.is_other;
        ready = l.1.ready;
      }
