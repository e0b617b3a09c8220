-- Each event of a network, and each list of events, keeps what every network keeps.
use Rattle.std.proofs.Common.{◌≡◌, ℕ, ◌-◌, ◌<◌, ◌≤◌, ◌^◌, Bool, true, false, List, [], ◌∷◌, ◌++◌, refl, sym, subst, ◌∙◌, arith}
use Rattle.std.specs.Prelude.{slice_get, Option, Some, None, option_map}
use Rattle.std.specs.List.{AllByRecursion}
use Rattle.srp_base.proofs.Lists.{mapped_length}
use Rattle.srp_base.specs.declared.{numbers.Cs.Cs, numbers.NodeNo.NodeNo, numbers.EgressPort.EgressPort}
use Rattle.tree_topology.specs.declared.graph.NodeKind.{NodeKind}
use Rattle.tree_topology.specs.declared.graph.NodeKind.TheVariants.{Station}
use Rattle.tree_topology.specs.{Topology.Topology, Topology.HasPort, Topology.IsSound, Ports.peer_of, PortLaws.HasPortLaws}
use Rattle.attribute_propagation.specs.Ports.{place_of}
use Rattle.mrp_participant.specs.Link.{with_repeat}
use Rattle.link_net.specs.declared.events.NetEvent.{NetEvent}
use Rattle.link_net.specs.declared.events.NetEvent.TheVariants as events
use Rattle.link_net.specs.{NodeMeaning, KeepsAt, HasNodeLaws, without, with_one, carried_at, repeated_at, next_of, NetState, IsStation, with_changed, with_ends, outbox, name_in, reaches, after_loss, after_repeat, after_forgery, after_carrying, after_clock, net_step, net_after, CanHappen, CanAllHappen, IsEventInRange, FitsTree, IsKeptNet}
use Rattle.link_net.proofs.{Nodes.Fits, Nodes.each_changed, Nodes.many_changed, Nodes.get_mapped, Nodes.node_of, Nodes.outbox_is, EventSteps.met_event}

-- the public law of ports
abbrev pub PortsLaw : Type 0
PortsLaw = (tree : Topology) → IsSound tree → HasPortLaws tree

module _ {Name Step Reply Request Pdu : Type 0} (node : NodeMeaning Name Step Reply Request Pdu) where
  -- ---- the nodes stay at their places

  -- the number of its ports stays
  abbrev KeepsPorts : (node.State → node.State) → Type 0
  KeepsPorts change = (s : node.State) → node.ports_of (change s) ≡ node.ports_of s

  fits_changed : (n : NodeNo) (change : node.State → node.State) (w : NetState node.State) → Fits node w
      → ((s : node.State) → FitsTree node w.tree w.clock (n.0 - 1) s → FitsTree node w.tree w.clock (n.0 - 1) (change s)) → Fits node (with_changed n change w)
  fits_changed n change w fits keeps =
      record {
        many = many_changed n change w ∙ fits.many;
        nodes = each_changed n change w (FitsTree node w.tree w.clock) (λ s is f. keeps s f) fits.nodes;
      }

  -- after a change that keeps what each node of its kind keeps
  fits_kept : (n : NodeNo) (change : node.State → node.State) (w : NetState node.State) → Fits node w → KeepsPorts change → KeepsAt node w.clock change → Fits node (with_changed n change w)
  fits_kept n change w fits ports keeps =
      fits_changed n change w fits (λ s f. record { kind = f.kind; kind_is = f.kind_is; ports = ports s ∙ f.ports; kept = keeps f.kind s f.kept })

  fits_ends : (p : EgressPort) (near far : ℕ → node.State → node.State) (w : NetState node.State) → Fits node w
      → ((at : ℕ) → KeepsPorts (near at)) → ((at : ℕ) → KeepsAt node w.clock (near at)) → ((at : ℕ) → KeepsPorts (far at)) → ((at : ℕ) → KeepsAt node w.clock (far at))
      → Fits node (with_ends p near far w)
  fits_ends p near far w fits ports keeps far_ports far_keeps =
      let q = peer_of w.tree.links p in
      let between = with_changed p.node (near (place_of p.port)) w in
      fits_kept q.node (far (place_of q.port)) between (fits_kept p.node (near (place_of p.port)) w fits (ports (place_of p.port)) (keeps (place_of p.port)))
      (far_ports (place_of q.port)) (far_keeps (place_of q.port))

  module _ (laws : HasNodeLaws node) where
    fits_request : (n : NodeNo) (request : Request) (w : NetState node.State) → Fits node w → IsStation w.tree n → node.IsRequest request
        → Fits node (net_step node (events.Request n request) w).0
    fits_request n request w fits station ranged =
        fits_changed n (λ s. (node.asked request s).0) w fits (λ s f.
        let same : f.kind ≡ Station = kind_is f.kind (sym f.kind_is ∙ station.1) in
        let kept : node.IsKept Station w.clock s = subst (λ (k : NodeKind). node.IsKept k w.clock s) same f.kept in
        record {
          kind = Station;
          kind_is = station.1;
          ports = (laws.places.request request).ports s ∙ f.ports;
          kept = laws.keeps.request w.clock request s ranged kept;
        })
      where
        kind_is : (k : NodeKind) → Some k ≡ Some Station → k ≡ Station
        kind_is k e = cc

    -- the inbox of a port becomes another, and neither end is sound any more in an application
    fits_spoilt : (p : EgressPort) (made : ℕ → node.State → List Pdu) (n : Name) (w : NetState node.State) → Fits node w
        → ((at : ℕ) → KeepsAt node w.clock (λ s. node.with_inbox at (made at s) s))
        → Fits node (with_ends p (λ at s. node.spoilt n at (node.with_inbox at (made at s) s)) (node.spoilt n) w)
    fits_spoilt p made n w fits keeps =
        fits_ends p (λ at s. node.spoilt n at (node.with_inbox at (made at s) s)) (node.spoilt n) w fits
        (λ at s. (laws.places.spoils n at).ports (node.with_inbox at (made at s) s) ∙ (laws.places.inbox at (made at s)).ports s)
        (λ at kind s kept. laws.keeps.spoils w.clock n at kind (node.with_inbox at (made at s) s) (keeps at kind s kept))
        (λ at. (laws.places.spoils n at).ports) (λ at. laws.keeps.spoils w.clock n at)

    fits_lose : (p : EgressPort) (index : ℕ) (o : Option Name) (w : NetState node.State) → Fits node w → Fits node (after_loss node p index o w).0
    fits_lose p index None w fits = fits
    fits_lose p index (Some n) w fits = fits_spoilt p (λ at s. without index (node.inbox at s)) n w fits (λ at. laws.keeps.loses w.clock at index)

    fits_forge : (p : EgressPort) (index : ℕ) (pdu : Pdu) (b : Bool) (w : NetState node.State) → Fits node w → node.IsPdu pdu → node.IsShort pdu
        → Fits node (after_forgery node p index pdu b w).0
    fits_forge p index pdu false w fits ranged short = fits
    fits_forge p index pdu true w fits ranged short =
        fits_spoilt p (λ at s. with_one index pdu (node.inbox at s)) (node.name_of pdu) w fits (λ at. laws.keeps.forges w.clock at index pdu ranged short)

    fits_repeat : (p : EgressPort) (index : ℕ) (o : Option Name) (w : NetState node.State) → Fits node w → Fits node (after_repeat node p index o w).0
    fits_repeat p index None w fits = fits
    fits_repeat p index (Some n) w fits =
        let at = place_of p.port in
        fits_kept p.node (repeated_at node at index) w fits (λ s. (laws.places.inbox at (with_repeat index (node.inbox at s))).ports s) (laws.keeps.repeats w.clock at index)

    fits_carry : (p : EgressPort) (w : NetState node.State) → HasPort w.tree p → Fits node w → Fits node (after_carrying node p w)
    fits_carry p w has fits =
        let here = node_of node w fits p has in
        let at = place_of p.port in
        fits_ends p (λ at. node.with_outbox at []) (λ at. carried_at node at (outbox node p w)) w fits
        (λ at. (laws.places.outbox at []).ports) (laws.keeps.empties w.clock)
        (λ at s. (laws.places.inbox at (node.inbox at s ++ outbox node p w)).ports s)
        (λ k. subst (λ (pdus : List Pdu). KeepsAt node w.clock (carried_at node k pdus)) (sym (outbox_is node p w here.state here.is))
        (laws.keeps.carries here.fits.kind w.clock at k here.state here.fits.kept))

    fits_clock : (w : NetState node.State) → w.clock.0 < 2 ^ 61 → Fits node w → Fits node (after_clock node w)
    fits_clock w can fits =
        record {
          many = mapped_length (node.ticked (next_of w.clock)) w.nodes ∙ fits.many;
          nodes = λ x s get. by x s (slice_get w.nodes x) refl (sym (get_mapped (node.ticked (next_of w.clock)) w.nodes x) ∙ get);
        }
      where
        by : (x : ℕ) (s : node.State) (o : Option node.State) → slice_get w.nodes x ≡ o → option_map (node.ticked (next_of w.clock)) o ≡ Some s → FitsTree node w.tree (next_of w.clock) x s
        by x s None is e = absurd (let none : None ≡ Some s = e in cc)
        by x s (Some t) is e =
            let f = fits.nodes x t is in
            let same : node.ticked (next_of w.clock) t ≡ s = cc in
            subst (FitsTree node w.tree (next_of w.clock) x) same
            (record { kind = f.kind; kind_is = f.kind_is; ports = (laws.places.tick (next_of w.clock)).ports t ∙ f.ports; kept = laws.keeps.tick f.kind w.clock t can f.kept })

    fits_event : (e : NetEvent Request Step Pdu) (w : NetState node.State) → CanHappen node e w → IsEventInRange node e → Fits node w → Fits node (net_step node e w).0
    fits_event (events.Request n request) w can ranged fits = fits_request n request w fits can ranged
    fits_event (events.Port p step) w can ranged fits = fits_kept p.node (λ s. (node.stepped w.clock step (place_of p.port) s).0) w fits (laws.places.step w.clock step (place_of p.port)).ports (laws.keeps.step w.clock step (place_of p.port))
    fits_event (events.Lose p index) w can ranged fits = fits_lose p index (name_in node p index w) w fits
    fits_event (events.Repeat p index) w can ranged fits = fits_repeat p index (name_in node p index w) w fits
    fits_event (events.Forge p index pdu) w can ranged fits = fits_forge p index pdu (reaches node p index w) w fits ranged can.1
    fits_event (events.Carry p) w can ranged fits = fits_carry p w can fits
    fits_event events.Clock w can ranged fits = fits_clock w can fits

  -- ---- the tree and the clock

  -- a network over the same tree at the same moment
  pub record IsOfSameTree (w u : NetState node.State) : Type 0 where
    pub tree : u.tree ≡ w.tree
    pub clock : u.clock ≡ w.clock

  at_loss : (p : EgressPort) (index : ℕ) (o : Option Name) (w : NetState node.State) → IsOfSameTree w (after_loss node p index o w).0
  at_loss p index None w = record { tree = refl; clock = refl }
  at_loss p index (Some n) w = record { tree = refl; clock = refl }

  at_repeat : (p : EgressPort) (index : ℕ) (o : Option Name) (w : NetState node.State) → IsOfSameTree w (after_repeat node p index o w).0
  at_repeat p index None w = record { tree = refl; clock = refl }
  at_repeat p index (Some n) w = record { tree = refl; clock = refl }

  at_forgery : (p : EgressPort) (index : ℕ) (pdu : Pdu) (b : Bool) (w : NetState node.State) → IsOfSameTree w (after_forgery node p index pdu b w).0
  at_forgery p index pdu false w = record { tree = refl; clock = refl }
  at_forgery p index pdu true w = record { tree = refl; clock = refl }

  -- no event changes the tree
  pub tree_stays : (e : NetEvent Request Step Pdu) (w : NetState node.State) → (net_step node e w).0.tree ≡ w.tree
  tree_stays (events.Request n request) w = refl
  tree_stays (events.Port p step) w = refl
  tree_stays (events.Lose p index) w = (at_loss p index (name_in node p index w) w).tree
  tree_stays (events.Repeat p index) w = (at_repeat p index (name_in node p index w) w).tree
  tree_stays (events.Forge p index pdu) w = (at_forgery p index pdu (reaches node p index w) w).tree
  tree_stays (events.Carry p) w = refl
  tree_stays events.Clock w = refl

  -- none but the clock's own changes the clock
  pub clock_stays : (e : NetEvent Request Step Pdu) (w : NetState node.State) → (e ≡ events.Clock → ⊥) → (net_step node e w).0.clock ≡ w.clock
  clock_stays (events.Request n request) w other = refl
  clock_stays (events.Port p step) w other = refl
  clock_stays (events.Lose p index) w other = (at_loss p index (name_in node p index w) w).clock
  clock_stays (events.Repeat p index) w other = (at_repeat p index (name_in node p index w) w).clock
  clock_stays (events.Forge p index pdu) w other = (at_forgery p index pdu (reaches node p index w) w).clock
  clock_stays (events.Carry p) w other = refl
  clock_stays events.Clock w other = absurd (other refl)

  clock_kept : (e : NetEvent Request Step Pdu) (w : NetState node.State) → CanHappen node e w → w.clock.0 ≤ 2 ^ 61 → (net_step node e w).0.clock.0 ≤ 2 ^ 61
  clock_kept (events.Request n request) w can le = le
  clock_kept (events.Port p step) w can le = le
  clock_kept (events.Lose p index) w can le = subst (λ (c : Cs). c.0 ≤ 2 ^ 61) (sym (at_loss p index (name_in node p index w) w).clock) le
  clock_kept (events.Repeat p index) w can le = subst (λ (c : Cs). c.0 ≤ 2 ^ 61) (sym (at_repeat p index (name_in node p index w) w).clock) le
  clock_kept (events.Forge p index pdu) w can le = subst (λ (c : Cs). c.0 ≤ 2 ^ 61) (sym (at_forgery p index pdu (reaches node p index w) w).clock) le
  clock_kept (events.Carry p) w can le = le
  clock_kept events.Clock w can le = omega (arith, can)

  -- ---- all of it

  pub fits_of : (w : NetState node.State) → IsKeptNet node w → Fits node w
  fits_of w kept = record { many = kept.many; nodes = kept.nodes }

  module _ (laws : HasNodeLaws node) (ports : PortsLaw) where
    pub kept_event : (e : NetEvent Request Step Pdu) (w : NetState node.State) → CanHappen node e w → IsEventInRange node e → IsKeptNet node w → IsKeptNet node (net_step node e w).0
    kept_event e w can ranged kept =
        let fits = fits_event laws e w can ranged (fits_of w kept) in
        record {
          tree = subst IsSound (sym (tree_stays e w)) kept.tree;
          many = fits.many;
          nodes = fits.nodes;
          clock = clock_kept e w can kept.clock;
          duties = met_event node laws e w (ports w.tree kept.tree) can (fits_of w kept) kept.duties;
        }

    pub kept_events : (es : List (NetEvent Request Step Pdu)) (w : NetState node.State) → CanAllHappen node es w → AllByRecursion (IsEventInRange node) es → IsKeptNet node w
        → IsKeptNet node (net_after node es w)
    kept_events [] w can ranged kept = kept
    kept_events (e ∷ es) w can ranged kept = kept_events es (net_step node e w).0 can.1 ranged.1 (kept_event e w can.0 ranged.0 kept)
