-- Each event of a network keeps the duties of all links.
use Rattle.std.proofs.Common.{◌≡◌, ℕ, ◌-◌, Bool, true, false, List, [], ◌++◌, refl, sym, ap, subst, ◌∙◌}
use Rattle.std.specs.Prelude.{Option, Some, None, option_map, slice_get}
use Rattle.std.proofs.lemmas.List.{append-nil}
use Rattle.srp_base.proofs.Options.{one_some}
use Rattle.srp_base.specs.declared.{numbers.NodeNo.NodeNo, numbers.EgressPort.EgressPort}
use Rattle.tree_topology.specs.{Topology.HasPort, Ports.peer_of, PortLaws.HasPortLaws}
use Rattle.attribute_propagation.specs.Ports.{place_of}
use Rattle.mrp_participant.specs.Link.{with_repeat}
use Rattle.link_net.specs.declared.events.NetEvent.{NetEvent}
use Rattle.link_net.specs.declared.events.NetEvent.TheVariants as events
use Rattle.link_net.specs.{NodeMeaning, IsSameAt, LeavesOthers, HasNodeLaws, without, with_one, carried_at, repeated_at, next_of, NetState, node_at, with_changed, with_ends, outbox, name_in, reaches, after_loss, after_repeat, after_forgery, after_carrying, after_clock, net_step, CanHappen, AreDutiesMet}
use Rattle.link_net.proofs.{Nodes.IsSameAtPort, Nodes.Fits, Nodes.by_states, Nodes.by_node, Nodes.inbox_is, Nodes.outbox_is, Nodes.same_port, Nodes.node_of, Nodes.get_mapped, Moved.AreMetBetween, Moved.nowhere, Moved.same_lists, Moved.moved_keeps, Moved.near_moves, Moved.both_move}

module _ {Name Step Reply Request Pdu : Type 0} (node : NodeMeaning Name Step Reply Request Pdu) (laws : HasNodeLaws node) where
  same_apart : (s t u : node.State) (k : ℕ) → IsSameAt node k s t → IsSameAt node k t u → IsSameAt node k s u
  same_apart s t u k a b = record { part = λ n. b.part n ∙ a.part n; inbox = b.inbox ∙ a.inbox; outbox = b.outbox ∙ a.outbox }

  -- an inbox that becomes what is made of the state leaves the other places
  boxed : (at : ℕ) (make : node.State → List Pdu) → LeavesOthers node at (λ s. node.with_inbox at (make s) s)
  boxed at make = record { ports = λ s. (laws.places.inbox at (make s)).ports s; places = λ k s ne. (laws.places.inbox at (make s)).places k s ne }

  -- ---- at both ends of a link

  module _ (e : EgressPort) (w : NetState node.State) (ports : HasPortLaws w.tree) (has : HasPort w.tree e) (fits : Fits node w) (n : Name) (met : AreDutiesMet node n w) where
    abbrev q : EgressPort
    q = peer_of w.tree.links e

    abbrev s : node.State
    s = (node_of node w fits e has).state

    abbrev t : node.State
    t = (node_of node w fits q (ports.peer_port e has)).state

    abbrev at : ℕ
    at = place_of e.port

    abbrev k : ℕ
    k = place_of q.port

    -- where the port's node alone becomes another, at the port's place
    near_keeps : (change : node.State → node.State) → LeavesOthers node (place_of e.port) change
        → ((x y far : node.Part n) → node.part_at n (place_of e.port) s ≡ Some x → node.part_at n (place_of e.port) (change s) ≡ Some y
        → AreMetBetween node n (place_of e.port) (place_of q.port) s t x far → AreMetBetween node n (place_of e.port) (place_of q.port) (change s) t y far)
        → AreDutiesMet node n (with_changed e.node change w)
    near_keeps change others keeps =
        moved_keeps node laws n e w (with_changed e.node change w) ports has fits (change s) t (near_moves node e w ports has fits change others)
        (λ x y far other old new there here m. keeps x y other old new
        (subst (λ (z : node.Part n). AreMetBetween node n (place_of e.port) (place_of q.port) s t x z) (one_some _ far other there here) m)) met

    -- a step of the port
    pub met_port : (step : Step) → AreDutiesMet node n (net_step node (events.Port e step) w).0
    met_port step =
        let here = node_of node w fits e has in
        near_keeps (λ s. (node.stepped w.clock step (place_of e.port) s).0) (laws.places.step w.clock step (place_of e.port))
        (λ x y far old new m. laws.duties.step here.fits.kind w.clock step (place_of e.port) s n x y far (node.inbox (place_of q.port) t) (node.outbox (place_of q.port) t) here.fits.kept old new m)

    -- a copy behind its original
    pub met_repeat : (index : ℕ) (o : Option Name) → AreDutiesMet node n (after_repeat node e index o w).0
    met_repeat index None = met
    met_repeat index (Some name) =
        near_keeps (repeated_at node (place_of e.port) index) (boxed (place_of e.port) (λ s. with_repeat index (node.inbox (place_of e.port) s)))
        (λ x y far old new m.
        let at = place_of e.port in
        let k = place_of q.port in
        let here = node_of node w fits e has in
        let twice = with_repeat index (node.inbox at s) in
        let same : x ≡ y = one_some _ x y old (sym (laws.boxes.in_part n at twice s) ∙ new) in
        let sent = laws.boxes.in_out at twice s in
        let came = laws.keeps.inbox here.fits.kind w.clock at twice s here.fits.kept here.below in
        subst (λ (ws : List Pdu). node.duties n y far (node.inbox k t ++ ws) (node.inbox at (repeated_at node at index s) ++ node.outbox k t)) (sym sent)
        (subst (λ (ws : List Pdu). node.duties n y far (node.inbox k t ++ node.outbox at s) (ws ++ node.outbox k t)) (sym came)
        (laws.duties.repeats n y far (node.inbox k t ++ node.outbox at s) (node.inbox at s) (node.outbox k t) index
        (subst (λ (p : node.Part n). AreMetBetween node n at k s t p far) same m))))

    -- the inbox becomes another, and neither end is sound any more in an application
    module _ (made : ℕ → node.State → List Pdu) (name : Name) where
      abbrev spoilt_with : ℕ → node.State → node.State
      spoilt_with i s = node.spoilt name i (node.with_inbox i (made i s) s)

      spoilt_others : (i : ℕ) → LeavesOthers node i (spoilt_with i)
      spoilt_others i =
          record {
            ports = λ s. (laws.places.spoils name i).ports (node.with_inbox i (made i s) s) ∙ (laws.places.inbox i (made i s)).ports s;
            places = λ k s ne.
                same_apart s (node.with_inbox i (made i s) s) (spoilt_with i s) k ((laws.places.inbox i (made i s)).places k s ne)
                ((laws.places.spoils name i).places k (node.with_inbox i (made i s) s) ne);
          }

      -- the duties of the link stay over the other inbox
      abbrev KeepsSpoilt : Type 0
      KeepsSpoilt =
          (u : node.State) (x y far other : node.Part n) → node.part_at n at u ≡ Some x → node.part_at n at (node.spoilt name at u) ≡ Some y
          → node.part_at n k t ≡ Some far → node.part_at n k (node.spoilt name k t) ≡ Some other
          → AreMetBetween node n at k s t x far → node.duties n y other (node.inbox k t ++ node.outbox at s) (made at s ++ node.outbox k t)

      met_spoilt : KeepsSpoilt → AreDutiesMet node n (with_ends e spoilt_with (node.spoilt name) w)
      met_spoilt keeps =
          moved_keeps node laws n e w (with_ends e spoilt_with (node.spoilt name) w) ports has fits (spoilt_with at s) (node.spoilt name k t)
          (both_move node e w ports has fits spoilt_with (node.spoilt name) spoilt_others (laws.places.spoils name))
          (λ x y z other old new there after m.
          let after_it = node.with_inbox at (made at s) s in
          let here = node_of node w fits e has in
          let came : node.inbox at (spoilt_with at s) ≡ made at s
          = laws.boxes.spoilt_in name at after_it ∙ laws.keeps.inbox here.fits.kind w.clock at (made at s) s here.fits.kept here.below in
          let sent : node.outbox at (spoilt_with at s) ≡ node.outbox at s = laws.boxes.spoilt_out name at after_it ∙ laws.boxes.in_out at (made at s) s in
          same_lists node n y other _ _ _ _ _ _ _ _ (sym (laws.boxes.spoilt_in name k t)) (sym sent) (sym came) (sym (laws.boxes.spoilt_out name k t))
          (keeps after_it x y z other (laws.boxes.in_part n at (made at s) s ∙ old) new there after m)) met

    -- a PDU is lost
    pub met_lose : (index : ℕ) (o : Option Name) → name_in node e index w ≡ o → AreDutiesMet node n (after_loss node e index o w).0
    met_lose index None is = met
    met_lose index (Some lost) is =
        met_spoilt (λ i s. without index (node.inbox i s)) lost
        (λ u x y far other old new there after m.
        laws.duties.loses n lost at k u t x y far other (node.inbox k t ++ node.outbox at s) (node.inbox at s) (node.outbox k t) index old new there after
        (ap (λ (ws : List Pdu). option_map node.name_of (slice_get ws index)) (sym (inbox_is node e w s (node_of node w fits e has).is)) ∙ is) m)

    -- a PDU is forged
    pub met_forge : (index : ℕ) (pdu : Pdu) (b : Bool) → AreDutiesMet node n (after_forgery node e index pdu b w).0
    met_forge index pdu false = met
    met_forge index pdu true =
        met_spoilt (λ i s. with_one index pdu (node.inbox i s)) (node.name_of pdu)
        (λ u x y far other old new there after m.
        laws.duties.forges n (node.name_of pdu) at k u t x y far other (node.inbox k t ++ node.outbox at s) (node.inbox at s) (node.outbox k t) index pdu old new there after refl m)

    -- the PDUs of the outbox come in at the far end
    pub met_carry : AreDutiesMet node n (after_carrying node e w)
    met_carry =
        moved_keeps node laws n e w (after_carrying node e w) ports has fits (node.with_outbox at [] s) (carried_at node k (outbox node e w) t)
        (both_move node e w ports has fits (λ at. node.with_outbox at []) (λ at. carried_at node at (outbox node e w)) (λ at. laws.places.outbox at [])
        (λ at. boxed at (λ s. node.inbox at s ++ outbox node e w)))
        (λ x y z other old new there after m.
        let here = node_of node w fits e has in
        let far = node_of node w fits q (ports.peer_port e has) in
        let more = node.inbox k t ++ outbox node e w in
        let near_same : x ≡ y = one_some _ x y old (sym (laws.boxes.out_part n at [] s) ∙ new) in
        let far_same : z ≡ other = one_some _ z other there (sym (laws.boxes.in_part n k more t) ∙ after) in
        let came : node.inbox k t ++ node.outbox at s ≡ node.inbox k (carried_at node k (outbox node e w) t)
        = ap (λ (ws : List Pdu). node.inbox k t ++ ws) (sym (outbox_is node e w s here.is)) ∙ sym (laws.keeps.inbox far.fits.kind w.clock k more t far.fits.kept far.below) in
        subst (λ (p : node.Part n). AreMetBetween node n at k (node.with_outbox at [] s) (carried_at node k (outbox node e w) t) p other) near_same
        (subst (λ (p : node.Part n). AreMetBetween node n at k (node.with_outbox at [] s) (carried_at node k (outbox node e w) t) x p) far_same
        (same_lists node n x z _ _ _ _ _ _ _ _ came (sym (laws.keeps.outbox here.fits.kind w.clock at [] s here.fits.kept here.below)) (sym (laws.boxes.out_in at [] s)) (sym (laws.boxes.in_out k more t))
        (subst (λ (ws : List Pdu). node.duties n x z ws (node.inbox at s ++ node.outbox k t)) (sym (append-nil (node.inbox k t ++ node.outbox at s))) m))))
        met

  -- ---- a request, and the clock

  met_request : (m : NodeNo) (request : Request) (w : NetState node.State) → HasPortLaws w.tree → (n : Name) → AreDutiesMet node n w
      → AreDutiesMet node n (net_step node (events.Request m request) w).0
  met_request m request w ports n met =
      let change : node.State → node.State = λ s. (node.asked request s).0 in
      nowhere node n w (with_changed m change w) ports refl (λ p has. same_port node m change w p (λ s is at. (laws.places.request request).places (place_of p.port) s)) met

  met_clock : (w : NetState node.State) → HasPortLaws w.tree → (n : Name) → AreDutiesMet node n w → AreDutiesMet node n (after_clock node w)
  met_clock w ports n met = nowhere node n w (after_clock node w) ports refl same met
    where
      ticked : node.State → node.State
      ticked s = node.ticked (next_of w.clock) s

      same : (p : EgressPort) → HasPort w.tree p → IsSameAtPort node p w (after_clock node w)
      same p has = by (node_at p.node w) refl
        where
          by : (o : Option node.State) → node_at p.node w ≡ o → IsSameAtPort node p w (after_clock node w)
          by None is = by_node node p w (after_clock node w) (get_mapped ticked w.nodes (p.node.0 - 1) ∙ (ap (option_map ticked) is ∙ sym is))
          by (Some s) is =
              by_states node p w (after_clock node w) s (ticked s) is (get_mapped ticked w.nodes (p.node.0 - 1) ∙ ap (option_map ticked) is)
              ((laws.places.tick (next_of w.clock)).places (place_of p.port) s)

  -- ---- every event

  pub met_event : (event : NetEvent Request Step Pdu) (w : NetState node.State) → HasPortLaws w.tree → CanHappen node event w → Fits node w
      → ((n : Name) → AreDutiesMet node n w) → (n : Name) → AreDutiesMet node n (net_step node event w).0
  met_event (events.Request m request) w ports can fits met n = met_request m request w ports n (met n)
  met_event (events.Port p step) w ports can fits met n = met_port p w ports can fits n (met n) step
  met_event (events.Lose p index) w ports can fits met n = met_lose p w ports can fits n (met n) index (name_in node p index w) refl
  met_event (events.Repeat p index) w ports can fits met n = met_repeat p w ports can fits n (met n) index (name_in node p index w)
  met_event (events.Forge p index pdu) w ports can fits met n = met_forge p w ports can.0 fits n (met n) index pdu (reaches node p index w)
  met_event (events.Carry p) w ports can fits met n = met_carry p w ports can fits n (met n)
  met_event events.Clock w ports can fits met n = met_clock w ports n (met n)
