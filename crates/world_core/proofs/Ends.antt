-- What changes at the two ends of one link, and nowhere else, keeps the duties of all links in an application if it keeps those
-- of this one.
use Rattle.std.proofs.Common.{◌≡◌, ◌≢◌, ◌⊎◌, inl, inr, ℕ, ◌<◌, List, ◌++◌, refl, sym, ap, subst, ◌∙◌, arith}
use Rattle.std.specs.Prelude.{Some, option_map}
use Rattle.srp_base.specs.declared.numbers.EgressPort.{EgressPort}
use Rattle.tree_topology.specs.{Topology.Topology, Topology.HasPort, Ports.peer_of, PortLaws.HasPortLaws}
use Rattle.mrp_participant.specs.{MarkedLink.MarkedLink, MarkedLink.AreMarkedDutiesMet, MarkedLink.other_marked_view, State.State}
use Rattle.tree_topology.proofs.EgressPorts.{decide_port, other_place, other_node}
use Rattle.attribute_propagation.specs.Ports.{place_of}
use Rattle.node_core.specs.declared.types.Wire.{Wire}
use Rattle.node_core.specs.{Proper.IsProperNode, State.NodeState, State.box_at, State.ports_of}
use Rattle.world_core.specs.{WorldState, node_at, with_changed, inbox, outbox, EndMark, MarksState, BothMarks, mark_at, part_at, marked_link}
use Rattle.world_core.proofs.{Views.AppView, Views.AreMet, Views.Met, Views.Boxed, Views.KeepsLink, Views.met_same, Nodes.Base, Nodes.SameAt, Nodes.SameAtPort, Nodes.same_port, Nodes.node_same, Nodes.node_there, Nodes.part_there, Nodes.part_is, Nodes.inbox_is, Nodes.outbox_is}

module _ {K C : Type 0} (v : AppView K C) where
  -- what a port's link keeps in a network over a tree, with these marks
  abbrev pub MetAt : Topology → MarksState → WorldState → EgressPort → Type 0
  MetAt tree m w p =
      (near far : State K C) → part_at v.part p w ≡ Some near → part_at v.part (peer_of tree.links p) w ≡ Some far
      → Boxed v near far (inbox (peer_of tree.links p) w) (outbox p w)
      (inbox (peer_of tree.links (peer_of tree.links p)) w) (outbox (peer_of tree.links p) w)
      (mark_at v.app p m, mark_at v.app (peer_of tree.links p) m)

  abbrev pub MetOn : Topology → MarksState → WorldState → Type 0
  MetOn tree m w = (p : EgressPort) → HasPort tree p → MetAt tree m w p

  -- the other end of a link keeps the same
  abbrev pub Turns : Type 0
  Turns = (l : MarkedLink K C) → AreMarkedDutiesMet v.cmp l → AreMarkedDutiesMet v.cmp (other_marked_view l)

  turned : Turns → (x z : State K C) (sent coming : List Wire) (marks : BothMarks) → Met v x z sent coming marks → Met v z x coming sent (marks.1, marks.0)
  turned turns x z sent coming marks met =
      record {
        duties = turns (marked_link v.said x z sent coming marks) met.duties;
        near_flying = met.far_flying;
        far_flying = met.near_flying;
        near_clear = met.far_clear;
        far_clear = met.near_clear;
      }

  module _ (tree : Topology) (laws : HasPortLaws tree) (turns : Turns) (w u : WorldState) (m m' : MarksState) (e : EgressPort) (has : HasPort tree e)
      (same : (p : EgressPort) → HasPort tree p → p ≢ e → p ≢ peer_of tree.links e → SameAtPort v p w u)
      (same_marks : (p : EgressPort) → HasPort tree p → p ≢ e → p ≢ peer_of tree.links e → mark_at v.app p m' ≡ mark_at v.app p m)
      (met : MetOn tree m w)
      (here : (near far : State K C) → part_at v.part e u ≡ Some near → part_at v.part (peer_of tree.links e) u ≡ Some far
      → Boxed v near far (inbox (peer_of tree.links e) u) (outbox e u) (inbox e u) (outbox (peer_of tree.links e) u)
      (mark_at v.app e m', mark_at v.app (peer_of tree.links e) m')) where
    at_end : MetAt tree m' u e
    at_end near far a b =
        subst (λ (r : EgressPort). Boxed v near far (inbox (peer_of tree.links e) u) (outbox e u) (inbox r u) (outbox (peer_of tree.links e) u)
        (mark_at v.app e m', mark_at v.app (peer_of tree.links e) m'))
        (sym (laws.peer_twice e has)) (here near far a b)

    at_peer : MetAt tree m' u (peer_of tree.links e)
    at_peer near far a b =
        let q = peer_of tree.links e in
        let back : part_at v.part e u ≡ Some far = ap (λ (r : EgressPort). part_at v.part r u) (sym (laws.peer_twice e has)) ∙ b in
        subst (λ (r : EgressPort). Boxed v near far (inbox (peer_of tree.links q) u) (outbox q u) (inbox (peer_of tree.links r) u) (outbox r u) (mark_at v.app q m', mark_at v.app r m'))
        (sym (laws.peer_twice e has))
        (turned turns far near (inbox q u ++ outbox e u) (inbox (peer_of tree.links q) u ++ outbox q u) (mark_at v.app e m', mark_at v.app q m') (at_end far near back a))

    elsewhere : (p : EgressPort) → HasPort tree p → p ≢ e → p ≢ peer_of tree.links e → MetAt tree m' u p
    elsewhere p here_too ne nq near far a b =
        let q = peer_of tree.links p in
        let back = laws.peer_twice p here_too in
        let other_e : q ≢ e = λ i. nq (sym back ∙ ap (peer_of tree.links) i) in
        let other_q : q ≢ peer_of tree.links e = λ i. ne (sym back ∙ (ap (peer_of tree.links) i ∙ laws.peer_twice e has)) in
        let sp = same p here_too ne nq in
        let sq = same q (laws.peer_port p here_too) other_e other_q in
        let mp = same_marks p here_too ne nq in
        let mq = same_marks q (laws.peer_port p here_too) other_e other_q in
        subst (λ (x : EndMark). Boxed v near far (inbox q u) (outbox p u) (inbox (peer_of tree.links q) u) (outbox q u) (x, mark_at v.app q m')) (sym mp)
        (subst (λ (y : EndMark). Boxed v near far (inbox q u) (outbox p u) (inbox (peer_of tree.links q) u) (outbox q u) (mark_at v.app p m, y)) (sym mq)
        (met_same v (mark_at v.app p m, mark_at v.app q m) near near far far (inbox q w) (inbox q u) (outbox p w) (outbox p u)
        (inbox (peer_of tree.links q) w) (inbox (peer_of tree.links q) u) (outbox q w) (outbox q u)
        refl refl (sym sq.inbox) (sym sp.outbox)
        (ap (λ (r : EgressPort). inbox r w) back ∙ (sym sp.inbox ∙ ap (λ (r : EgressPort). inbox r u) (sym back))) (sym sq.outbox)
        (met p here_too near far (sym sp.part ∙ a) (sym sq.part ∙ b))))

    pub one_link : MetOn tree m' u
    one_link p has_p = by (decide_port p e) (decide_port p (peer_of tree.links e))
      where
        by : (p ≡ e) ⊎ (p ≢ e) → (p ≡ peer_of tree.links e) ⊎ (p ≢ peer_of tree.links e) → MetAt tree m' u p
        by (inl i) other = subst (MetAt tree m' u) (sym i) at_end
        by (inr ne) (inl i) = subst (MetAt tree m' u) (sym i) at_peer
        by (inr ne) (inr nq) = elsewhere p has_p ne nq

  -- the same of a network over the same tree, with these marks
  pub on_tree : (tree : Topology) (m : MarksState) (u : WorldState) → u.tree ≡ tree → u.marks ≡ m → MetOn tree m u → AreMet v u
  on_tree tree m u e f met = subst (λ (t : Topology). MetOn t u.marks u) (sym e) (subst (λ (x : MarksState). MetOn tree x u) (sym f) met)

  -- where nothing changes at any port
  pub nowhere : (w u : WorldState) → HasPortLaws w.tree → u.tree ≡ w.tree → u.marks ≡ w.marks → ((p : EgressPort) → HasPort w.tree p → SameAtPort v p w u) → AreMet v w → AreMet v u
  nowhere w u laws e f same met = on_tree w.tree w.marks u e f (λ p has near far a b.
      let q = peer_of w.tree.links p in
      let sp = same p has in
      let sq = same q (laws.peer_port p has) in
      let sr = same (peer_of w.tree.links q) (laws.peer_port q (laws.peer_port p has)) in
      met_same v (mark_at v.app p w.marks, mark_at v.app q w.marks) near near far far _ _ _ _ _ _ _ _ refl refl (sym sq.inbox) (sym sp.outbox) (sym sr.inbox) (sym sq.outbox)
      (met p has near far (sym sp.part ∙ a) (sym sq.part ∙ b)))

  -- ---- a node changes at the place of one port

  pub duties_changed : Turns → ((at : ℕ) (s : NodeState) → IsProperNode s → at < ports_of s → (x : State K C) × (v.part at s ≡ Some x))
      → (w : WorldState) → HasPortLaws w.tree → Base w → AreMet v w → (e : EgressPort) → HasPort w.tree e → (change : NodeState → NodeState)
      → (after : NodeState → BothMarks → BothMarks) (m' : MarksState)
      → ((s : NodeState) → node_at e.node w ≡ Some s → (mark_at v.app e m', mark_at v.app (peer_of w.tree.links e) m')
      ≡ after s (mark_at v.app e w.marks, mark_at v.app (peer_of w.tree.links e) w.marks))
      → ((p : EgressPort) → HasPort w.tree p → p ≢ e → p ≢ peer_of w.tree.links e → mark_at v.app p m' ≡ mark_at v.app p w.marks)
      → ((s : NodeState) → node_at e.node w ≡ Some s → (k : ℕ) → place_of e.port ≢ k → SameAt v k s (change s))
      → ((s : NodeState) → node_at e.node w ≡ Some s → KeepsLink v (place_of e.port) s (change s) (after s))
      → MetOn w.tree m' (with_changed e.node change w)
  duties_changed turns parts w laws base met e has change after m' marks_here marks_else others keeps =
      one_link w.tree laws turns w (with_changed e.node change w) w.marks m' e has same marks_else met here
    where
      same : (p : EgressPort) → HasPort w.tree p → p ≢ e → p ≢ peer_of w.tree.links e → SameAtPort v p w (with_changed e.node change w)
      same p hp ne nq = same_port v e.node change w p (λ s is nodes. others s is (place_of p.port) (other_place w.tree p e hp has nodes ne))

      far_same : SameAtPort v (peer_of w.tree.links e) w (with_changed e.node change w)
      far_same = same_port v e.node change w (peer_of w.tree.links e) (λ s is nodes.
          let some = has.0.0 in
          let peer = laws.peer_port e has in
          let first = peer.0.0 in
          absurd (other_node w.tree laws e has (omega (arith, nodes, some, first))))

      here : (near far : State K C) → part_at v.part e (with_changed e.node change w) ≡ Some near → part_at v.part (peer_of w.tree.links e) (with_changed e.node change w) ≡ Some far
          → Boxed v near far (inbox (peer_of w.tree.links e) (with_changed e.node change w)) (outbox e (with_changed e.node change w))
          (inbox e (with_changed e.node change w)) (outbox (peer_of w.tree.links e) (with_changed e.node change w))
          (mark_at v.app e m', mark_at v.app (peer_of w.tree.links e) m')
      here near far a b =
          let u = with_changed e.node change w in
          let q = peer_of w.tree.links e in
          let there = node_there w base e has in
          let s = there.0 in
          let is = there.1 in
          let new : node_at e.node u ≡ Some (change s) = node_same e.node change w ∙ ap (option_map change) is in
          let old = part_there v parts w base e has s is in
          let marks : BothMarks = (mark_at v.app e w.marks, mark_at v.app q w.marks) in
          let before : Boxed v old.0 far (inbox q w) (box_at (place_of e.port) s.outboxes) (box_at (place_of e.port) s.inboxes) (outbox q w) marks
          = met_same v marks old.0 old.0 far far (inbox q w) (inbox q w) (outbox e w) (box_at (place_of e.port) s.outboxes)
          (inbox (peer_of w.tree.links q) w) (box_at (place_of e.port) s.inboxes) (outbox q w) (outbox q w)
          refl refl refl (outbox_is e w s is) (ap (λ (r : EgressPort). inbox r w) (laws.peer_twice e has) ∙ inbox_is e w s is) refl
          (met e has old.0 far (part_is v e w s is ∙ old.1) (sym far_same.part ∙ b)) in
          subst (λ (ms : BothMarks). Boxed v near far (inbox q u) (outbox e u) (inbox e u) (outbox q u) ms) (sym (marks_here s is))
          (met_same v (after s marks) near near far far (inbox q w) (inbox q u) (box_at (place_of e.port) (change s).outboxes)
          (outbox e u) (box_at (place_of e.port) (change s).inboxes) (inbox e u) (outbox q w) (outbox q u)
          refl refl (sym far_same.inbox) (sym (outbox_is e u (change s) new)) (sym (inbox_is e u (change s) new)) (sym far_same.outbox)
          (keeps s is old.0 near far (inbox q w) (outbox q w) marks old.1 (sym (part_is v e u (change s) new) ∙ a) before))
