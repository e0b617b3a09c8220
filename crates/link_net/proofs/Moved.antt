-- What an event changes: the nodes at the two ends of one link, each at its place. All duties stay if those of this link do.
use Rattle.std.proofs.Common.{◌≡◌, ◌≢◌, ◌⊎◌, inl, inr, ℕ, ◌-◌, List, ◌++◌, refl, sym, ap, subst, ◌∙◌, arith}
use Rattle.std.specs.Prelude.{Some, option_map}
use Rattle.srp_base.specs.declared.numbers.EgressPort.{EgressPort}
use Rattle.tree_topology.specs.{Topology.Topology, Topology.HasPort, Ports.peer_of, PortLaws.HasPortLaws}
use Rattle.tree_topology.proofs.EgressPorts.{decide_port, other_place, other_node}
use Rattle.attribute_propagation.specs.Ports.{place_of}
use Rattle.link_net.specs.{NodeMeaning, LeavesOthers, HasNodeLaws, NetState, node_at, with_changed, with_ends, part_at, inbox, outbox, AreDutiesMet}
use Rattle.link_net.proofs.Nodes.{IsSameAtPort, Fits, NodeOf, inbox_is, outbox_is, part_is, same_then, same_port, node_same, node_other, node_of}

module _ {Name Step Reply Request Pdu : Type 0} (node : NodeMeaning Name Step Reply Request Pdu) where
  -- the duties of the link between two nodes, each at a place
  abbrev pub AreMetBetween : (n : Name) (at k : ℕ) (s t : node.State) (near far : node.Part n) → Type 0
  AreMetBetween n at k s t near far = node.duties n near far (node.inbox k t ++ node.outbox at s) (node.inbox at s ++ node.outbox k t)

  -- they stay where the nodes become others
  abbrev pub KeepsBetween : (n : Name) (at k : ℕ) (s t s' t' : node.State) → Type 0
  KeepsBetween n at k s t s' t' =
      (x y : node.Part n) (far other : node.Part n) → node.part_at n at s ≡ Some x → node.part_at n at s' ≡ Some y → node.part_at n k t ≡ Some far → node.part_at n k t' ≡ Some other
      → AreMetBetween n at k s t x far → AreMetBetween n at k s' t' y other

  -- a network becomes another: at the ends of a port's link the nodes become these, and all other ports have the same
  pub record Moved (e : EgressPort) (w u : NetState node.State) (s' t' : node.State) : Type 0 where
    pub tree_is : u.tree ≡ w.tree
    pub near_is : node_at e.node u ≡ Some s'
    pub far_is : node_at (peer_of w.tree.links e).node u ≡ Some t'
    pub others : (p : EgressPort) → HasPort w.tree p → p ≢ e → p ≢ peer_of w.tree.links e → IsSameAtPort node p w u

  -- the duties of a port's link, in a network over a tree
  abbrev MetAt : Name → Topology → NetState node.State → EgressPort → Type 0
  MetAt n tree w p =
      let q = peer_of tree.links p in
      (near far : node.Part n) → part_at node n p w ≡ Some near → part_at node n q w ≡ Some far
      → node.duties n near far (inbox node q w ++ outbox node p w) (inbox node (peer_of tree.links q) w ++ outbox node q w)

  -- lists of PDUs that are the same
  pub same_lists : (n : Name) (near far : node.Part n) (a a' b b' c c' d d' : List Pdu) → a ≡ a' → b ≡ b' → c ≡ c' → d ≡ d'
      → node.duties n near far (a ++ b) (c ++ d) → node.duties n near far (a' ++ b') (c' ++ d')
  same_lists n near far a a' b b' c c' d d' ea eb ec ed met =
      subst (λ (ws : List Pdu). node.duties n near far (ws ++ b') (c' ++ d')) ea
      (subst (λ (ws : List Pdu). node.duties n near far (a ++ ws) (c' ++ d')) eb
      (subst (λ (ws : List Pdu). node.duties n near far (a ++ b) (ws ++ d')) ec
      (subst (λ (ws : List Pdu). node.duties n near far (a ++ b) (c ++ ws)) ed met)))

  -- ---- where nothing changes at any port

  pub nowhere : (n : Name) (w u : NetState node.State) → HasPortLaws w.tree → u.tree ≡ w.tree → ((p : EgressPort) → HasPort w.tree p → IsSameAtPort node p w u)
      → AreDutiesMet node n w → AreDutiesMet node n u
  nowhere n w u ports tree same met =
      subst (λ (t : Topology). (p : EgressPort) → HasPort t p → MetAt n t u p) (sym tree) (λ p has near far a b.
      let q = peer_of w.tree.links p in
      let sp = same p has in
      let sq = same q (ports.peer_port p has) in
      let sr = same (peer_of w.tree.links q) (ports.peer_port q (ports.peer_port p has)) in
      same_lists n near far _ _ _ _ _ _ _ _ (sym sq.inbox) (sym sp.outbox) (sym sr.inbox) (sym sq.outbox)
      (met p has near far (sym (sp.part n) ∙ a) (sym (sq.part n) ∙ b)))

  -- ---- where the two ends of a link move

  module _ (laws : HasNodeLaws node) (n : Name) (e : EgressPort) (w u : NetState node.State) (ports : HasPortLaws w.tree) (has : HasPort w.tree e) (fits : Fits node w)
      (s' t' : node.State) (moved : Moved e w u s' t') where
    abbrev q : EgressPort
    q = peer_of w.tree.links e

    abbrev near_node : NodeOf node e w
    near_node = node_of node w fits e has

    abbrev far_node : NodeOf node q w
    far_node = node_of node w fits q (ports.peer_port e has)

    at_end : AreDutiesMet node n w → KeepsBetween n (place_of e.port) (place_of q.port) near_node.state far_node.state s' t' → MetAt n w.tree u e
    at_end met keeps near far a b =
        let s = near_node.state in
        let t = far_node.state in
        let x = laws.keeps.part near_node.fits.kind w.clock n (place_of e.port) s near_node.fits.kept near_node.below in
        let z = laws.keeps.part far_node.fits.kind w.clock n (place_of q.port) t far_node.fits.kept far_node.below in
        let twice = ports.peer_twice e has in
        let before : AreMetBetween n (place_of e.port) (place_of q.port) s t x.0 z.0
        = same_lists n x.0 z.0 _ _ _ _ _ _ _ _ (inbox_is node q w t far_node.is) (outbox_is node e w s near_node.is)
        (ap (λ (r : EgressPort). inbox node r w) twice ∙ inbox_is node e w s near_node.is) (outbox_is node q w t far_node.is)
        (met e has x.0 z.0 (part_is node n e w s near_node.is ∙ x.1) (part_is node n q w t far_node.is ∙ z.1)) in
        same_lists n near far _ _ _ _ _ _ _ _ (sym (inbox_is node q u t' moved.far_is)) (sym (outbox_is node e u s' moved.near_is))
        (sym (ap (λ (r : EgressPort). inbox node r u) twice ∙ inbox_is node e u s' moved.near_is)) (sym (outbox_is node q u t' moved.far_is))
        (keeps x.0 near z.0 far x.1 (sym (part_is node n e u s' moved.near_is) ∙ a) z.1 (sym (part_is node n q u t' moved.far_is) ∙ b) before)

    at_peer : MetAt n w.tree u e → MetAt n w.tree u q
    at_peer here near far a b =
        let back = ports.peer_twice e has in
        let far_is : part_at node n e u ≡ Some far = ap (λ (r : EgressPort). part_at node n r u) (sym back) ∙ b in
        laws.duties.turns n far near _ _
        (subst (λ (r : EgressPort). node.duties n far near (inbox node (peer_of w.tree.links r) u ++ outbox node r u) (inbox node (peer_of w.tree.links q) u ++ outbox node q u)) (sym back)
        (here far near far_is a))

    elsewhere : AreDutiesMet node n w → (p : EgressPort) → HasPort w.tree p → p ≢ e → p ≢ q → MetAt n w.tree u p
    elsewhere met p hp ne nq near far a b =
        let r = peer_of w.tree.links p in
        let back = ports.peer_twice p hp in
        let sp = moved.others p hp ne nq in
        let sr = moved.others r (ports.peer_port p hp)
        (λ i. nq (sym back ∙ ap (peer_of w.tree.links) i))
        (λ i. ne (sym back ∙ (ap (peer_of w.tree.links) i ∙ ports.peer_twice e has))) in
        same_lists n near far _ _ _ _ _ _ _ _ (sym sr.inbox) (sym sp.outbox)
        (sym (ap (λ (r : EgressPort). inbox node r u) back ∙ (sp.inbox ∙ ap (λ (r : EgressPort). inbox node r w) (sym back)))) (sym sr.outbox)
        (met p hp near far (sym (sp.part n) ∙ a) (sym (sr.part n) ∙ b))

    pub moved_keeps : KeepsBetween n (place_of e.port) (place_of q.port) near_node.state far_node.state s' t' → AreDutiesMet node n w → AreDutiesMet node n u
    moved_keeps keeps met =
        subst (λ (t : Topology). (p : EgressPort) → HasPort t p → MetAt n t u p) (sym moved.tree_is)
        (λ p hp. by p hp (decide_port p e) (decide_port p q))
      where
        here : MetAt n w.tree u e
        here = at_end met keeps

        by : (p : EgressPort) → HasPort w.tree p → (p ≡ e) ⊎ (p ≢ e) → (p ≡ q) ⊎ (p ≢ q) → MetAt n w.tree u p
        by p hp (inl i) other = subst (MetAt n w.tree u) (sym i) here
        by p hp (inr ne) (inl i) = subst (MetAt n w.tree u) (sym i) (at_peer here)
        by p hp (inr ne) (inr nq) = elsewhere met p hp ne nq

  -- ---- who moves

  module _ (e : EgressPort) (w : NetState node.State) (ports : HasPortLaws w.tree) (has : HasPort w.tree e) (fits : Fits node w) where
    abbrev far_end : EgressPort
    far_end = peer_of w.tree.links e

    abbrev near_state : node.State
    near_state = (node_of node w fits e has).state

    abbrev far_state : node.State
    far_state = (node_of node w fits far_end (ports.peer_port e has)).state

    -- the ends of a link are at two nodes
    apart : e.node.0 - 1 ≢ far_end.node.0 - 1
    apart is =
        let some = has.0.0 in
        let peer = ports.peer_port e has in
        let first = peer.0.0 in
        other_node w.tree ports e has (omega (arith, is, some, first))

    -- the node of the port, at its place
    pub near_moves : (change : node.State → node.State) → LeavesOthers node (place_of e.port) change → Moved e w (with_changed e.node change w) (change near_state) far_state
    near_moves change others =
        record {
          tree_is = refl;
          near_is = node_same e.node change w ∙ ap (option_map change) (node_of node w fits e has).is;
          far_is = node_other e.node change w far_end.node apart ∙ (node_of node w fits far_end (ports.peer_port e has)).is;
          others = λ p hp ne nq. same_port node e.node change w p (λ s is nodes. others.places (place_of p.port) s (other_place w.tree p e hp has nodes ne));
        }

    -- both
    pub both_move : (near far : ℕ → node.State → node.State) → ((at : ℕ) → LeavesOthers node at (near at)) → ((at : ℕ) → LeavesOthers node at (far at))
        → Moved e w (with_ends e near far w) (near (place_of e.port) near_state) (far (place_of far_end.port) far_state)
    both_move near far near_others far_others =
        let q = far_end in
        let has_q = ports.peer_port e has in
        let between = with_changed e.node (near (place_of e.port)) w in
        let first = near_moves (near (place_of e.port)) (near_others (place_of e.port)) in
        record {
          tree_is = refl;
          near_is = node_other q.node (far (place_of q.port)) between e.node (λ i. apart (sym i)) ∙ first.near_is;
          far_is = node_same q.node (far (place_of q.port)) between ∙ ap (option_map (far (place_of q.port))) first.far_is;
          others = λ p hp ne nq.
              same_then node p w between (with_ends e near far w) (first.others p hp ne nq)
              (same_port node q.node (far (place_of q.port)) between p (λ s is nodes. (far_others (place_of q.port)).places (place_of p.port) s (other_place w.tree p q hp has_q nodes nq)));
        }
