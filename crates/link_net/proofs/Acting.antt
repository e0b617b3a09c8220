-- One of a list of nodes becomes another: the states then, and where ports stand among them.
use Rattle.std.proofs.Common.{◌≡◌, ℕ, zero, suc, ◌+◌, ◌-◌, ◌∷◌, Bool, true, List, [], length, map, take, refl, sym, ap, subst, ◌∙◌, arith}
use Rattle.std.specs.Prelude.{◌<◌, ◌≤◌, nat_le, slice_get, slice_set, Option, Some, None, option_map, Result, Ok, Err, OnErr}
use Rattle.std.proofs.lemmas.{Bool.leb-true, Option.slice_get_within, Option.slice_get_read, List.append-nil, List.map-set}
use Rattle.std.specs.{List.AllByRecursion, Option.option_map_or}
use Rattle.std.proofs.Math.ListN.{length-set, get_or}
use Rattle.srp_base.proofs.Lists.{set_set, get_set, set-same as set_same, get-set_same as get_set_same}
use Rattle.srp_base.specs.declared.{numbers.Cs.Cs, numbers.NodeNo.NodeNo, numbers.EgressPort.EgressPort}
use Rattle.tree_topology.specs.{Topology.Topology, Ports.peer_of}
use Rattle.attribute_propagation.specs.Ports.{IsLinkPort, place_of}
use Rattle.attribute_propagation.proofs.Lists.{set_each}
use Rattle.link_net.specs.declared.events.NetReply.TheVariants.{Node, Done}
use Rattle.link_net.specs.{NodeMeaning, HasNodeLaws, carried_at, lost_at, forged_at, NetState, Happened, net_with, StandsAt, nodes_with, with_ends, answer_of, after_step, after_loss, after_forgery, after_carrying, outbox, name_in, reaches}

-- ---- the states of nodes

module _ {X State : Type 0} (state : X → State) where
  -- that of a node which takes a place, and that of one which is read
  pub states_set : (nodes : List X) (i : ℕ) (y : X) → map state (slice_set nodes i y) ≡ slice_set (map state nodes) i (state y)
  states_set nodes i y = map-set state nodes i y

  state_read : (nodes : List X) (i : ℕ) (x : X) → get_or (map state nodes) i (state x) ≡ state (get_or nodes i x)
  state_read [] i x = refl
  state_read (n ∷ nodes) zero x = refl
  state_read (n ∷ nodes) (suc i) x = state_read nodes i x

  state_is : (nodes : List X) (i : ℕ) (x : X) → x ≡ get_or nodes i x → state x ≡ get_or (map state nodes) i (state x)
  state_is nodes i x value = ap state value ∙ sym (state_read nodes i x)

  -- one of the same state takes its place
  pub same_states : (nodes : List X) (i : ℕ) (x y : X) → x ≡ get_or nodes i x → state y ≡ state x → map state (slice_set nodes i y) ≡ map state nodes
  same_states [] i x y value e = refl
  same_states (n ∷ nodes) zero x y value e = ap (λ (s : State). s ∷ map state nodes) (e ∙ ap state value)
  same_states (n ∷ nodes) (suc i) x y value e = ap (λ ss. state n ∷ ss) (same_states nodes i x y value e)

  -- what holds of each state holds of that which is read
  pub each_state : (P : State → Type 0) (nodes : List X) (i : ℕ) (x : X) → AllByRecursion P (map state nodes) → i < length nodes → x ≡ get_or nodes i x → P (state x)
  each_state P [] i x hs below value = absurd (omega (arith, below))
  each_state P (n ∷ nodes) zero x hs below value = subst (λ (m : X). P (state m)) (sym value) hs.0
  each_state P (n ∷ nodes) (suc i) x hs below value = let less : i < length nodes = omega (arith, below) in each_state P nodes i x hs.1 less value

  -- the node that was read at the place of a number
  pub there_at : (n : ℕ) (nodes : List X) (i : ℕ) (x : X) → 1 ≤ n → n ≤ length (map state nodes) → i ≡ n - 1 → x ≡ get_or nodes i x
      → slice_get (map state nodes) (n - 1) ≡ Some (state x)
  there_at n nodes i x some few at value =
      subst (λ (k : ℕ). slice_get (map state nodes) k ≡ Some (state x)) at
      (slice_get_read (map state nodes) (length (map state nodes)) i (state x) refl (omega (arith, at, some, few)) (state_is nodes i x value))

-- what holds of each of some things holds of that which is read
pub each_read : {X : Type 0} (P : X → Type 0) (xs : List X) (i : ℕ) (x : X) → AllByRecursion P xs → i < length xs → x ≡ get_or xs i x → P x
each_read P [] i x hs below value = absurd (omega (arith, below))
each_read P (n ∷ xs) zero x hs below value = subst P (sym value) hs.0
each_read P (n ∷ xs) (suc i) x hs below value = let less : i < length xs = omega (arith, below) in each_read P xs i x hs.1 less value

-- ---- the node of a port

module _ {X Name Step Reply Request Pdu : Type 0} (node : NodeMeaning Name Step Reply Request Pdu) (state : X → node.State) (p : EgressPort) (nodes : List X) (i : ℕ) (x : X)
    (stands : StandsAt node p (map state nodes)) (at : i ≡ p.node.0 - 1) (value : x ≡ get_or nodes i x) where
  pub get_there : slice_get (map state nodes) (p.node.0 - 1) ≡ Some (state x)
  get_there = there_at state p.node.0 nodes i x stands.some stands.few at value

  -- has the port
  pub port_there : IsLinkPort p.port (node.ports_of (state x))
  port_there = stands.port (state x) get_there

  -- the list with another node at the place is the one where the node has changed
  pub changed_here : (change : node.State → node.State) (y : X) → state y ≡ change (state x) → map state (slice_set nodes i y) ≡ nodes_with p.node change (map state nodes)
  changed_here change y made =
      states_set state nodes i y
      ∙ (ap (slice_set (map state nodes) i) made
      ∙ (ap (λ (k : ℕ). slice_set (map state nodes) k (change (state x))) at
      ∙ sym (ap (λ o. option_map_or (λ s. slice_set (map state nodes) (p.node.0 - 1) (change s)) o (map state nodes)) get_there)))

  -- where it keeps its ports, each port stands as before
  pub stands_still : (y : X) → node.ports_of (state y) ≡ node.ports_of (state x) → (q : EgressPort) → StandsAt node q (map state nodes) → StandsAt node q (map state (slice_set nodes i y))
  stands_still y ports q others =
      let states = map state nodes in
      let is : slice_get states i ≡ Some (state x) = subst (λ (k : ℕ). slice_get states k ≡ Some (state x)) (sym at) get_there in
      subst (StandsAt node q) (sym (states_set state nodes i y)) (record {
        some = others.some;
        few = subst (λ (k : ℕ). q.node.0 ≤ k) (sym (length-set states i (state y))) others.few;
        port = λ u get. set_each (λ k u. (k ≡ q.node.0 - 1) → IsLinkPort q.port (node.ports_of u)) states i (state y)
            (λ e. subst (IsLinkPort q.port) (sym ports) (others.port (state x) (subst (λ (k : ℕ). slice_get states k ≡ Some (state x)) e is)))
            (λ k u got e. others.port u (subst (λ (k : ℕ). slice_get states k ≡ Some u) e got)) (q.node.0 - 1) u get refl;
      })

module _ {X Name Step Reply Request Pdu : Type 0} (node : NodeMeaning Name Step Reply Request Pdu) (state : X → node.State) where
  -- a step of the node is a step of the network's node
  pub stepped_is : (n : NodeNo) (step : node.State → node.State × Reply) (tree : Topology) (clock : Cs) (nodes : List X) (i : ℕ) (x y : X) (reply : Reply)
      → 1 ≤ n.0 → n.0 ≤ length (map state nodes) → i ≡ n.0 - 1 → x ≡ get_or nodes i x → step (state x) ≡ (state y, reply)
      → after_step node n step (net_with tree clock (map state nodes)) ≡ (net_with tree clock (map state (slice_set nodes i y)), Node reply)
  stepped_is n step tree clock nodes i x y reply some few at value made =
      let states = map state nodes in
      let there = there_at state n.0 nodes i x some few at value in
      ap (λ (o : Option node.State). let h : Happened node.State Reply
      = (net_with tree clock (option_map_or (λ s. slice_set states (n.0 - 1) (step s).0) o states), answer_of step o) in h) there
      ∙ (ap (λ (m : node.State × Reply). let h : Happened node.State Reply = (net_with tree clock (slice_set states (n.0 - 1) m.0), Node m.1) in h) made
      ∙ ap (λ (ss : List node.State). let h : Happened node.State Reply = (net_with tree clock ss, Node reply) in h)
      (ap (λ (k : ℕ). slice_set states k (state y)) (sym at) ∙ sym (states_set state nodes i y)))

-- ---- the PDU of an index

module _ {Name Step Reply Request Pdu : Type 0} (node : NodeMeaning Name Step Reply Request Pdu) where
  name_of_in : EgressPort → ℕ → Option node.State → Option Name
  name_of_in p index o = option_map node.name_of (slice_get (option_map_or (node.inbox (place_of p.port)) o []) index)

  pub name_is : (p : EgressPort) (index : ℕ) (tree : Topology) (clock : Cs) (nodes : List node.State) (s : node.State) → slice_get nodes (p.node.0 - 1) ≡ Some s
      → option_map node.name_of (slice_get (node.inbox (place_of p.port) s) index) ≡ name_in node p index (net_with tree clock nodes)
  unfolding name_of_in
  name_is p index tree clock nodes s is = sym (ap (name_of_in p index) is)

  some_within : (pdus : List Pdu) (index : ℕ) (n : Name) → option_map node.name_of (slice_get pdus index) ≡ Some n → index < length pdus
  some_within pdus index n e = by (slice_get pdus index) refl e
    where
      by : (o : Option Pdu) → slice_get pdus index ≡ o → option_map node.name_of o ≡ Some n → index < length pdus
      by None is e = absurd (let none : None ≡ Some n = e in cc)
      by (Some pdu) is e = slice_get_within pdus index pdu is

  pub index_there : (p : EgressPort) (index : ℕ) (tree : Topology) (clock : Cs) (nodes : List node.State) (n : Name) → name_in node p index (net_with tree clock nodes) ≡ Some n
      → (s : node.State) → slice_get nodes (p.node.0 - 1) ≡ Some s → index < length (node.inbox (place_of p.port) s)
  index_there p index tree clock nodes n e s is = some_within (node.inbox (place_of p.port) s) index n (name_is p index tree clock nodes s is ∙ e)

  -- ---- what is done to lists of nodes is done to the network

  -- both ends of a port's link change
  pub ends_are : (p q : EgressPort) (near far : ℕ → node.State → node.State) (tree : Topology) (clock : Cs) (nodes a b : List node.State) → q ≡ peer_of tree.links p
      → a ≡ nodes_with p.node (near (place_of p.port)) nodes → b ≡ nodes_with q.node (far (place_of q.port)) a
      → with_ends p near far (net_with tree clock nodes) ≡ net_with tree clock b
  ends_are p q near far tree clock nodes a b eq ea eb =
      let r = peer_of tree.links p in
      ap (net_with tree clock)
      (sym (eb ∙ (ap (λ (e : EgressPort). nodes_with e.node (far (place_of e.port)) a) eq ∙ ap (nodes_with r.node (far (place_of r.port))) ea)))

  -- a PDU is lost, and both ends are spoilt
  pub lose_is : (p q : EgressPort) (index : ℕ) (n : Name) (tree : Topology) (clock : Cs) (nodes a b : List node.State) → q ≡ peer_of tree.links p
      → a ≡ nodes_with p.node (λ s. node.spoilt n (place_of p.port) (lost_at node (place_of p.port) index s)) nodes → b ≡ nodes_with q.node (node.spoilt n (place_of q.port)) a
      → after_loss node p index (Some n) (net_with tree clock nodes) ≡ (net_with tree clock b, Done)
  lose_is p q index n tree clock nodes a b eq ea eb =
      ap (λ (w : NetState node.State). let h : Happened node.State Reply = (w, Done) in h)
      (ends_are p q (λ at s. node.spoilt n at (lost_at node at index s)) (node.spoilt n) tree clock nodes a b eq ea eb)

  -- one is forged, and both ends are spoilt
  pub forge_is : (p q : EgressPort) (index : ℕ) (pdu : Pdu) (n : Name) (tree : Topology) (clock : Cs) (nodes a b : List node.State) → q ≡ peer_of tree.links p
      → n ≡ node.name_of pdu → a ≡ nodes_with p.node (λ s. node.spoilt n (place_of p.port) (forged_at node (place_of p.port) index pdu s)) nodes
      → b ≡ nodes_with q.node (node.spoilt n (place_of q.port)) a
      → after_forgery node p index pdu true (net_with tree clock nodes) ≡ (net_with tree clock b, Done)
  forge_is p q index pdu n tree clock nodes a b eq en ea eb =
      ap (λ (m : Name). let h : Happened node.State Reply
      = (with_ends p (λ at s. node.spoilt m at (forged_at node at index pdu s)) (node.spoilt m) (net_with tree clock nodes), Done) in h) (sym en)
      ∙ ap (λ (w : NetState node.State). let h : Happened node.State Reply = (w, Done) in h)
      (ends_are p q (λ at s. node.spoilt n at (forged_at node at index pdu s)) (node.spoilt n) tree clock nodes a b eq ea eb)

  -- an inbox reaches to an index
  reaches_in : EgressPort → ℕ → Option node.State → Bool
  reaches_in p index o = nat_le index (length (option_map_or (node.inbox (place_of p.port)) o []))

  pub reaches_is : (p : EgressPort) (index : ℕ) (tree : Topology) (clock : Cs) (nodes : List node.State) (s : node.State) → slice_get nodes (p.node.0 - 1) ≡ Some s
      → nat_le index (length (node.inbox (place_of p.port) s)) ≡ reaches node p index (net_with tree clock nodes)
  unfolding reaches_in
  reaches_is p index tree clock nodes s is = sym (ap (reaches_in p index) is)

  pub place_there : (p : EgressPort) (index : ℕ) (tree : Topology) (clock : Cs) (nodes : List node.State) → reaches node p index (net_with tree clock nodes) ≡ true
      → (s : node.State) → slice_get nodes (p.node.0 - 1) ≡ Some s → index ≤ length (node.inbox (place_of p.port) s)
  place_there p index tree clock nodes there s is = leb-true index (length (node.inbox (place_of p.port) s)) (reaches_is p index tree clock nodes s is ∙ there)

  -- the PDUs of a port's outbox come in at its peer
  pub carry_is : (p q : EgressPort) (tree : Topology) (clock : Cs) (nodes a b : List node.State) (pdus : List Pdu) → q ≡ peer_of tree.links p
      → pdus ≡ outbox node p (net_with tree clock nodes) → a ≡ nodes_with p.node (node.with_outbox (place_of p.port) []) nodes
      → b ≡ nodes_with q.node (carried_at node (place_of q.port) pdus) a → after_carrying node p (net_with tree clock nodes) ≡ net_with tree clock b
  carry_is p q tree clock nodes a b pdus eq ew ea eb =
      let r = peer_of tree.links p in
      ap (net_with tree clock)
      (sym (eb ∙ (ap (λ (e : EgressPort). nodes_with e.node (carried_at node (place_of e.port) pdus) a) eq
      ∙ (ap (nodes_with r.node (carried_at node (place_of r.port) pdus)) ea
      ∙ ap (λ (ws : List Pdu). nodes_with r.node (carried_at node (place_of r.port) ws) (nodes_with p.node (node.with_outbox (place_of p.port) []) nodes)) ew))))

  module _ (laws : HasNodeLaws node) where
    -- no PDUs behind those of an inbox leave all as it is
    none_carried : (q : EgressPort) (nodes : List node.State) → nodes_with q.node (carried_at node (place_of q.port) []) nodes ≡ nodes
    none_carried q nodes = by (slice_get nodes (q.node.0 - 1)) refl
      where
        by : (o : Option node.State) → slice_get nodes (q.node.0 - 1) ≡ o
            → option_map_or (λ s. slice_set nodes (q.node.0 - 1) (carried_at node (place_of q.port) [] s)) o nodes ≡ nodes
        by None is = refl
        by (Some s) is =
            let k = place_of q.port in
            ap (slice_set nodes (q.node.0 - 1)) (ap (λ (ws : List Pdu). node.with_inbox k ws s) (append-nil (node.inbox k s)) ∙ laws.boxes.in_same k s)
            ∙ set_same nodes (q.node.0 - 1) s is

    -- where a port's outbox is empty, nothing else happens than that it is taken
    pub carry_nothing : (p : EgressPort) (tree : Topology) (clock : Cs) (nodes a : List node.State) (pdus : List Pdu) → pdus ≡ outbox node p (net_with tree clock nodes)
        → pdus ≡ [] → a ≡ nodes_with p.node (node.with_outbox (place_of p.port) []) nodes → after_carrying node p (net_with tree clock nodes) ≡ net_with tree clock a
    carry_nothing p tree clock nodes a pdus ew none ea =
        let q = peer_of tree.links p in
        carry_is p q tree clock nodes a a pdus refl ew ea
        (sym (ap (λ (ws : List Pdu). nodes_with q.node (carried_at node (place_of q.port) ws) a) none ∙ none_carried q a))

    -- an outbox that was taken out is put back
    pub put_back_is : (p : EgressPort) (nodes a b : List node.State) (pdus : List Pdu) → pdus ≡ option_map_or (node.outbox (place_of p.port)) (slice_get nodes (p.node.0 - 1)) []
        → a ≡ nodes_with p.node (node.with_outbox (place_of p.port) []) nodes → b ≡ nodes_with p.node (node.with_outbox (place_of p.port) pdus) a → b ≡ nodes
    put_back_is p nodes a b pdus ew ea eb = eb ∙ (ap (nodes_with p.node (node.with_outbox (place_of p.port) pdus)) ea ∙ by (slice_get nodes (p.node.0 - 1)) refl ew)
      where
        by : (o : Option node.State) → slice_get nodes (p.node.0 - 1) ≡ o → pdus ≡ option_map_or (node.outbox (place_of p.port)) o []
            → nodes_with p.node (node.with_outbox (place_of p.port) pdus) (option_map_or (λ s. slice_set nodes (p.node.0 - 1) (node.with_outbox (place_of p.port) [] s)) o nodes) ≡ nodes
        by None is ew = ap (λ o. option_map_or (λ s. slice_set nodes (p.node.0 - 1) (node.with_outbox (place_of p.port) pdus s)) o nodes) is
        by (Some s) is ew =
            let i = p.node.0 - 1 in
            let k = place_of p.port in
            let empty = node.with_outbox k [] s in
            ap (λ o. option_map_or (λ s. slice_set (slice_set nodes i empty) i (node.with_outbox k pdus s)) o (slice_set nodes i empty)) (get_set nodes i s empty is)
            ∙ (set_set nodes i empty (node.with_outbox k pdus empty)
            ∙ (ap (slice_set nodes i) (laws.boxes.out_twice k [] pdus s ∙ (ap (λ (ws : List Pdu). node.with_outbox k ws s) ew ∙ laws.boxes.out_same k s))
            ∙ set_same nodes i s is))

    -- a port whose outbox was taken out has none
    pub empty_there : (p : EgressPort) (nodes a : List node.State) → a ≡ nodes_with p.node (node.with_outbox (place_of p.port) []) nodes
        → (s : node.State) → slice_get a (p.node.0 - 1) ≡ Some s → node.outbox (place_of p.port) s ≡ []
    empty_there p nodes a ea s is = by (slice_get nodes (p.node.0 - 1)) refl (ap (λ xs. slice_get xs (p.node.0 - 1)) (sym ea) ∙ is)
      where
        by : (o : Option node.State) → slice_get nodes (p.node.0 - 1) ≡ o
            → slice_get (option_map_or (λ s. slice_set nodes (p.node.0 - 1) (node.with_outbox (place_of p.port) [] s)) o nodes) (p.node.0 - 1) ≡ Some s
            → node.outbox (place_of p.port) s ≡ []
        by None is e = absurd (let none : None ≡ Some s = sym is ∙ e in cc)
        by (Some t) is e =
            ap (node.outbox (place_of p.port)) (sym (get_set_same nodes (p.node.0 - 1) (node.with_outbox (place_of p.port) [] t) s e))
            ∙ laws.boxes.out_none (place_of p.port) t

-- what holds after want of memory
pub still_on_err : {A E P Q : Type 0} (r : Result A E) → (P → Q) → OnErr r P → OnErr r Q
still_on_err (Ok a) f h = tt
still_on_err (Err e) f h = f h

-- ---- the clocks of all nodes

module _ {X State : Type 0} (state : X → State) where
  -- the first so many nodes are ready for the clock, and all states are as before
  pub record AreReadied (Ready : X → Type 0) (before after : List X) (count : ℕ) : Type 0 where
    pub states : map state after ≡ map state before
    pub ready : AllByRecursion Ready (take count after)

  front_set : (P : X → Type 0) (k : ℕ) (xs : List X) (y : X) → P y → AllByRecursion P (take k xs) → AllByRecursion P (take (suc k) (slice_set xs k y))
  front_set P k [] y h hs = tt
  front_set P zero (x ∷ xs) y h hs = (h, tt)
  front_set P (suc k) (x ∷ xs) y h hs = (hs.0, front_set P k xs y h hs.1)

  pub readied_more : (Ready : X → Type 0) (before after : List X) (k : ℕ) (x y : X) → AreReadied Ready before after k → x ≡ get_or after k x → state y ≡ state x → Ready y
      → AreReadied Ready before (slice_set after k y) (k + 1)
  readied_more Ready before after k x y was value same ready =
      record {
        states = same_states state after k x y value same ∙ was.states;
        ready = subst (λ (n : ℕ). AllByRecursion Ready (take n (slice_set after k y))) (let more : suc k ≡ k + 1 = omega arith in more) (front_set Ready k after y ready was.ready);
      }

  -- the clocks of the first so many nodes have gone on, and the others are as before
  abbrev pub AreTicked : (State → State) → ℕ → List X → List X → Type 0
  AreTicked f count [] after = after ≡ []
  AreTicked f zero (x ∷ before) after = after ≡ x ∷ before
  AreTicked f (suc count) (x ∷ before) [] = ⊥
  AreTicked f (suc count) (x ∷ before) (y ∷ after) = (state y ≡ f (state x)) × AreTicked f count before after

  module _ (f : State → State) where
    pub none_ticked : (nodes : List X) → AreTicked f 0 nodes nodes
    none_ticked [] = refl
    none_ticked (x ∷ nodes) = refl

    -- the next node is as before
    pub next_as_before : (count : ℕ) (before after : List X) (x : X) → AreTicked f count before after → x ≡ get_or after count x → x ≡ get_or before count x
    next_as_before count [] after x is value = refl
    next_as_before zero (b ∷ before) after x is value = value ∙ ap (λ ns. get_or ns 0 x) is
    next_as_before (suc count) (b ∷ before) [] x is value = absurd is
    next_as_before (suc count) (b ∷ before) (y ∷ after) x is value = next_as_before count before after x is.1 value

    more_ticked : (count : ℕ) (before after : List X) (x y : X) → AreTicked f count before after → x ≡ get_or after count x → state y ≡ f (state x)
        → AreTicked f (suc count) before (slice_set after count y)
    more_ticked count [] after x y is value made = ap (λ ns. slice_set ns count y) is
    more_ticked zero (b ∷ before) after x y is value made =
        let here : x ≡ b = value ∙ ap (λ ns. get_or ns 0 x) is in
        subst (λ ns. AreTicked f 1 (b ∷ before) (slice_set ns 0 y)) (sym is) (made ∙ ap (λ (n : X). f (state n)) here, none_ticked before)
    more_ticked (suc count) (b ∷ before) [] x y is value made = absurd is
    more_ticked (suc count) (b ∷ before) (a ∷ after) x y is value made = (is.0, more_ticked count before after x y is.1 value made)

    pub ticked_more : (count : ℕ) (before after : List X) (x y : X) → AreTicked f count before after → x ≡ get_or after count x → state y ≡ f (state x)
        → AreTicked f (count + 1) before (slice_set after count y)
    ticked_more count before after x y is value made =
        subst (λ (n : ℕ). AreTicked f n before (slice_set after count y)) (let e : suc count ≡ count + 1 = omega arith in e) (more_ticked count before after x y is value made)

    pub all_ticked : (count : ℕ) (before after : List X) → length before ≤ count → AreTicked f count before after → map state after ≡ map f (map state before)
    all_ticked count [] after le is = ap (map state) is
    all_ticked zero (x ∷ before) after le is = absurd (omega (arith, le))
    all_ticked (suc count) (x ∷ before) [] le is = absurd is
    all_ticked (suc count) (x ∷ before) (y ∷ after) le is =
        let less : length before ≤ count = omega (arith, le) in
        ap (λ (s : State). s ∷ map state after) is.0 ∙ ap (λ ss. f (state x) ∷ ss) (all_ticked count before after less is.1)
