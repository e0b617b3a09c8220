-- One of a list of nodes becomes another: the list then, and where ports stand in it.
use Rattle.std.proofs.Common.{◌≡◌, ℕ, zero, suc, ◌+◌, ◌-◌, ◌∷◌, Bool, true, false, List, [], length, map, take, refl, sym, ap, subst, ◌∙◌, arith}
use Rattle.std.specs.Prelude.{◌<◌, ◌≤◌, nat_le, slice_get, slice_set, Option, Some, None, option_map, Result, Ok, Err, OnErr, if◌then◌else◌}
use Rattle.std.proofs.lemmas.{Option.slice_get_within, Option.slice_get_read, Bool.lt-ltb, List.append-nil, List.map-set}
use Rattle.std.specs.{List.AllByRecursion, Option.option_map_or}
use Rattle.std.proofs.Math.ListN.{length-set, get_or}
use Rattle.srp_base.proofs.Lists.{set_set, get_set, get-set_same as get_set_same}
use Rattle.srp_base.specs.declared.{numbers.NodeNo.NodeNo, numbers.EgressPort.EgressPort, mrp.App.App, mrp.App.TheVariants.Mvrp, mrp.App.TheVariants.Msrp}
use Rattle.mvrp.specs.Part.{Part}
use Rattle.tree_topology.specs.{Topology.Topology, Ports.peer_of}
use Rattle.attribute_propagation.specs.Ports.{IsLinkPort, place_of}
use Rattle.attribute_propagation.proofs.Lists.{set_each}
use Rattle.flat_side.specs.Side.{with_part_at, with_part}
use Rattle.node_core.specs.declared.{types.NodeEvent.NodeEvent, types.StepReply.StepReply, types.Wire.Wire}
use Rattle.node_core.specs.{Holding.NodeHolding, Holding.states_in, State.NodeState, State.box_at, State.ports_of, Step.Stepped, Step.node_step, Links.with_outbox, Links.with_carried, Links.has_index, Links.has_place, Links.forged_at, Links.spoilt_at}
use Rattle.node_core.proofs.Boxes.{set_same}
use Rattle.world_core.specs.{MarksState, WorldState, Happened, world_with, after_step, step_of_node, StandsAt, nodes_with, with_changed, outbox, app_of, reaches, with_unsound_ends, with_forgery, after_carrying, Step, Done}
use Rattle.world_core.specs.declared.events.WorldReply.TheVariants.{Missed}
use Rattle.world_core.proofs.Boxes.{box_none}

-- ---- the states of the nodes where the node at a place has changed in its place

pub states-set : (nodes : List NodeHolding) (i : ℕ) (y : NodeHolding) → states_in (slice_set nodes i y) ≡ slice_set (states_in nodes) i y.state
states-set nodes i y = map-set (λ (n : NodeHolding). n.state) nodes i y

pub state-read : (nodes : List NodeHolding) (i : ℕ) (x : NodeHolding) → get_or (states_in nodes) i x.state ≡ (get_or nodes i x).state
state-read [] i x = refl
state-read (n ∷ nodes) zero x = refl
state-read (n ∷ nodes) (suc i) x = state-read nodes i x

pub state_is : (nodes : List NodeHolding) (i : ℕ) (x : NodeHolding) → x ≡ get_or nodes i x → x.state ≡ get_or (states_in nodes) i x.state
state_is nodes i x value = ap (λ (n : NodeHolding). n.state) value ∙ sym (state-read nodes i x)

-- one of the same state takes its place
pub same_states : (nodes : List NodeHolding) (i : ℕ) (x y : NodeHolding) → x ≡ get_or nodes i x → y.state ≡ x.state → states_in (slice_set nodes i y) ≡ states_in nodes
same_states [] i x y value e = refl
same_states (n ∷ nodes) zero x y value e = ap (λ (s : NodeState). s ∷ states_in nodes) (e ∙ ap (λ (m : NodeHolding). m.state) value)
same_states (n ∷ nodes) (suc i) x y value e = ap (λ ss. n.state ∷ ss) (same_states nodes i x y value e)

-- what holds of each state holds of that which is read
pub each_state : (P : NodeState → Type 0) (nodes : List NodeHolding) (i : ℕ) (x : NodeHolding) → AllByRecursion P (states_in nodes) → i < length nodes → x ≡ get_or nodes i x
    → P x.state
each_state P [] i x hs below value = absurd (omega (arith, below))
each_state P (n ∷ nodes) zero x hs below value = subst (λ (m : NodeHolding). P m.state) (sym value) hs.0
each_state P (n ∷ nodes) (suc i) x hs below value = let less : i < length nodes = omega (arith, below) in each_state P nodes i x hs.1 less value

-- ---- the node that was read at a port's place

there_at : (n : ℕ) (nodes : List NodeHolding) (i : ℕ) (x : NodeHolding) → 1 ≤ n → n ≤ length (states_in nodes) → i ≡ n - 1 → x ≡ get_or nodes i x
    → slice_get (states_in nodes) (n - 1) ≡ Some x.state
there_at n nodes i x some few at value =
    subst (λ (k : ℕ). slice_get (states_in nodes) k ≡ Some x.state) at
    (slice_get_read (states_in nodes) (length (states_in nodes)) i x.state refl (omega (arith, at, some, few)) (state_is nodes i x value))

pub get_there : (p : EgressPort) (nodes : List NodeHolding) (i : ℕ) (x : NodeHolding) → StandsAt p (states_in nodes) → i ≡ p.node.0 - 1 → x ≡ get_or nodes i x
    → slice_get (states_in nodes) (p.node.0 - 1) ≡ Some x.state
get_there p nodes i x stands at value = there_at p.node.0 nodes i x stands.some stands.few at value

-- a step of the node is a step of the network's node
pub stepped_is : (n : NodeNo) (event : NodeEvent) (tree : Topology) (marks : MarksState) (nodes : List NodeHolding) (i : ℕ) (x y : NodeHolding) (reply : StepReply)
    → 1 ≤ n.0 → n.0 ≤ length (states_in nodes) → i ≡ n.0 - 1 → x ≡ get_or nodes i x → node_step event x.state ≡ (y.state, reply)
    → step_of_node n event (world_with tree (states_in nodes) marks) ≡ (world_with tree (states_in (slice_set nodes i y)) marks, Step reply)
stepped_is n event tree marks nodes i x y reply some few at value made =
    let w = world_with tree (states_in nodes) marks in
    ap (λ (o : Option NodeState). option_map_or (λ s. after_step n (node_step event s) w) o (w, Missed)) (there_at n.0 nodes i x some few at value)
    ∙ (ap (λ (m : Stepped). after_step n m w) made
    ∙ ap (λ (states : List NodeState). let h : Happened = (world_with tree states marks, Step reply) in h)
    (ap (λ (k : ℕ). slice_set (states_in nodes) k y.state) (sym at) ∙ sym (states-set nodes i y)))

-- has the port
pub port_there : (p : EgressPort) (nodes : List NodeHolding) (i : ℕ) (x : NodeHolding) → StandsAt p (states_in nodes) → i ≡ p.node.0 - 1 → x ≡ get_or nodes i x
    → IsLinkPort p.port (ports_of x.state)
port_there p nodes i x stands at value = stands.port x.state (get_there p nodes i x stands at value)

-- the list with another node at the place is the one where the node has changed
pub changed_here : (p : EgressPort) (change : NodeState → NodeState) (nodes : List NodeHolding) (i : ℕ) (x y : NodeHolding) → StandsAt p (states_in nodes) → i ≡ p.node.0 - 1
    → x ≡ get_or nodes i x → y.state ≡ change x.state → states_in (slice_set nodes i y) ≡ nodes_with p.node change (states_in nodes)
changed_here p change nodes i x y stands at value made =
    states-set nodes i y
    ∙ (ap (slice_set (states_in nodes) i) made
    ∙ (ap (λ (k : ℕ). slice_set (states_in nodes) k (change x.state)) at
    ∙ sym (ap (λ o. option_map_or (λ s. slice_set (states_in nodes) (p.node.0 - 1) (change s)) o (states_in nodes)) (get_there p nodes i x stands at value))))

-- where it keeps its ports, each port stands as before
pub stands_still : (p : EgressPort) (nodes : List NodeHolding) (i : ℕ) (x y : NodeHolding) → StandsAt p (states_in nodes) → i ≡ p.node.0 - 1 → x ≡ get_or nodes i x
    → ports_of y.state ≡ ports_of x.state → (q : EgressPort) → StandsAt q (states_in nodes) → StandsAt q (states_in (slice_set nodes i y))
stands_still p nodes i x y stands at value ports q others =
    let states = states_in nodes in
    let is : slice_get states i ≡ Some x.state = subst (λ (k : ℕ). slice_get states k ≡ Some x.state) (sym at) (get_there p nodes i x stands at value) in
    subst (StandsAt q) (sym (states-set nodes i y)) (record {
      some = others.some;
      few = subst (λ (k : ℕ). q.node.0 ≤ k) (sym (length-set states i y.state)) others.few;
      port = λ u get. set_each (λ k u. (k ≡ q.node.0 - 1) → IsLinkPort q.port (ports_of u)) states i y.state
          (λ e. subst (IsLinkPort q.port) (sym ports) (others.port x.state (subst (λ (k : ℕ). slice_get states k ≡ Some x.state) e is)))
          (λ k u got e. others.port u (subst (λ (k : ℕ). slice_get states k ≡ Some u) e got)) (q.node.0 - 1) u get refl;
    })

-- spoiling keeps the ports
pub ports_spoilt : (app : App) (at : ℕ) (s : NodeState) → ports_of (spoilt_at app at s) ≡ ports_of s
ports_spoilt Mvrp at s = by (slice_get s.vlans.parts at)
  where
    by : (o : Option Part) → length (with_part o (λ p. with_part_at at (record p { sound = false }) s.vlans) s.vlans).parts ≡ length s.vlans.parts
    by None = refl
    by (Some p) = length-set s.vlans.parts at (record p { sound = false })
ports_spoilt Msrp at s = refl

-- a network with the list is the network where the node has changed
pub changed_is : (n : NodeNo) (change : NodeState → NodeState) (w : WorldState) → with_changed n change w ≡ record w { nodes = nodes_with n change w.nodes }
changed_is n change w = by (slice_get w.nodes (n.0 - 1))
  where
    by : (o : Option NodeState) → option_map_or (λ s. record w { nodes = slice_set w.nodes (n.0 - 1) (change s) }) o w
        ≡ record w { nodes = option_map_or (λ s. slice_set w.nodes (n.0 - 1) (change s)) o w.nodes }
    by None = refl
    by (Some s) = refl

-- ---- the PDU of an index

app_in : EgressPort → ℕ → Option NodeState → Option App
app_in p index o = option_map (λ wire. wire.app) (slice_get (option_map_or (λ s. box_at (place_of p.port) s.inboxes) o []) index)

pub app_is : (p : EgressPort) (index : ℕ) (tree : Topology) (marks : MarksState) (nodes : List NodeState) (s : NodeState) → slice_get nodes (p.node.0 - 1) ≡ Some s
    → option_map (λ wire. wire.app) (slice_get (box_at (place_of p.port) s.inboxes) index) ≡ app_of p index (record { tree = tree; nodes = nodes; marks = marks })
unfolding app_in
app_is p index tree marks nodes s is = sym (ap (app_in p index) is)

some_within : (wires : List Wire) (index : ℕ) (app : App) → option_map (λ wire. wire.app) (slice_get wires index) ≡ Some app → index < length wires
some_within wires index app e = by (slice_get wires index) refl e
  where
    by : (o : Option Wire) → slice_get wires index ≡ o → option_map (λ wire. wire.app) o ≡ Some app → index < length wires
    by None is e = absurd (let none : None ≡ Some app = e in cc)
    by (Some wire) is e = slice_get_within wires index wire is

pub index_there : (p : EgressPort) (index : ℕ) (tree : Topology) (marks : MarksState) (nodes : List NodeState) (app : App)
    → app_of p index (record { tree = tree; nodes = nodes; marks = marks }) ≡ Some app
    → (s : NodeState) → slice_get nodes (p.node.0 - 1) ≡ Some s → index < length (box_at (place_of p.port) s.inboxes)
index_there p index tree marks nodes app e s is = some_within (box_at (place_of p.port) s.inboxes) index app (app_is p index tree marks nodes s is ∙ e)

-- where there is a PDU of the index, what was done to it was done
pub done_there : (s t : NodeState) (at index : ℕ) (change : NodeState → NodeState) (done : Bool) → index < length (box_at at s.inboxes)
    → done ≡ has_index at index s → t ≡ (if done then change s else s) → t ≡ change s
done_there s t at index change done less is e = e ∙ ap (λ (b : Bool). if b then change s else s) (is ∙ lt-ltb index (length (box_at at s.inboxes)) less)

-- ---- what is done to lists of nodes is done to the network

of_tree : Topology → MarksState → List NodeState → WorldState
of_tree tree marks nodes = record { tree = tree; nodes = nodes; marks = marks }

-- both ends of a port's link are spoilt after a change of its node
pub spoilt_after : (p : EgressPort) (app : App) (change : NodeState → NodeState) (tree : Topology) (marks : MarksState) (nodes a b : List NodeState)
    → a ≡ nodes_with p.node change nodes → with_unsound_ends app p (record { tree = tree; nodes = a; marks = marks }) ≡ record { tree = tree; nodes = b; marks = marks }
    → with_unsound_ends app p (with_changed p.node change (record { tree = tree; nodes = nodes; marks = marks })) ≡ record { tree = tree; nodes = b; marks = marks }
unfolding of_tree
spoilt_after p app change tree marks nodes a b ea eb =
    ap (with_unsound_ends app p) (changed_is p.node change (of_tree tree marks nodes) ∙ ap (of_tree tree marks) (sym ea)) ∙ eb

-- the PDUs of a port's outbox come in at its peer
pub carry_is : (p q : EgressPort) (tree : Topology) (marks : MarksState) (nodes a b : List NodeState) (wires : List Wire) → q ≡ peer_of tree.links p
    → wires ≡ outbox p (record { tree = tree; nodes = nodes; marks = marks })
    → a ≡ nodes_with p.node (with_outbox (place_of p.port) []) nodes → b ≡ nodes_with q.node (with_carried (place_of q.port) wires) a
    → after_carrying p (record { tree = tree; nodes = nodes; marks = marks }) ≡ record { tree = tree; nodes = b; marks = marks }
unfolding of_tree
carry_is p q tree marks nodes a b wires eq ew ea eb =
    let r = peer_of tree.links p in
    ap (with_changed r.node (with_carried (place_of r.port) (outbox p (of_tree tree marks nodes))))
    (changed_is p.node (with_outbox (place_of p.port) []) (of_tree tree marks nodes) ∙ ap (of_tree tree marks) (sym ea))
    ∙ (changed_is r.node (with_carried (place_of r.port) (outbox p (of_tree tree marks nodes))) (of_tree tree marks a)
    ∙ ap (of_tree tree marks) (ap (λ (ws : List Wire). nodes_with r.node (with_carried (place_of r.port) ws) a) (sym ew)
    ∙ (ap (λ (q : EgressPort). nodes_with q.node (with_carried (place_of q.port) wires) a) (sym eq) ∙ sym eb)))

-- what stands at a place is set to what it is
set_back : (nodes : List NodeState) (i : ℕ) (s : NodeState) → slice_get nodes i ≡ Some s → slice_set nodes i s ≡ nodes
set_back [] i s is = refl
set_back (t ∷ nodes) zero s is = let e : t ≡ s = cc in ap (λ x. x ∷ nodes) (sym e)
set_back (t ∷ nodes) (suc i) s is = ap (λ xs. t ∷ xs) (set_back nodes i s is)

-- a PDU stands at an index of an inbox, where that reaches so far
reaches_in : EgressPort → ℕ → Option NodeState → Bool
reaches_in p index o = nat_le index (length (option_map_or (λ s. box_at (place_of p.port) s.inboxes) o []))

pub reaches_is : (p : EgressPort) (index : ℕ) (tree : Topology) (marks : MarksState) (nodes : List NodeState) (s : NodeState) → slice_get nodes (p.node.0 - 1) ≡ Some s
    → has_place (place_of p.port) index s ≡ reaches p index (record { tree = tree; nodes = nodes; marks = marks })
unfolding reaches_in
reaches_is p index tree marks nodes s is = sym (ap (reaches_in p index) is)

pub changed_if : (p : EgressPort) (change : NodeState → NodeState) (nodes : List NodeHolding) (i : ℕ) (x y : NodeHolding) (done : Bool) → StandsAt p (states_in nodes)
    → i ≡ p.node.0 - 1 → x ≡ get_or nodes i x → y.state ≡ (if done then change x.state else x.state)
    → states_in (slice_set nodes i y) ≡ (if done then nodes_with p.node change (states_in nodes) else states_in nodes)
changed_if p change nodes i x y true stands at value is = changed_here p change nodes i x y stands at value is
changed_if p change nodes i x y false stands at value is = same_states nodes i x y value is

pub ports_if : (change : NodeState → NodeState) (s t : NodeState) (done : Bool) → ports_of (change s) ≡ ports_of s → t ≡ (if done then change s else s) → ports_of t ≡ ports_of s
ports_if change s t true same is = ap ports_of is ∙ same
ports_if change s t false same is = ap ports_of is

-- where an inbox doesn't reach so far, nothing happens
pub not_reached : (p : EgressPort) (index : ℕ) (wire : Wire) (tree : Topology) (marks : MarksState) (nodes a b : List NodeState) (done : Bool) → done ≡ false
    → done ≡ reaches p index (record { tree = tree; nodes = nodes; marks = marks }) → a ≡ (if done then b else nodes)
    → with_forgery p index wire (reaches p index (record { tree = tree; nodes = nodes; marks = marks }))
    (record { tree = tree; nodes = nodes; marks = marks }) ≡ (record { tree = tree; nodes = a; marks = marks }, Missed)
unfolding of_tree
not_reached p index wire tree marks nodes a b done missed is ea =
    let same : a ≡ nodes = ea ∙ ap (λ (d : Bool). if d then b else nodes) missed in
    ap (λ (d : Bool). with_forgery p index wire d (of_tree tree marks nodes)) (sym is ∙ missed) ∙ ap (λ (v : WorldState). (v, Missed)) (ap (of_tree tree marks) (sym same))

-- where it does, a PDU stands in it, and both ends are spoilt
pub forge_is : (p : EgressPort) (index : ℕ) (wire : Wire) (tree : Topology) (marks : MarksState) (nodes a b : List NodeState) (done : Bool) → done ≡ true
    → done ≡ reaches p index (record { tree = tree; nodes = nodes; marks = marks }) → a ≡ (if done then nodes_with p.node (forged_at (place_of p.port) index wire) nodes else nodes)
    → with_unsound_ends wire.app p (record { tree = tree; nodes = a; marks = marks }) ≡ record { tree = tree; nodes = b; marks = marks }
    → with_forgery p index wire (reaches p index (record { tree = tree; nodes = nodes; marks = marks }))
    (record { tree = tree; nodes = nodes; marks = marks }) ≡ (record { tree = tree; nodes = b; marks = marks }, Done)
unfolding of_tree
forge_is p index wire tree marks nodes a b done does is ea eb =
    let forged : a ≡ nodes_with p.node (forged_at (place_of p.port) index wire) nodes
    = ea ∙ ap (λ (d : Bool). if d then nodes_with p.node (forged_at (place_of p.port) index wire) nodes else nodes) does in
    ap (λ (d : Bool). with_forgery p index wire d (of_tree tree marks nodes)) (sym is ∙ does)
    ∙ ap (λ (v : WorldState). (v, Done)) (spoilt_after p wire.app (forged_at (place_of p.port) index wire) tree marks nodes a b forged eb)

-- no PDUs behind those of an inbox leave all as it is
none_carried : (q : EgressPort) (nodes : List NodeState) → nodes_with q.node (with_carried (place_of q.port) []) nodes ≡ nodes
none_carried q nodes = by (slice_get nodes (q.node.0 - 1)) refl
  where
    by : (o : Option NodeState) → slice_get nodes (q.node.0 - 1) ≡ o
        → option_map_or (λ s. slice_set nodes (q.node.0 - 1) (with_carried (place_of q.port) [] s)) o nodes ≡ nodes
    by None is = refl
    by (Some s) is =
        let k = place_of q.port in
        ap (λ boxes. slice_set nodes (q.node.0 - 1) (record s { inboxes = boxes })) (ap (slice_set s.inboxes k) (append-nil (box_at k s.inboxes)) ∙ set_same s.inboxes k)
        ∙ set_back nodes (q.node.0 - 1) s is

-- an empty outbox is taken and leaves all as it is
none_taken : (p : EgressPort) (nodes : List NodeState) → option_map_or (λ s. box_at (place_of p.port) s.outboxes) (slice_get nodes (p.node.0 - 1)) [] ≡ []
    → nodes_with p.node (with_outbox (place_of p.port) []) nodes ≡ nodes
none_taken p nodes none = by (slice_get nodes (p.node.0 - 1)) refl none
  where
    by : (o : Option NodeState) → slice_get nodes (p.node.0 - 1) ≡ o → option_map_or (λ s. box_at (place_of p.port) s.outboxes) o [] ≡ []
        → option_map_or (λ s. slice_set nodes (p.node.0 - 1) (with_outbox (place_of p.port) [] s)) o nodes ≡ nodes
    by None is empty = refl
    by (Some s) is empty =
        let k = place_of p.port in
        ap (λ boxes. slice_set nodes (p.node.0 - 1) (record s { outboxes = boxes })) (ap (slice_set s.outboxes k) (sym empty) ∙ set_same s.outboxes k)
        ∙ set_back nodes (p.node.0 - 1) s is

-- where a port's outbox is empty, nothing else happens than that it is taken
pub carry_nothing : (p : EgressPort) (tree : Topology) (marks : MarksState) (nodes a : List NodeState) (wires : List Wire) → wires ≡ outbox p (record { tree = tree; nodes = nodes; marks = marks })
    → wires ≡ [] → a ≡ nodes_with p.node (with_outbox (place_of p.port) []) nodes
    → after_carrying p (record { tree = tree; nodes = nodes; marks = marks }) ≡ record { tree = tree; nodes = a; marks = marks }
carry_nothing p tree marks nodes a wires ew none ea =
    let q = peer_of tree.links p in
    carry_is p q tree marks nodes a a wires refl ew ea
    (sym (ap (λ ws. nodes_with q.node (with_carried (place_of q.port) ws) a) none ∙ none_carried q a))

-- so nothing happens at all
pub carried_none : (p : EgressPort) (w : WorldState) → outbox p w ≡ [] → after_carrying p w ≡ w
carried_none p w none = carry_nothing p w.tree w.marks w.nodes w.nodes [] (sym none) refl (sym (none_taken p w.nodes none))

-- an outbox that was taken out is put back
pub put_back_is : (p : EgressPort) (nodes a b : List NodeState) (wires : List Wire)
    → wires ≡ option_map_or (λ s. box_at (place_of p.port) s.outboxes) (slice_get nodes (p.node.0 - 1)) []
    → a ≡ nodes_with p.node (with_outbox (place_of p.port) []) nodes → b ≡ nodes_with p.node (with_outbox (place_of p.port) wires) a → b ≡ nodes
put_back_is p nodes a b wires ew ea eb = eb ∙ (ap (nodes_with p.node (with_outbox (place_of p.port) wires)) ea ∙ by (slice_get nodes (p.node.0 - 1)) refl ew)
  where
    by : (o : Option NodeState) → slice_get nodes (p.node.0 - 1) ≡ o → wires ≡ option_map_or (λ s. box_at (place_of p.port) s.outboxes) o []
        → nodes_with p.node (with_outbox (place_of p.port) wires) (option_map_or (λ s. slice_set nodes (p.node.0 - 1) (with_outbox (place_of p.port) [] s)) o nodes) ≡ nodes
    by None is ew = ap (λ o. option_map_or (λ s. slice_set nodes (p.node.0 - 1) (with_outbox (place_of p.port) wires s)) o nodes) is
    by (Some s) is ew =
        let i = p.node.0 - 1 in
        let k = place_of p.port in
        let empty = with_outbox k [] s in
        ap (λ o. option_map_or (λ s. slice_set (slice_set nodes i empty) i (with_outbox k wires s)) o (slice_set nodes i empty)) (get_set nodes i s empty is)
        ∙ (set_set nodes i empty (with_outbox k wires empty)
        ∙ (ap (λ boxes. slice_set nodes i (record s { outboxes = boxes })) (set_set s.outboxes k [] wires ∙ (ap (slice_set s.outboxes k) ew ∙ set_same s.outboxes k))
        ∙ set_back nodes i s is))

-- a port whose outbox was taken out has none
pub empty_there : (p : EgressPort) (nodes a : List NodeState) → a ≡ nodes_with p.node (with_outbox (place_of p.port) []) nodes
    → (s : NodeState) → slice_get a (p.node.0 - 1) ≡ Some s → box_at (place_of p.port) s.outboxes ≡ []
empty_there p nodes a ea s is = by (slice_get nodes (p.node.0 - 1)) refl (ap (λ xs. slice_get xs (p.node.0 - 1)) (sym ea) ∙ is)
  where
    by : (o : Option NodeState) → slice_get nodes (p.node.0 - 1) ≡ o
        → slice_get (option_map_or (λ s. slice_set nodes (p.node.0 - 1) (with_outbox (place_of p.port) [] s)) o nodes) (p.node.0 - 1) ≡ Some s
        → box_at (place_of p.port) s.outboxes ≡ []
    by None is e = absurd (let none : None ≡ Some s = sym is ∙ e in cc)
    by (Some t) is e =
        ap (λ (s : NodeState). box_at (place_of p.port) s.outboxes) (sym (get_set_same nodes (p.node.0 - 1) (with_outbox (place_of p.port) [] t) s e))
        ∙ box_none t.outboxes (place_of p.port)

-- ---- what holds of a list's becoming another holds where it is so

pub still_on_err : {A E P Q : Type 0} (r : Result A E) → (P → Q) → OnErr r P → OnErr r Q
still_on_err (Ok a) f h = tt
still_on_err (Err e) f h = f h

-- ---- the clocks of all nodes

-- the first so many nodes are ready for the clock, and all states are as before
pub record AreReadied (before after : List NodeHolding) (count : ℕ) : Type 0 where
  pub states : states_in after ≡ states_in before
  pub ready : AllByRecursion (λ (n : NodeHolding). n.ready ≡ true) (take count after)

front_set : {X : Type 0} (P : X → Type 0) (k : ℕ) (xs : List X) (y : X) → P y → AllByRecursion P (take k xs) → AllByRecursion P (take (suc k) (slice_set xs k y))
front_set P k [] y h hs = tt
front_set P zero (x ∷ xs) y h hs = (h, tt)
front_set P (suc k) (x ∷ xs) y h hs = (hs.0, front_set P k xs y h hs.1)

pub readied_more : (before after : List NodeHolding) (k : ℕ) (x y : NodeHolding) → AreReadied before after k → x ≡ get_or after k x → y.state ≡ x.state → y.ready ≡ true
    → AreReadied before (slice_set after k y) (k + 1)
readied_more before after k x y was value state ready =
    record {
      states = same_states after k x y value state ∙ was.states;
      ready = subst (λ (n : ℕ). AllByRecursion (λ (m : NodeHolding). m.ready ≡ true) (take n (slice_set after k y))) (let more : suc k ≡ k + 1 = omega arith in more)
          (front_set (λ (m : NodeHolding). m.ready ≡ true) k after y ready was.ready);
    }

-- the clocks of the first so many nodes have gone on, and the others are as before
abbrev pub AreTicked : (NodeState → NodeState) → ℕ → List NodeHolding → List NodeHolding → Type 0
AreTicked f count [] after = after ≡ []
AreTicked f zero (x ∷ before) after = after ≡ x ∷ before
AreTicked f (suc count) (x ∷ before) [] = ⊥
AreTicked f (suc count) (x ∷ before) (y ∷ after) = (y.state ≡ f x.state) × AreTicked f count before after

module _ (f : NodeState → NodeState) where
  pub none_ticked : (nodes : List NodeHolding) → AreTicked f 0 nodes nodes
  none_ticked [] = refl
  none_ticked (x ∷ nodes) = refl

  -- the next node is as before
  pub next_as_before : (count : ℕ) (before after : List NodeHolding) (x : NodeHolding) → AreTicked f count before after → x ≡ get_or after count x → x ≡ get_or before count x
  next_as_before count [] after x is value = refl
  next_as_before zero (b ∷ before) after x is value = value ∙ ap (λ ns. get_or ns 0 x) is
  next_as_before (suc count) (b ∷ before) [] x is value = absurd is
  next_as_before (suc count) (b ∷ before) (y ∷ after) x is value = next_as_before count before after x is.1 value

  more_ticked : (count : ℕ) (before after : List NodeHolding) (x y : NodeHolding) → AreTicked f count before after → x ≡ get_or after count x → y.state ≡ f x.state
      → AreTicked f (suc count) before (slice_set after count y)
  more_ticked count [] after x y is value made = ap (λ ns. slice_set ns count y) is
  more_ticked zero (b ∷ before) after x y is value made =
      let here : x ≡ b = value ∙ ap (λ ns. get_or ns 0 x) is in
      subst (λ ns. AreTicked f 1 (b ∷ before) (slice_set ns 0 y)) (sym is) (made ∙ ap (λ (n : NodeHolding). f n.state) here, none_ticked before)
  more_ticked (suc count) (b ∷ before) [] x y is value made = absurd is
  more_ticked (suc count) (b ∷ before) (a ∷ after) x y is value made = (is.0, more_ticked count before after x y is.1 value made)

  pub ticked_more : (count : ℕ) (before after : List NodeHolding) (x y : NodeHolding) → AreTicked f count before after → x ≡ get_or after count x → y.state ≡ f x.state
      → AreTicked f (count + 1) before (slice_set after count y)
  ticked_more count before after x y is value made =
      subst (λ (n : ℕ). AreTicked f n before (slice_set after count y)) (let e : suc count ≡ count + 1 = omega arith in e) (more_ticked count before after x y is value made)

  pub all_ticked : (count : ℕ) (before after : List NodeHolding) → length before ≤ count → AreTicked f count before after → states_in after ≡ map f (states_in before)
  all_ticked count [] after le is = ap states_in is
  all_ticked zero (x ∷ before) after le is = absurd (omega (arith, le))
  all_ticked (suc count) (x ∷ before) [] le is = absurd is
  all_ticked (suc count) (x ∷ before) (y ∷ after) le is =
      let less : length before ≤ count = omega (arith, le) in
      ap (λ (s : NodeState). s ∷ states_in after) is.0 ∙ ap (λ ss. f x.state ∷ ss) (all_ticked count before after less is.1)
