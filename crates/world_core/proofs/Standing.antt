-- Where the ports of a network's tree stand among its nodes.
use Rattle.std.proofs.Common.{◌≡◌, ℕ, ◌-◌, ◌+◌, List, [], ◌∷◌, zero, suc, refl, sym, ap, subst, arith}
use Rattle.std.specs.Prelude.{◌≤◌, length, slice_get, Some, Result, Ok, Err, IfOk, OnErr}
use Rattle.std.specs.List.{AllByRecursion}
use Rattle.std.proofs.lemmas.Option.{slice_get_within}
use Rattle.srp_base.specs.declared.{numbers.NodeNo.NodeNo, numbers.EgressPort.EgressPort}
use Rattle.tree_topology.specs.{Topology.Topology, Topology.HasPort, Ports.peer_of, PortLaws.HasPortLaws}
use Rattle.node_core.specs.State.{NodeState}
use Rattle.node_core.specs.declared.{types.AppRequest.AppRequest, types.StepReply.StepReply}
use Rattle.world_core.specs.declared.events.WorldReply.TheVariants.{Step}
use Rattle.world_core.specs.{WorldEvent, Request, WorldReply, MarksState, WorldState, Happened, StandsAt, CanHappen, IsKeptWorld}
use Rattle.world_core.proofs.{Nodes.node_there, Nodes.place_within, Keeping.base_kept}

-- a port of the tree stands at its node
pub stands : (w : WorldState) → IsKeptWorld w → (p : EgressPort) → HasPort w.tree p → StandsAt p w.nodes
stands w kept p has =
    let base = base_kept w kept in
    let there = node_there w base p has in
    let first = has.1 in
    let within = slice_get_within w.nodes (p.node.0 - 1) there.0 there.1 in
    let some = has.0.0 in
    record {
      some = has.0.0;
      few = omega (arith, within, some);
      port = λ s is.
          let below = place_within w base p has s is in
          record { some = first; within = omega (arith, first, below) };
    }

-- so does its peer
pub peer_stands : (w : WorldState) → IsKeptWorld w → HasPortLaws w.tree → (p : EgressPort) → HasPort w.tree p → StandsAt (peer_of w.tree.links p) w.nodes
peer_stands w kept laws p has = stands w kept (peer_of w.tree.links p) (laws.peer_port p has)

-- what holds of the node of each number holds of each node
pub each_node : (P : NodeState → Type 0) (nodes : List NodeState) → ((n : NodeNo) (s : NodeState) → slice_get nodes (n.0 - 1) ≡ Some s → P s)
    → AllByRecursion P nodes
each_node P nodes holds = by nodes (λ k s is. holds (record { 0 = k + 1 }) s (subst (λ (x : ℕ). slice_get nodes x ≡ Some s) (let number : k ≡ k + 1 - 1 = omega arith in number) is))
  where
    by : (xs : List NodeState) → ((k : ℕ) (s : NodeState) → slice_get xs k ≡ Some s → P s) → AllByRecursion P xs
    by [] h = tt
    by (x ∷ xs) h = (h zero x refl, by xs (λ k s is. h (suc k) s is))

-- an event that may happen, in other words
pub can_as : (e f : WorldEvent) (v w : WorldState) → e ≡ f → v ≡ w → CanHappen e v → CanHappen f w
can_as e f v w same is can = subst (λ (x : WorldEvent). CanHappen x w) same (subst (CanHappen e) is can)

-- a request is made at a node that there is
pub asked_there : (n : NodeNo) (request : AppRequest) (w : WorldState) → CanHappen (Request n request) w → n.0 ≤ length w.nodes
asked_there n request w can =
    let some = can.0 in
    let within = slice_get_within w.nodes (n.0 - 1) can.1.0 can.1.1 in
    omega (arith, some, within)

-- after an event that keeps what every network keeps, or after want of memory, it is kept
pub kept_either : {E : Type 0} (r : Result WorldReply E) (h : Happened) (tree : Topology) (marks : MarksState) (nodes new : List NodeState)
    → IfOk r (λ reply. h ≡ (record { tree = tree; nodes = new; marks = marks }, reply)) → OnErr r (new ≡ nodes)
    → IsKeptWorld h.0 → IsKeptWorld (record { tree = tree; nodes = nodes; marks = marks }) → IsKeptWorld (record { tree = tree; nodes = new; marks = marks })
kept_either (Ok reply) h tree marks nodes new is err after before = subst IsKeptWorld (ap (λ (x : Happened). x.0) is) after
kept_either (Err e) h tree marks nodes new ok is after before = subst (λ (xs : List NodeState). IsKeptWorld (record { tree = tree; nodes = xs; marks = marks })) (sym is) before

-- so it is after a step of a port, with other marks
pub kept_stepped : {E : Type 0} (r : Result StepReply E) (h : Happened) (tree : Topology) (nodes new : List NodeState) (marks more : MarksState)
    → IfOk r (λ reply. h ≡ (record { tree = tree; nodes = new; marks = more }, Step reply)) → OnErr r (new ≡ nodes) → OnErr r (more ≡ marks)
    → IsKeptWorld h.0 → IsKeptWorld (record { tree = tree; nodes = nodes; marks = marks }) → IsKeptWorld (record { tree = tree; nodes = new; marks = more })
kept_stepped (Ok reply) h tree nodes new marks more is err same after before = subst IsKeptWorld (ap (λ (x : Happened). x.0) is) after
kept_stepped (Err e) h tree nodes new marks more ok is same after before =
    subst (λ (ms : MarksState). IsKeptWorld (record { tree = tree; nodes = new; marks = ms })) (sym same)
    (subst (λ (xs : List NodeState). IsKeptWorld (record { tree = tree; nodes = xs; marks = marks })) (sym is) before)
