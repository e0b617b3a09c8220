-- What is in force at a port is changed neither by the carrying of PDUs nor by the clock, and nothing is at the start.
use Rattle.std.proofs.Common.{◌≡◌, ℕ, zero, suc, ◌+◌, ◌-◌, List, [], ◌∷◌, ◌++◌, map, Option, Some, None, refl, sym, ap, ◌∙◌}
use Rattle.std.specs.Prelude.{Bool, slice_get, slice_set}
use Rattle.std.specs.Option.{option_map_or}
use Rattle.srp_base.specs.declared.{numbers.EgressPort.EgressPort, numbers.NodeNo.NodeNo, numbers.StreamId.StreamId, numbers.BridgeId.BridgeId, numbers.Cs.Cs, ports.PortSetup.PortSetup, bandwidth.Class.TheVariants.A, bandwidth.Class.TheVariants.B}
use Rattle.stream_importance.specs.declared.entry.Entry.{Entry}
use Rattle.port_ledger.specs.{Decision.booked_of, Book.booked_slope}
use Rattle.tree_topology.specs.declared.graph.NodeKind.{NodeKind}
use Rattle.tree_topology.specs.{Topology.Topology, Topology.link_ports, Ports.peer_of}
use Rattle.topology_file.specs.declared.entries.NodeEntry.{NodeEntry}
use Rattle.topology_file.specs.Plan.{Plan}
use Rattle.mvrp.specs.Part.{Part}
use Rattle.attribute_propagation.specs.Ports.{place_of}
use Rattle.mrp_participant.specs.State.{new_state}
use Rattle.msrp.specs.{PortState.PortState, Side.new_port, Side.clocked_port}
use Rattle.msrp.specs.declared.domain.DomainSet.{DomainSet}
use Rattle.node_core.specs.{State.NodeState, State.new_node, Step.clocked_node, Step.node_step, Links.with_outbox, Links.with_carried}
use Rattle.node_core.specs.declared.types.NodeEvent.TheVariants as node_events
use Rattle.world_core.specs.{Carry, Clock, WorldState, node_at, with_node, with_changed, outbox, after_carrying, after_clock, world_after, world_of, domain_set, nodes_from, setups_from, closing_events, no_reservation, registered_vids, node_force, force_at}
use Rattle.world_core.specs.Reservation.{Reservation}

-- ---- what is read at a place of a list

-- of a list whose elements have become others that read the same
pub read_map : {X Y : Type 0} (f : X → Y) (none : Y) (g : X → X) → ((x : X) → f (g x) ≡ f x)
    → (xs : List X) (i : ℕ) → option_map_or f (slice_get (map g xs) i) none ≡ option_map_or f (slice_get xs i) none
read_map f none g same [] i = refl
read_map f none g same (x ∷ xs) zero = same x
read_map f none g same (x ∷ xs) (suc i) = read_map f none g same xs i

-- of elements that all read as nothing
pub read_made : {S X Y : Type 0} (f : X → Y) (none : Y) (g : S → X) → ((s : S) → f (g s) ≡ none) → (ss : List S) (i : ℕ) → option_map_or f (slice_get (map g ss) i) none ≡ none
read_made f none g nothing [] i = refl
read_made f none g nothing (s ∷ ss) zero = nothing s
read_made f none g nothing (s ∷ ss) (suc i) = read_made f none g nothing ss i

-- of a list in which one element has become another that reads the same
pub read_set : {X Y : Type 0} (f : X → Y) (none : Y) (xs : List X) (i j : ℕ) (x y : X) → slice_get xs i ≡ Some x
    → f y ≡ f x → option_map_or f (slice_get (slice_set xs i y) j) none ≡ option_map_or f (slice_get xs j) none
read_set f none [] i j x y is same = refl
read_set f none (z ∷ xs) zero zero x y is same = same ∙ ap (λ o. option_map_or f o none) (sym is)
read_set f none (z ∷ xs) zero (suc j) x y is same = refl
read_set f none (z ∷ xs) (suc i) zero x y is same = refl
read_set f none (z ∷ xs) (suc i) (suc j) x y is same = read_set f none xs i j x y is same

-- ---- at a node

pub same_force : (f g : Reservation) → f.booked ≡ g.booked → f.slope_a ≡ g.slope_a → f.slope_b ≡ g.slope_b → f.vids ≡ g.vids → f ≡ g
same_force f g booked a b vids =
    ap (λ (x : List StreamId). record { booked = x; slope_a = f.slope_a; slope_b = f.slope_b; vids = f.vids }) booked
    ∙ ap (λ (x : ℕ). record { booked = g.booked; slope_a = x; slope_b = f.slope_b; vids = f.vids }) a
    ∙ ap (λ (x : ℕ). record { booked = g.booked; slope_a = g.slope_a; slope_b = x; vids = f.vids }) b
    ∙ ap (λ (x : List ℕ). record { booked = g.booked; slope_a = g.slope_a; slope_b = g.slope_b; vids = x }) vids

-- the clock leaves the bookings
clock_keeps : (at : ℕ) (s : NodeState) → node_force at (node_step node_events.Clock s).0 ≡ node_force at s
clock_keeps at s =
    let t = clocked_node s in
    same_force (node_force at t) (node_force at s)
    (ap (map (λ (x : Entry). x.want.stream)) (read_map (λ (p : PortState). booked_of p.ledger.entries) [] (clocked_port (s.clock.0 + 1)) (λ p. refl) s.streams.ports at))
    (read_map (λ (p : PortState). booked_slope p.ledger.entries A) 0 (clocked_port (s.clock.0 + 1)) (λ p. refl) s.streams.ports at)
    (read_map (λ (p : PortState). booked_slope p.ledger.entries B) 0 (clocked_port (s.clock.0 + 1)) (λ p. refl) s.streams.ports at)
    refl

-- nothing is in force at a new node
new_has_none : (kind : NodeKind) (bridge : BridgeId) (leave_time : Cs) (periodic : Bool) (domain : DomainSet) (ports : List PortSetup) (at : ℕ)
    → node_force at (new_node kind bridge leave_time periodic domain ports) ≡ no_reservation
new_has_none kind bridge leave_time periodic domain ports at =
    same_force (node_force at (new_node kind bridge leave_time periodic domain ports)) no_reservation
    (ap (map (λ (x : Entry). x.want.stream)) (read_made (λ (p : PortState). booked_of p.ledger.entries) [] (new_port bridge leave_time periodic domain) (λ s. refl) ports at))
    (read_made (λ (p : PortState). booked_slope p.ledger.entries A) 0 (new_port bridge leave_time periodic domain) (λ s. refl) ports at)
    (read_made (λ (p : PortState). booked_slope p.ledger.entries B) 0 (new_port bridge leave_time periodic domain) (λ s. refl) ports at)
    (read_made (λ (p : Part). registered_vids p.rows) [] (λ (q : PortSetup). new_state q.period leave_time periodic) (λ s. refl) ports at)

-- ---- in a network

-- a node has become one with the same in force
found_changed : (n : NodeNo) (change : NodeState → NodeState) (p : EgressPort) → ((s : NodeState) → node_force (place_of p.port) (change s) ≡ node_force (place_of p.port) s) → (w : WorldState)
    (o : Option NodeState) → node_at n w ≡ o → force_at p (option_map_or (λ s. with_node n (change s) w) o w) ≡ force_at p w
found_changed n change p same w None is = refl
found_changed n change p same w (Some s) is = read_set (node_force (place_of p.port)) no_reservation w.nodes (n.0 - 1) (p.node.0 - 1) s (change s) is (same s)

pub force_changed : (n : NodeNo) (change : NodeState → NodeState) (p : EgressPort) → ((s : NodeState) → node_force (place_of p.port) (change s) ≡ node_force (place_of p.port) s) → (w : WorldState)
    → force_at p (with_changed n change w) ≡ force_at p w
force_changed n change p same w = found_changed n change p same w (node_at n w) refl

carry_keeps : (q p : EgressPort) (w : WorldState) → force_at p (after_carrying q w) ≡ force_at p w
carry_keeps q p w =
    let r = peer_of w.tree.links q in
    let taken = with_changed q.node (with_outbox (place_of q.port) []) w in
    force_changed r.node (with_carried (place_of r.port) (outbox q w)) p (λ s. refl) taken ∙ force_changed q.node (with_outbox (place_of q.port) []) p (λ s. refl) w

tick_keeps : (p : EgressPort) (w : WorldState) → force_at p (after_clock w) ≡ force_at p w
tick_keeps p w = read_map (node_force (place_of p.port)) no_reservation (λ s. (node_step node_events.Clock s).0) (clock_keeps (place_of p.port)) w.nodes (p.node.0 - 1)

ports_keep : (qs : List EgressPort) (p : EgressPort) (w : WorldState) → force_at p (world_after (map Carry qs ++ (Clock ∷ [])) w) ≡ force_at p w
ports_keep [] p w = tick_keeps p w
ports_keep (q ∷ qs) p w = ports_keep qs p (after_carrying q w) ∙ carry_keeps q p w

-- what ends a tick changes nothing that is in force
pub closing_keeps : (tree : Topology) (w : WorldState) (p : EgressPort) → force_at p (world_after (closing_events tree) w) ≡ force_at p w
closing_keeps tree w p = ports_keep (link_ports tree) p w

nodes_have_none : (plan : Plan) (x : ℕ) (entries : List NodeEntry) (i at : ℕ) → option_map_or (node_force at) (slice_get (nodes_from plan x entries) i) no_reservation ≡ no_reservation
nodes_have_none plan x [] i at = refl
nodes_have_none plan x (n ∷ entries) zero at = new_has_none n.kind n.id plan.leave_time plan.periodic (domain_set plan.domains n.domain) (setups_from 1 x plan.links) at
nodes_have_none plan x (n ∷ entries) (suc i) at = nodes_have_none plan (x + 1) entries i at

-- nothing is in force at the start
pub start_has_none : (plan : Plan) (p : EgressPort) → force_at p (world_of plan) ≡ no_reservation
start_has_none plan p = nodes_have_none plan 1 plan.nodes (p.node.0 - 1) (place_of p.port)
