-- What happens in a tick may happen.
use Rattle.std.proofs.Common.{◌≡◌, ◌≢◌, inl, inr, ℕ, zero, suc, ◌-◌, Bool, true, false, List, [], ◌∷◌, ◌++◌, length, filter, refl, sym, ap, subst, ◌∙◌, arith}
use Rattle.std.specs.Prelude.{slice_get, ◌==◌, if◌then◌else◌, flat_map, replicate}
use Rattle.std.specs.List.{AllByRecursion, list_any, range_with_len}
use Rattle.srp_base.proofs.{Lists.each_append as append, Lists.each_filter as kept_of, Lists.each_of_map as mapped, Lists.all_each as each_of, Arithmetic.numbers, Lists.each_more as same}
use Rattle.srp_base.specs.declared.{numbers.Cs.Cs, numbers.NodeNo.NodeNo, numbers.EgressPort.EgressPort}
use Rattle.tree_topology.specs.declared.{graph.Link.Link}
use Rattle.tree_topology.specs.{Graph.Joined, Topology.Topology, Topology.HasNode, Topology.HasPort, Topology.IsSound, Topology.link_ports, Ports.neighbours, Ports.port_to, PortLaws.HasPortLaws}
use Rattle.topology_file.specs.declared.{entries.NodeEntry.NodeEntry}
use Rattle.topology_file.specs.{Entries.joins_both, Kinds.IsStationNumber, Scenario.node_kinds}
use Rattle.topology_file.proofs.EntryLemmas.{some_joins, station_kind}
use Rattle.group_file.specs.declared.{entries.GroupEntry.GroupEntry, entries.GroupKind.GroupKind}
use Rattle.group_file.specs.declared.entries.GroupKind.TheVariants as kinds
use Rattle.group_file.specs.{Events.IsKnownGroup, Plan.GroupPlan, Scenario.KeepsGroupRules}
use Rattle.mmrp.specs.declared.{events.GroupEvent.GroupEvent, events.GroupStep.GroupStep}
use Rattle.mmrp.specs.declared.events.GroupEvent.TheVariants.{Join, Part, Port, Lose, Repeat, Carry, Clock}
use Rattle.mmrp.specs.declared.events.GroupStep.TheVariants.{Work, Due, Settle, Send}
use Rattle.mmrp.specs.Net.{NetGroups, CanHappen, IsStation, group_step, inbox, is_busy_at}
use Rattle.group_run.specs.{AreAllowed, IsAllowed, IsInTick, NamesNeighbours, busy_steps, carries, each_makes, event_of, is_sending_time, net_steps, node_ports, node_steps, port_at, script_at, works_at}

-- ---- within a tick

-- what events leave alone, as the public law says it
pub record LeaveAlone : Type 0 where
  pub tree : (e : GroupEvent) (w : NetGroups) → (group_step e w).0.tree ≡ w.tree
  pub clock : (e : GroupEvent) (w : NetGroups) → e ≢ Clock → (group_step e w).0.clock ≡ w.clock

no_clock : (tree : Topology) (e : GroupEvent) → IsAllowed tree e → e ≢ Clock
no_clock tree (Join n mac) ok = λ is. cc
no_clock tree (Part n mac) ok = λ is. cc
no_clock tree (Port p step) ok = λ is. cc
no_clock tree (Lose p index) ok = λ is. cc
no_clock tree (Repeat p index) ok = λ is. cc
no_clock tree (Carry p) ok = λ is. cc
no_clock tree Clock ok = absurd ok

pub allowed_can : (tree : Topology) (t : ℕ) (e : GroupEvent) (w : NetGroups) → IsAllowed tree e → IsInTick tree t w → CanHappen e w
allowed_can tree t (Join n mac) w ok at = subst (λ (r : Topology). IsStation r n) (sym at.tree_is) ok
allowed_can tree t (Part n mac) w ok at = subst (λ (r : Topology). IsStation r n) (sym at.tree_is) ok
allowed_can tree t (Port p step) w ok at = subst (λ (r : Topology). HasPort r p) (sym at.tree_is) ok
allowed_can tree t (Lose p index) w ok at = subst (λ (r : Topology). HasPort r p) (sym at.tree_is) ok
allowed_can tree t (Repeat p index) w ok at = subst (λ (r : Topology). HasPort r p) (sym at.tree_is) ok
allowed_can tree t (Carry p) w ok at = subst (λ (r : Topology). HasPort r p) (sym at.tree_is) ok
allowed_can tree t Clock w ok at = absurd ok

pub allowed_stays : LeaveAlone → (tree : Topology) (t : ℕ) (e : GroupEvent) (w : NetGroups) → IsAllowed tree e → IsInTick tree t w → IsInTick tree t (group_step e w).0
allowed_stays alone tree t e w ok at =
    record {
      tree_is = alone.tree e w ∙ at.tree_is;
      clock_is = ap (λ (c : Cs). c.0) (alone.clock e w (no_clock tree e ok)) ∙ at.clock_is;
    }

-- ---- lists of events

flat : {X A : Type 0} (P : A → Type 0) (f : X → List A) (xs : List X) → AllByRecursion (λ x. AllByRecursion P (f x)) xs → AllByRecursion P (flat_map f xs)
flat P f [] h = tt
flat P f (x ∷ xs) h = append P (f x) (flat_map f xs) h.0 (flat P f xs h.1)

repeated : {X : Type 0} (P : X → Type 0) (n : ℕ) (x : X) → P x → AllByRecursion P (replicate n x)
repeated P zero x h = tt
repeated P (suc n) x h = (h, repeated P n x h)

where_so : {X : Type 0} (P : X → Type 0) (b : Bool) (xs : List X) → AllByRecursion P xs → AllByRecursion P (if b then xs else [])
where_so P true xs h = h
where_so P false xs h = tt

-- ---- the steps of nodes

ports_there : (tree : Topology) (n : NodeNo) → HasNode tree n.0 → AllByRecursion (HasPort tree) (node_ports tree n)
ports_there tree n has =
    let count = length (neighbours tree.links n.0) in
    mapped (HasPort tree) (port_at n) (range_with_len 1 count)
    (numbers (λ k. HasPort tree (port_at n k)) 1 count (λ k low high. (has, low, omega (arith, high))))

each_allowed : (tree : Topology) (step : GroupStep) (ports : List EgressPort) → AllByRecursion (HasPort tree) ports → AreAllowed tree (each_makes step ports)
each_allowed tree step ports h = mapped (IsAllowed tree) (λ p. Port p step) ports h

works_allowed : (w : NetGroups) (ports : List EgressPort) → AllByRecursion (HasPort w.tree) ports → AreAllowed w.tree (flat_map (works_at w) ports)
works_allowed w ports h =
    flat (IsAllowed w.tree) (works_at w) ports
    (same (HasPort w.tree) (λ p. AreAllowed w.tree (works_at w p)) ports
    (λ p has. repeated (IsAllowed w.tree) (length (inbox p w)) (Port p Work) has) h)

busy_allowed : (w : NetGroups) (ports : List EgressPort) → AllByRecursion (HasPort w.tree) ports → AreAllowed w.tree (busy_steps w ports)
busy_allowed w ports h =
    append (IsAllowed w.tree) (flat_map (works_at w) ports ++ each_makes Due ports) (each_makes Settle ports)
    (append (IsAllowed w.tree) (flat_map (works_at w) ports) (each_makes Due ports) (works_allowed w ports h) (each_allowed w.tree Due ports h))
    (each_allowed w.tree Settle ports h)

node_allowed : (w : NetGroups) (n : NodeNo) → HasNode w.tree n.0 → AreAllowed w.tree (node_steps w n)
node_allowed w n has =
    let ports = node_ports w.tree n in
    let there = ports_there w.tree n has in
    append (IsAllowed w.tree) (if is_busy_at n w then busy_steps w ports else []) (if is_sending_time w.clock then each_makes Send ports else [])
    (where_so (IsAllowed w.tree) (is_busy_at n w) (busy_steps w ports) (busy_allowed w ports there))
    (where_so (IsAllowed w.tree) (is_sending_time w.clock) (each_makes Send ports) (each_allowed w.tree Send ports there))

pub steps_allowed : (w : NetGroups) → AreAllowed w.tree (net_steps w)
steps_allowed w =
    let count = length w.tree.kinds in
    flat (IsAllowed w.tree) (λ x. node_steps w (record { 0 = x })) (range_with_len 1 count)
    (numbers (λ x. AreAllowed w.tree (node_steps w (record { 0 = x }))) 1 count
    (λ x low high. node_allowed w (record { 0 = x }) (low, omega (arith, high))))

-- ---- the events of a file

kinds_many : (nodes : List NodeEntry) → length (node_kinds nodes) ≡ length nodes
kinds_many [] = refl
kinds_many (n ∷ nodes) = ap suc (kinds_many nodes)

module _ (plan : GroupPlan) (rules : KeepsGroupRules plan) where
  joined_nodes : (x y : ℕ) → list_any (joins_both x y) plan.links ≡ true → Joined plan.tree.links y x
  joined_nodes x y h = subst (λ (r : Topology). Joined r.links y x) (sym rules.network.is_tree) (some_joins plan.links x y h)

  pub known_neighbours : (kind : GroupKind) → IsKnownGroup plan.nodes plan.links kind → NamesNeighbours plan.tree.links kind
  known_neighbours (kinds.Join station mac) known = tt
  known_neighbours (kinds.Part station mac) known = tt
  known_neighbours (kinds.Lose from to index) known = joined_nodes from.0 to.0 known.0.2
  known_neighbours (kinds.Repeat from to index) known = joined_nodes from.0 to.0 known.0.2

  known_station : (n : NodeNo) → IsStationNumber plan.nodes n.0 → IsStation plan.tree n
  known_station n known =
      let first = known.0.0 in
      let last = known.0.1 in
      let count : length plan.tree.kinds ≡ length plan.nodes = ap (λ (r : Topology). length r.kinds) rules.network.is_tree ∙ kinds_many plan.nodes in
      let kind = ap (λ (r : Topology). slice_get r.kinds (n.0 - 1)) rules.network.is_tree ∙ station_kind plan.nodes (n.0 - 1) (omega (arith, first, last)) known.1 in
      ((first, omega (arith, last, count)), kind)

  module _ (ports : HasPortLaws plan.tree) where
    known_allowed : (kind : GroupKind) → IsKnownGroup plan.nodes plan.links kind → IsAllowed plan.tree (event_of plan.tree.links kind)
    known_allowed (kinds.Join station mac) known = known_station station known
    known_allowed (kinds.Part station mac) known = known_station station known
    known_allowed (kinds.Lose from to index) known = ports.joined_port to.0 from.0 (joined_nodes from.0 to.0 known.0.2)
    known_allowed (kinds.Repeat from to index) known = ports.joined_port to.0 from.0 (joined_nodes from.0 to.0 known.0.2)

    pub scripted_allowed : (t : ℕ) → AreAllowed plan.tree (script_at plan t)
    scripted_allowed t =
        let Known : GroupEntry → Type 0 = λ e. IsKnownGroup plan.nodes plan.links e.kind in
        let entries = filter (λ (e : GroupEntry). e.tick == t) plan.events in
        mapped (IsAllowed plan.tree) (λ e. event_of plan.tree.links e.kind) entries
        (same Known (λ e. IsAllowed plan.tree (event_of plan.tree.links e.kind)) entries (λ e known. known_allowed e.kind known)
        (kept_of Known (λ e. e.tick == t) plan.events (each_of Known plan.events rules.events_known)))

    ends_there : (ls : List Link) → ((x y : ℕ) → Joined ls x y → Joined plan.tree.links x y)
        → AllByRecursion (HasPort plan.tree) (flat_map (λ (l : Link). port_to plan.tree.links l.a.0 l.b.0 ∷ port_to plan.tree.links l.b.0 l.a.0 ∷ []) ls)
    ends_there [] inside = tt
    ends_there (l ∷ ls) inside = (
      ports.joined_port l.a.0 l.b.0 (inside l.a.0 l.b.0 (inl (inl (refl, refl)))),
      (ports.joined_port l.b.0 l.a.0 (inside l.b.0 l.a.0 (inl (inr (refl, refl)))), ends_there ls (λ x y j. inside x y (inr j))),
    )

    pub carries_allowed : AreAllowed plan.tree (carries plan.tree)
    carries_allowed = mapped (IsAllowed plan.tree) Carry (link_ports plan.tree) (ends_there plan.tree.links (λ x y j. j))

-- the laws on ports, of a plan's tree
pub plan_ports : (laws : (tree : Topology) → IsSound tree → HasPortLaws tree) (plan : GroupPlan) → KeepsGroupRules plan → HasPortLaws plan.tree
plan_ports laws plan rules = laws plan.tree (subst IsSound (sym rules.network.is_tree) rules.network.accepted)
