-- Each event of a legal run may happen in its turn.
use Rattle.std.proofs.Common.{◌≡◌, inl, inr, ℕ, zero, suc, ◌+◌, ◌-◌, ◌<◌, ◌≤◌, ◌^◌, Bool, true, false, List, [], ◌∷◌, ◌++◌, length, map, take, get_or, refl, sym, ap, subst, ◌∙◌, arith}
use Rattle.std.specs.Prelude.{slice_get, Option, Some, None, option_map, IfSome, ◌==◌}
use Rattle.std.specs.List.{AllByRecursion, flat_map, list_any}
use Rattle.std.proofs.lemmas.{Option.slice_get_within}
use Rattle.srp_base.proofs.{Lists.each_append, Lists.all_taken as each_take, Options.one_some, Lists.all_each, Lists.at_each, Lists.within}
use Rattle.srp_base.specs.declared.{numbers.Cs.Cs, numbers.NodeNo.NodeNo, numbers.PortNo.PortNo, numbers.EgressPort.EgressPort, mrp.App.App, mrp.App.TheVariants.Mvrp, mrp.App.TheVariants.Msrp}
use Rattle.tree_topology.specs.declared.{graph.Link.Link, graph.NodeKind.TheVariants.Station}
use Rattle.tree_topology.specs.{Graph.Joined, Topology.Topology, Topology.HasPort, Topology.IsSound, Topology.link_ports, Ports.port_to, Ports.peer_of, PortLaws.HasPortLaws, Refusal.is_station}
use Rattle.topology_file.specs.declared.{entries.NodeEntry.NodeEntry, entries.StreamEntry.StreamEntry, entries.EventEntry.EventEntry, entries.EventKind.EventKind}
use Rattle.topology_file.specs.declared.entries.EventKind.TheVariants as kinds
use Rattle.topology_file.specs.{Entries.joins_both, Plan.Plan, Scenario.KeepsRules, Scenario.HasStreamForm, Scenario.tree_links, Kinds.IsKnownKind, Kinds.IsStationNumber, Kinds.IsStreamNumber}
use Rattle.attribute_propagation.specs.Ports.{place_of}
use Rattle.msrp_codec.specs.FirstValue.{IsTalker}
use Rattle.node_core.specs.declared.{types.AppRequest.AppRequest, types.Wire.Wire, types.NodeEvent.NodeEvent, types.NodeStep.NodeStep, types.PortStep.PortStep}
use Rattle.node_core.specs.declared.types.AppRequest.TheVariants.{Talk, Hush, Listen, Unlisten}
use Rattle.node_core.specs.declared.types.NodeEvent.TheVariants as node_events
use Rattle.node_core.specs.{State.NodeState, Step.node_step, Links.with_outbox, Links.with_carried, Links.lost_at, Links.repeated_at, Links.forged_at, Links.spoilt_at}
use Rattle.topology_file.proofs.EntryLemmas.{some_joins, station_kind}
use Rattle.world_core.specs.{WorldEvent, Request, Port, Lose, Repeat, Forge, Carry, Clock, NodeSteps, Tick, WorldState, with_changed, step_of_node, outbox, app_of, reaches, with_unsound_ends, with_loss, after_repeat, with_forgery, world_step, world_after, CanHappen, CanAllHappen, IsEventInRange, world_of, talker_of_entry, stream_at, event_of, with_event, scripted_from, script_at, step_events, tick_events, IsLegalTick, LeadTo, IsDuring, IsAllowed, NamesNeighbours, IsMoment, events_from, IsKeptWorld}
use Rattle.world_core.proofs.{Nodes.same_tree, Nodes.stepped_is, Nodes.ticked_get, EachNode.AllNodes, EachNode.IsOfSides, EachNode.KeepsOwn, EachNode.all_keep}

-- ---- the tree stays, and every clock at each event but the clock's

tree_stepped : (n : NodeNo) (event : NodeEvent) (w : WorldState) → (step_of_node n event w).0.tree ≡ w.tree
tree_stepped n event w = ap (λ (v : WorldState). v.tree) (sym (stepped_is n event w)) ∙ same_tree n (λ s. (node_step event s).0) w

tree_spoilt : (app : App) (p : EgressPort) (w : WorldState) → (with_unsound_ends app p w).tree ≡ w.tree
tree_spoilt app p w =
    let q = peer_of w.tree.links p in
    same_tree q.node (spoilt_at app (place_of q.port)) (with_changed p.node (spoilt_at app (place_of p.port)) w) ∙ same_tree p.node (spoilt_at app (place_of p.port)) w

tree_lost : (p : EgressPort) (index : ℕ) (o : Option App) (w : WorldState) → (with_loss p index o w).0.tree ≡ w.tree
tree_lost p index None w = refl
tree_lost p index (Some app) w =
    tree_spoilt app p (with_changed p.node (lost_at (place_of p.port) index) w) ∙ same_tree p.node (lost_at (place_of p.port) index) w

tree_repeated : (p : EgressPort) (index : ℕ) (o : Option App) (w : WorldState) → (after_repeat p index o w).0.tree ≡ w.tree
tree_repeated p index None w = refl
tree_repeated p index (Some app) w = same_tree p.node (repeated_at (place_of p.port) index) w

tree_forged : (p : EgressPort) (index : ℕ) (wire : Wire) (b : Bool) (w : WorldState) → (with_forgery p index wire b w).0.tree ≡ w.tree
tree_forged p index wire false w = refl
tree_forged p index wire true w =
    tree_spoilt wire.app p (with_changed p.node (forged_at (place_of p.port) index wire) w) ∙ same_tree p.node (forged_at (place_of p.port) index wire) w

pub tree_stays : (e : WorldEvent) (w : WorldState) → (world_step e w).0.tree ≡ w.tree
tree_stays (Request n request) w = tree_stepped n (node_events.Request request) w
tree_stays (Port n port step) w = tree_stepped n (node_events.Port port step) w
tree_stays (Lose p index) w = tree_lost p index (app_of p index w) w
tree_stays (Repeat p index) w = tree_repeated p index (app_of p index w) w
tree_stays (Forge p index wire) w = tree_forged p index wire (reaches p index w) w
tree_stays (Carry p) w =
    let q = peer_of w.tree.links p in
    same_tree q.node (with_carried (place_of q.port) (outbox p w)) (with_changed p.node (with_outbox (place_of p.port) []) w) ∙ same_tree p.node (with_outbox (place_of p.port) []) w
tree_stays Clock w = refl

pub trees_stay : (es : List WorldEvent) (w : WorldState) → (world_after es w).tree ≡ w.tree
trees_stay [] w = refl
trees_stay (e ∷ es) w = trees_stay es (world_step e w).0 ∙ tree_stays e w

-- the clock of a node is at c
abbrev IsAt : ℕ → ℕ → NodeState → Type 0
IsAt c x s = s.clock.0 ≡ c

spoilt_clock : (app : App) (at : ℕ) (s : NodeState) → (spoilt_at app at s).clock ≡ s.clock
spoilt_clock Mvrp at s = refl
spoilt_clock Msrp at s = refl

clock_sides : (c : ℕ) → IsOfSides (IsAt c)
clock_sides c = record { boxes = λ x s ins outs h. h; marks = λ app at x s h. ap (λ (k : Cs). k.0) (spoilt_clock app at s) ∙ h }

-- ---- which events a scenario has

-- some events may happen in their turn, and lead to a network during a tick
pub record LeadOn (tree : Topology) (t : ℕ) (es : List WorldEvent) (w : WorldState) : Type 0 where
  pub can : CanAllHappen es w
  pub named : AllByRecursion IsEventInRange es
  pub after : IsDuring tree t (world_after es w)

can_append : (es fs : List WorldEvent) (w : WorldState) → CanAllHappen es w → CanAllHappen fs (world_after es w) → CanAllHappen (es ++ fs) w
can_append [] fs w c d = d
can_append (e ∷ es) fs w c d = (c.0, can_append es fs (world_step e w).0 c.1 d)

pub after_append : (es fs : List WorldEvent) (w : WorldState) → world_after fs (world_after es w) ≡ world_after (es ++ fs) w
after_append [] fs w = refl
after_append (e ∷ es) fs w = after_append es fs (world_step e w).0

lead_append : (tree : Topology) (t t' : ℕ) (es fs : List WorldEvent) (w : WorldState) → LeadOn tree t es w → LeadOn tree t' fs (world_after es w) → LeadOn tree t' (es ++ fs) w
lead_append tree t t' es fs w a b =
    record {
      can = can_append es fs w a.can b.can;
      named = each_append IsEventInRange es fs a.named b.named;
      after = subst (IsDuring tree t') (after_append es fs w) b.after;
    }

-- the laws that this rests on, as the public laws say them
pub record RunLaws : Type 0 where
  pub keeps : (e : WorldEvent) (w : WorldState) → CanHappen e w → IsEventInRange e → IsKeptWorld w → IsKeptWorld (world_step e w).0
  pub ports : (tree : Topology) → IsSound tree → HasPortLaws tree
  pub clock : (port : PortNo) (step : PortStep) (s : NodeState) → (node_step (node_events.Port port step) s).0.clock ≡ s.clock
  pub asked : (request : AppRequest) (s : NodeState) → (node_step (node_events.Request request) s).0.clock ≡ s.clock

-- ---- the scenario's events

module _ (laws : RunLaws) where
  -- each event but the clock's leaves the clocks
  clock_own : (tree : Topology) (c : ℕ) (e : WorldEvent) (w : WorldState) → IsAllowed tree e → KeepsOwn (IsAt c) e w
  clock_own tree c (Request n request) w ok = λ s is h. ap (λ (k : Cs). k.0) (laws.asked request s) ∙ h
  clock_own tree c (Port n port step) w ok = λ s is h. ap (λ (k : Cs). k.0) (laws.clock port step s) ∙ h
  clock_own tree c (Lose p index) w ok = tt
  clock_own tree c (Repeat p index) w ok = tt
  clock_own tree c (Forge p index wire) w ok = tt
  clock_own tree c (Carry p) w ok = tt
  clock_own tree c Clock w ok = absurd ok

  on_tree : (tree : Topology) (w : WorldState) (p : EgressPort) → w.tree ≡ tree → HasPort tree p → HasPort w.tree p
  on_tree tree w p is has = subst (λ (t : Topology). HasPort t p) (sym is) has

  pub allowed_can : (tree : Topology) (t : ℕ) (e : WorldEvent) (w : WorldState) → IsAllowed tree e → IsDuring tree t w → CanHappen e w × IsEventInRange e
  allowed_can tree t (Request n request) w ok run =
      let kinds = ap (λ (r : Topology). slice_get r.kinds (n.0 - 1)) run.tree_is ∙ ok.1 in
      let inside = slice_get_within w.tree.kinds (n.0 - 1) Station kinds in
      let many = run.kept.many in
      let there = within w.nodes (n.0 - 1) (omega (arith, inside, many)) in
      let fits = (run.kept.nodes (n.0 - 1) there.0 there.1).kind in
      ((ok.0, (there.0, there.1, one_some _ there.0.kind Station fits kinds)), ok.2)
  allowed_can tree t (Port n port step) w ok run = (on_tree tree w (record { node = n; port = port }) run.tree_is ok, tt)
  allowed_can tree t (Lose p index) w ok run = (on_tree tree w p run.tree_is ok, tt)
  allowed_can tree t (Repeat p index) w ok run = (on_tree tree w p run.tree_is ok, tt)
  allowed_can tree t (Forge p index wire) w ok run = ((on_tree tree w p run.tree_is ok.0, ok.1), ok.2)
  allowed_can tree t (Carry p) w ok run = (on_tree tree w p run.tree_is ok, tt)
  allowed_can tree t Clock w ok run = absurd ok

  pub one_leads : (tree : Topology) (t : ℕ) (e : WorldEvent) (w : WorldState) → IsAllowed tree e → IsDuring tree t w → IsDuring tree t (world_step e w).0
  one_leads tree t e w ok run =
      let can = allowed_can tree t e w ok run in
      record { kept = laws.keeps e w can.0 can.1 run.kept; tree_is = tree_stays e w ∙ run.tree_is; clock = all_keep (IsAt t) (clock_sides t) e w (clock_own tree t e w ok) run.clock }

  pub all_lead : (tree : Topology) (t : ℕ) (es : List WorldEvent) (w : WorldState) → AllByRecursion (IsAllowed tree) es → IsDuring tree t w → LeadOn tree t es w
  all_lead tree t [] w ok run = record { can = tt; named = tt; after = run }
  all_lead tree t (e ∷ es) w ok run =
      let can = allowed_can tree t e w ok.0 run in
      let later = all_lead tree t es (world_step e w).0 ok.1 (one_leads tree t e w ok.0 run) in
      record { can = (can.0, later.can); named = (can.1, later.named); after = later.after }

  pub clock_leads : (tree : Topology) (t : ℕ) (w : WorldState) → t < 2 ^ 61 → IsDuring tree t w → LeadOn tree (suc t) (Clock ∷ []) w
  clock_leads tree t w below run =
      let can : CanHappen Clock w = λ n s is. let now = run.clock (n.0 - 1) s is in omega (arith, now, below) in
      record {
        can = (can, tt);
        named = (tt, tt);
        after = record { kept = laws.keeps Clock w can tt run.kept; tree_is = run.tree_is; clock = λ x s get. later x s (ticked_get w.nodes x s get) };
      }
    where
      later : (x : ℕ) (s : NodeState) → (r : NodeState) × (slice_get w.nodes x ≡ Some r) × ((node_step node_events.Clock r).0 ≡ s) → s.clock.0 ≡ suc t
      later x s (r, is, become) =
          let now = run.clock x r is in
          let next = ap (λ (q : NodeState). q.clock.0) become in
          omega (arith, now, next)

  module _ (plan : Plan) (rules : KeepsRules plan) where
    links_are : plan.tree.links ≡ tree_links plan.links
    links_are = ap (λ (r : Topology). r.links) rules.tree

    tree_ports : HasPortLaws plan.tree
    tree_ports = laws.ports plan.tree (subst IsSound (sym rules.tree) rules.accepted)

    joined_nodes : (x y : ℕ) → list_any (joins_both x y) plan.links ≡ true → Joined plan.tree.links y x
    joined_nodes x y h = subst (λ (ls : List Link). Joined ls y x) (sym links_are) (some_joins plan.links x y h)

    joined_port : (x y : ℕ) → list_any (joins_both x y) plan.links ≡ true → HasPort plan.tree (port_to plan.tree.links y x)
    joined_port x y h = tree_ports.joined_port y x (joined_nodes x y h)

    kind_at : (x : ℕ) → (1 ≤ x) × (x ≤ length plan.nodes) → ((d : NodeEntry) → is_station (get_or plan.nodes (x - 1) d).kind ≡ true) → slice_get plan.tree.kinds (x - 1) ≡ Some Station
    kind_at x node station =
        let first = node.0 in
        let last = node.1 in
        ap (λ (r : Topology). slice_get r.kinds (x - 1)) rules.tree ∙ station_kind plan.nodes (x - 1) (omega (arith, first, last)) station

    -- the entry of a known stream's number
    stream_there : (n : ℕ) → IsStreamNumber plan.streams n → (e : StreamEntry) × (stream_at plan.streams n ≡ Some e)
    stream_there n known = within plan.streams (n - 1) (omega (arith, known.0, known.1))

    -- its talker is a station, and what it states fits
    talker_station : (n : ℕ) (e : StreamEntry) → stream_at plan.streams n ≡ Some e → (1 ≤ e.talker.0) × (slice_get plan.tree.kinds (e.talker.0 - 1) ≡ Some Station)
    talker_station n e is =
        let station = at_each (λ (s : StreamEntry). IsStationNumber plan.nodes s.talker.0) plan.streams (all_each _ plan.streams rules.talkers) (n - 1) e is in
        (station.0.0, kind_at e.talker.0 station.0 station.1)

    talker_fits : (n : ℕ) (e : StreamEntry) → stream_at plan.streams n ≡ Some e → IsTalker (talker_of_entry e)
    talker_fits n e is =
        let form = at_each HasStreamForm plan.streams (all_each _ plan.streams rules.stream_forms) (n - 1) e is in
        let vid = form.vid.1 in
        let octets = form.octets in
        let frames = form.frames in
        record {
          stream = form.id;
          dest = form.dest;
          vid = omega (arith, vid);
          max_frame = omega (arith, octets);
          frames = omega (arith, frames);
          priority = form.priority;
          latency = omega arith;
        }

    -- what is asked of a known stream may be, where that of its entry may
    asked_allowed : (asked : StreamEntry → WorldEvent) (n : ℕ) → IsStreamNumber plan.streams n
        → ((e : StreamEntry) → stream_at plan.streams n ≡ Some e → IsAllowed plan.tree (asked e)) → IfSome (option_map asked (stream_at plan.streams n)) (IsAllowed plan.tree)
    asked_allowed asked n known each =
        let there = stream_there n known in
        let F : Option StreamEntry → Type 0 = λ o. IfSome (option_map asked o) (IsAllowed plan.tree) in
        subst F (sym there.1) (each there.0 there.1)

    pub known_allowed : (kind : EventKind) → IsKnownKind plan.nodes plan.links plan.streams kind → IfSome (event_of plan.tree.links plan.streams kind) (IsAllowed plan.tree)
    known_allowed (kinds.Declare station vid) known = (known.0.0.0, kind_at station.0 known.0.0 known.0.1, (known.1, known.2))
    known_allowed (kinds.Withdraw station vid) known = (known.0.0.0, kind_at station.0 known.0.0 known.0.1, (known.1, known.2))
    known_allowed (kinds.Talk stream) known =
        asked_allowed (λ e. Request e.talker (Talk (talker_of_entry e))) stream known (λ e is. let at = talker_station stream e is in (at.0, at.1, talker_fits stream e is))
    known_allowed (kinds.Hush stream) known =
        asked_allowed (λ e. Request e.talker (Hush e.id)) stream known (λ e is. let at = talker_station stream e is in (at.0, at.1, tt))
    known_allowed (kinds.Listen station stream) known =
        asked_allowed (λ e. Request station (Listen e.id)) stream known.1 (λ e is. (known.0.0.0, kind_at station.0 known.0.0 known.0.1, tt))
    known_allowed (kinds.Unlisten station stream) known =
        asked_allowed (λ e. Request station (Unlisten e.id)) stream known.1 (λ e is. (known.0.0.0, kind_at station.0 known.0.0 known.0.1, tt))
    known_allowed (kinds.Lose from to index) known = joined_port from.0 to.0 known.0.2
    known_allowed (kinds.Repeat from to index) known = joined_port from.0 to.0 known.0.2
    known_allowed (kinds.Forge from to index app octets) known = (joined_port from.0 to.0 known.0.0.2, known.1.0, known.1.1)

    pub known_neighbours : (kind : EventKind) → IsKnownKind plan.nodes plan.links plan.streams kind → NamesNeighbours plan.tree.links kind
    known_neighbours (kinds.Declare station vid) known = tt
    known_neighbours (kinds.Withdraw station vid) known = tt
    known_neighbours (kinds.Talk stream) known = tt
    known_neighbours (kinds.Hush stream) known = tt
    known_neighbours (kinds.Listen station stream) known = tt
    known_neighbours (kinds.Unlisten station stream) known = tt
    known_neighbours (kinds.Lose from to index) known = joined_nodes from.0 to.0 known.0.2
    known_neighbours (kinds.Repeat from to index) known = joined_nodes from.0 to.0 known.0.2
    known_neighbours (kinds.Forge from to index app octets) known = joined_nodes from.0 to.0 known.0.0.2

    with_allowed : (n : ℕ) (o : Option WorldEvent) (later : List (ℕ × WorldEvent)) → IfSome o (IsAllowed plan.tree)
        → AllByRecursion (IsAllowed plan.tree) (map (λ (e : ℕ × WorldEvent). e.1) later) → AllByRecursion (IsAllowed plan.tree) (map (λ (e : ℕ × WorldEvent). e.1) (with_event n o later))
    with_allowed n None later here rest = rest
    with_allowed n (Some event) later here rest = (here, rest)

    pub scripted_allowed : (t n : ℕ) (entries : List EventEntry) → AllByRecursion (λ (e : EventEntry). IsKnownKind plan.nodes plan.links plan.streams e.kind) entries
        → AllByRecursion (IsAllowed plan.tree) (map (λ (e : ℕ × WorldEvent). e.1) (scripted_from plan.tree.links plan.streams t n entries))
    scripted_allowed t n [] known = tt
    scripted_allowed t n (e ∷ entries) known = by (e.tick == t) (known_allowed e.kind known.0) (scripted_allowed t (n + 1) entries known.1)
      where
        by : (b : Bool) → IfSome (event_of plan.tree.links plan.streams e.kind) (IsAllowed plan.tree)
            → AllByRecursion (IsAllowed plan.tree) (map (λ (e : ℕ × WorldEvent). e.1) (scripted_from plan.tree.links plan.streams t (n + 1) entries))
            → AllByRecursion (IsAllowed plan.tree) (map (λ (e : ℕ × WorldEvent). e.1)
            (Rattle.std.specs.Prelude.if◌then◌else◌ b (with_event n (event_of plan.tree.links plan.streams e.kind) (scripted_from plan.tree.links plan.streams t (n + 1) entries))
            (scripted_from plan.tree.links plan.streams t (n + 1) entries)))
        by true here later = with_allowed n (event_of plan.tree.links plan.streams e.kind) (scripted_from plan.tree.links plan.streams t (n + 1) entries) here later
        by false here later = later

    made_allowed : (n : NodeNo) (made : List NodeStep) → AllByRecursion (λ (st : NodeStep). HasPort plan.tree (record { node = n; port = st.port })) made
        → AllByRecursion (IsAllowed plan.tree) (map (λ (st : NodeStep). Port n st.port st.step) made)
    made_allowed n [] known = tt
    made_allowed n (st ∷ made) known = (known.0, made_allowed n made known.1)

    steps_allowed : (nodes : List NodeSteps) → AllByRecursion (λ (ns : NodeSteps). AllByRecursion (λ (st : NodeStep). HasPort plan.tree (record { node = ns.node; port = st.port })) ns.steps) nodes
        → AllByRecursion (IsAllowed plan.tree) (step_events nodes)
    steps_allowed [] known = tt
    steps_allowed (ns ∷ nodes) known =
        each_append (IsAllowed plan.tree) (map (λ (st : NodeStep). Port ns.node st.port st.step) ns.steps) (step_events nodes) (made_allowed ns.node ns.steps known.0) (steps_allowed nodes known.1)

    pub carries_allowed : (ls : List Link) → ((x y : ℕ) → Joined ls x y → Joined plan.tree.links x y)
        → AllByRecursion (IsAllowed plan.tree) (map Carry (flat_map (λ (l : Link). port_to plan.tree.links l.a.0 l.b.0 ∷ port_to plan.tree.links l.b.0 l.a.0 ∷ []) ls))
    carries_allowed [] inside = tt
    carries_allowed (l ∷ ls) inside = (
      tree_ports.joined_port l.a.0 l.b.0 (inside l.a.0 l.b.0 (inl (inl (refl, refl)))),
      (tree_ports.joined_port l.b.0 l.a.0 (inside l.b.0 l.a.0 (inl (inr (refl, refl)))), carries_allowed ls (λ x y j. inside x y (inr j))),
    )

    tick_leads : (t : ℕ) (w : WorldState) (tick : Tick) → t < 2 ^ 61 → IsLegalTick plan t w tick → IsDuring plan.tree t w → LeadOn plan.tree (suc t) (tick_events plan t tick) w
    tick_leads t w tick below legal run =
        let script : List WorldEvent = map (λ e. e.1) (script_at plan t) in
        let made : List WorldEvent = step_events tick.steps in
        let carries : List WorldEvent = map Carry (link_ports plan.tree) in
        let first = all_lead plan.tree t script w (scripted_allowed t 1 plan.events (all_each _ plan.events rules.events_known)) run in
        let second = lead_append plan.tree t t script made w first (all_lead plan.tree t made (world_after script w) (steps_allowed tick.steps legal.known) first.after) in
        let third = all_lead plan.tree t carries (world_after (script ++ made) w) (carries_allowed plan.tree.links (λ x y j. j)) second.after in
        lead_append plan.tree t (suc t) (script ++ made) (carries ++ (Clock ∷ [])) w second
        (lead_append plan.tree t (suc t) carries (Clock ∷ []) (world_after (script ++ made) w) third (clock_leads plan.tree t (world_after carries (world_after (script ++ made) w)) below third.after))

    -- how many ticks there are
    ticks_count : (ticks : List Tick) (t : ℕ) (w end : WorldState) → LeadTo (IsLegalTick plan) plan t w ticks plan.ticks end → t + length ticks ≡ plan.ticks
    ticks_count [] t w end h = let last = h.0 in omega (arith, last)
    ticks_count (tick ∷ ticks) t w end h = let later = ticks_count ticks (suc t) (world_after (tick_events plan t tick) w) end h.1 in omega (arith, later)

    ticks_lead : (ticks : List Tick) (t : ℕ) (w end : WorldState) → LeadTo (IsLegalTick plan) plan t w ticks plan.ticks end → IsDuring plan.tree t w
        → CanAllHappen (events_from plan t ticks) w × AllByRecursion IsEventInRange (events_from plan t ticks)
    ticks_lead [] t w end h run = (tt, tt)
    ticks_lead (tick ∷ ticks) t w end h run =
        let count = ticks_count (tick ∷ ticks) t w end h in
        let few = rules.ticks.1 in
        let one = tick_leads t w tick (omega (arith, count, few)) h.0 run in
        let later = ticks_lead ticks (suc t) (world_after (tick_events plan t tick) w) end h.1 one.after in (
          can_append (tick_events plan t tick) (events_from plan (suc t) ticks) w one.can later.0,
          each_append IsEventInRange
              (tick_events plan t tick) (events_from plan (suc t) ticks) one.named later.1,
        )

    pub run_leads : (ticks : List Tick) (end : WorldState) → IsKeptWorld (world_of plan) → ((x : ℕ) (s : NodeState) → slice_get (world_of plan).nodes x ≡ Some s → s.clock.0 ≡ 0)
        → LeadTo (IsLegalTick plan) plan 0 (world_of plan) ticks plan.ticks end
        → CanAllHappen (events_from plan 0 ticks) (world_of plan) × AllByRecursion IsEventInRange (events_from plan 0 ticks)
    run_leads ticks end kept clock h = ticks_lead ticks 0 (world_of plan) end h (record { kept = kept; tree_is = refl; clock = clock })

-- ---- fronts of a list of events

pub can_take : (n : ℕ) (es : List WorldEvent) (w : WorldState) → CanAllHappen es w → CanAllHappen (take n es) w
can_take zero es w can = tt
can_take (suc n) [] w can = tt
can_take (suc n) (e ∷ es) w can = (can.0, can_take n es (world_step e w).0 can.1)

-- ---- one tick more

pub one_more : (IsTick : ℕ → WorldState → Tick → Type 0) (plan : Plan) (ticks : List Tick) (t t' : ℕ) (w v : WorldState) (tick : Tick)
    → LeadTo IsTick plan t w ticks t' v → IsTick t' v tick → LeadTo IsTick plan t w (ticks ++ tick ∷ []) (suc t') (world_after (tick_events plan t' tick) v)
one_more IsTick plan [] t t' w v tick h here =
    let P : ℕ → WorldState → Type 0 = λ k u. IsTick k u tick × ((suc k ≡ suc t') × (world_after (tick_events plan t' tick) v ≡ world_after (tick_events plan k tick) u)) in
    subst (λ (k : ℕ). P k w) (sym h.0) (subst (λ (u : WorldState). P t' u) h.1 (here, (refl, refl)))
one_more IsTick plan (first ∷ ticks) t t' w v tick h here = (h.0, one_more IsTick plan ticks (suc t) t' (world_after (tick_events plan t first) w) v tick h.1 here)

-- ---- what holds of each node holds at each moment of a run

pub all_along : (P : ℕ → NodeState → Type 0) → IsOfSides P → (R : WorldEvent → Type 0) → ((e : WorldEvent) (w : WorldState) → R e → KeepsOwn P e w)
    → (es : List WorldEvent) (w : WorldState) → AllByRecursion R es → AllNodes P w → AllNodes P (world_after es w)
all_along P sides R own [] w ok all = all
all_along P sides R own (e ∷ es) w ok all = all_along P sides R own es (world_step e w).0 ok.1 (all_keep P sides e w (own e w ok.0) all)

pub at_moment : (P : ℕ → NodeState → Type 0) → IsOfSides P → (R : WorldEvent → Type 0) → ((e : WorldEvent) (w : WorldState) → R e → KeepsOwn P e w)
    → (plan : Plan) (ticks : List Tick) (w : WorldState) → AllByRecursion R (events_from plan 0 ticks) → AllNodes P (world_of plan) → IsMoment plan ticks w → AllNodes P w
at_moment P sides R own plan ticks w ok start moment =
    subst (AllNodes P) (sym moment.reached)
    (all_along P sides R own (take moment.count (events_from plan 0 ticks)) (world_of plan) (each_take R moment.count (events_from plan 0 ticks) ok) start)

-- no condition on events
pub each_event : (es : List WorldEvent) → AllByRecursion (λ (e : WorldEvent). Unit {0}) es
each_event [] = tt
each_event (e ∷ es) = (tt, each_event es)
