-- What each port may give away is below the rate of its link.
use Rattle.std.proofs.Common.{◌≡◌, ℕ, ◌+◌, ◌-◌, ◌*◌, ◌/◌, ◌^◌, ◌<◌, ◌≤◌, List, [], ◌∷◌, length, get_or, map, take, Option, Some, None, sym, ap, subst, ◌∙◌, arith}
use Rattle.std.specs.Prelude.{All, slice_get, IfSome}
use Rattle.std.specs.{Option.option_map_or, List.range_with_len}
use Rattle.std.proofs.Math.Nat.{mul-le-mul_right}
use Rattle.std.proofs.lemmas.{Option.get_or_from_slice_get, Option.slice_get_within, List.length-map, List.Elements.All-nil, List.Elements.All-cons, List.Elements.All-filter, List.Elements.All-get_or, List.Elements.All-map, List.FromFn.get_or-range_with_len, List.FromFn.length-range_with_len}
use Rattle.srp_base.proofs.Lists.{All-flat_map, within}
use Rattle.srp_base.specs.declared.{numbers.EgressPort.EgressPort, bandwidth.Rate.Rate, ports.PortChange.PortChange}
use Rattle.srp_base.specs.declared.bandwidth.Rate.TheVariants.{M100}
use Rattle.stream_importance.specs.declared.slope.Caps.{Caps}
use Rattle.srp_base.specs.Bandwidth.{bits_of}
use Rattle.tree_topology.specs.declared.graph.Link.{Link}
use Rattle.tree_topology.specs.{Topology.Topology, Graph.Joined, Ports.far_end, Ports.neighbours, Ports.index_in, Ports.port_to, Ports.link_at}
use Rattle.tree_topology.proofs.Links.{joined-sym}
use Rattle.topology_file.specs.declared.entries.LinkEntry.{LinkEntry}
use Rattle.topology_file.specs.{Plan.Plan, Scenario.KeepsRules, Scenario.ends_of_entry, Scenario.tree_links}
use Rattle.frame_flow.specs.declared.{place.Place.Place, result.PortFlow.PortFlow}
use Rattle.frame_flow.specs.{Copies.places_of_link, Copies.all_places, Flow.IsFlow, Flow.port_flow}
use Rattle.scenario_frames.specs.Setting.{plan_rates, setting_of}
use Rattle.class_b_bound.specs.Bound.{AreCaps}
use Rattle.topology_file.proofs.EntryLemmas.{far_of_a, far_of_b, first_link, get_link, get_rate, share_below, first_joins, differ, shares}
use Rattle.scenario_bounds.specs.{is_link_of, links_of, link_at as link_of_port, caps_of_link, no_caps, caps_at}

-- ---- what a port may give away

-- class A's cap is a part of that of both
shares_ordered : (a b r : ℕ) → a * r / 100 ≤ (a + b) * r / 100
shares_ordered a b r =
    let more : a * r ≤ (a + b) * r = mul-le-mul_right r (omega arith) in
    omega (arith, more)

caps_ordered : (plan : Plan) (p : EgressPort) → (caps_at plan p).class_a ≤ (caps_at plan p).both
caps_ordered plan p = by (slice_get (links_of p.node.0 plan) (p.port.0 - 1))
  where
    by : (o : Option LinkEntry) → (option_map_or caps_of_link o no_caps).class_a ≤ (option_map_or caps_of_link o no_caps).both
    by None = omega arith
    by (Some l) = shares_ordered l.delta_a l.delta_b (bits_of l.rate)

module _ (plan : Plan) (rules : KeepsRules plan) where
  abbrev links : List Link
  links = tree_links plan.links

  abbrev IsBelow : Place → Type 0
  IsBelow place = (caps_at plan place.at).both < bits_of place.rate

  -- by the entry of the link that leads from a node to another
  caps_to : (i : ℕ) (e : LinkEntry) (x v : ℕ) → slice_get plan.links i ≡ Some e → far_end x (ends_of_entry e) ≡ Some v → ¬ Joined (take i links) x v
      → caps_at plan (port_to links x v) ≡ caps_of_link e
  caps_to i e x v is far none =
      let place = index_in v (neighbours links x) in
      ap (λ (j : ℕ). option_map_or caps_of_link (slice_get (links_of x plan) j) no_caps) (let e' : place + 1 - 1 ≡ place = omega arith in e')
      ∙ ap (λ (o : Option LinkEntry). option_map_or caps_of_link o no_caps) (first_link x v plan.links i e is far none)

  module _ (i : ℕ) (e : LinkEntry) (is : slice_get plan.links i ≡ Some e) where
    below : (caps_of_link e).both < bits_of e.rate
    below = share_below (e.delta_a + e.delta_b) e.rate (shares plan rules i e is)

    below_a : (caps_at plan (port_to links e.a.0 e.b.0)).both < bits_of e.rate
    below_a = subst (λ (caps : Caps). caps.both < bits_of e.rate) (sym (caps_to i e e.a.0 e.b.0 is (far_of_a e) (first_joins plan rules i e is))) below

    below_b : (caps_at plan (port_to links e.b.0 e.a.0)).both < bits_of e.rate
    below_b =
        subst (λ (caps : Caps). caps.both < bits_of e.rate)
        (sym (caps_to i e e.b.0 e.a.0 is (far_of_b e (differ plan rules i e is)) (λ h. first_joins plan rules i e is (joined-sym (take i links) e.b.0 e.a.0 h)))) below

    below_both : All IsBelow (places_of_link links (map (λ (l : LinkEntry). l.rate) plan.links) (i + 1))
    below_both =
        let none : Link = record { a = record { 0 = 0 }; b = record { 0 = 0 } } in
        let less : i + 1 - 1 ≡ i = omega arith in
        let link : link_at links (i + 1) ≡ ends_of_entry e = ap (λ (j : ℕ). get_or links j none) less ∙ get_link plan.links i e none is in
        let rates : List Rate = map (λ (l : LinkEntry). l.rate) plan.links in
        let rate : get_or rates (i + 1 - 1) M100 ≡ e.rate = ap (λ (j : ℕ). get_or rates j M100) less ∙ get_rate plan.links i e M100 is in
        let one : Place = record { at = port_to links (link_at links (i + 1)).a.0 (link_at links (i + 1)).b.0; rate = get_or rates (i + 1 - 1) M100 } in
        let other : Place = record { at = port_to links (link_at links (i + 1)).b.0 (link_at links (i + 1)).a.0; rate = get_or rates (i + 1 - 1) M100 } in
        All-cons IsBelow one (other ∷ [])
        (subst (λ (l : Link). (caps_at plan (port_to links l.a.0 l.b.0)).both < bits_of (get_or rates (i + 1 - 1) M100)) (sym link)
        (subst (λ (r : Rate). (caps_at plan (port_to links e.a.0 e.b.0)).both < bits_of r) (sym rate) below_a))
        (All-cons IsBelow other []
        (subst (λ (l : Link). (caps_at plan (port_to links l.b.0 l.a.0)).both < bits_of (get_or rates (i + 1 - 1) M100)) (sym link)
        (subst (λ (r : Rate). (caps_at plan (port_to links e.b.0 e.a.0)).both < bits_of r) (sym rate) below_b))
        (All-nil IsBelow))

  each_below : All IsBelow (all_places links (map (λ (l : LinkEntry). l.rate) plan.links))
  each_below =
      let rates : List Rate = map (λ (l : LinkEntry). l.rate) plan.links in
      let H : ℕ → Type 0 = λ n. (1 ≤ n) × (n ≤ length links) in
      All-flat_map H IsBelow (places_of_link links rates)
      (λ n here.
      let i = n - 1 in
      let next : i + 1 ≡ n = omega (arith, here.0, here.1) in
      let lt : i < length plan.links = omega (arith, here.0, here.1, length-map plan.links ends_of_entry) in
      let entry = within plan.links i lt in
      subst (λ (k : ℕ). All IsBelow (places_of_link links rates k)) next (below_both i entry.0 entry.1))
      (range_with_len 1 (length links))
      (λ k d below.
      let few : k < length links = omega (arith, below, length-range_with_len 1 (length links)) in
      let is = get_or-range_with_len 1 (length links) k d few in (omega (arith, is), omega (arith, is, few)))

  -- so the caps of each port of a flow are below its rate
  pub flows_below : (changes : List PortChange) (flows : List PortFlow) → IsFlow (setting_of plan changes) flows
      → All (λ x. AreCaps x.input.rate (caps_at plan x.at).class_a (caps_at plan x.at).both) flows
  flows_below changes flows is =
      let P : PortFlow → Type 0 = λ x. AreCaps x.input.rate (caps_at plan x.at).class_a (caps_at plan x.at).both in
      let tree : links ≡ plan.tree.links = sym (ap (λ (t : Topology). t.links) rules.tree) in
      let below : All IsBelow (all_places plan.tree.links (plan_rates plan)) =
      subst (λ (ls : List Link). All IsBelow (all_places ls (plan_rates plan))) tree each_below in
      let places = all_places plan.tree.links (plan_rates plan) in
      subst (λ (t : List PortFlow). All P t) (sym is.each)
      (All-map P (port_flow (setting_of plan changes) flows) places (λ k d few. (caps_ordered plan (get_or places k d).at, below k d few)))

-- so the caps of a port's link are below its rate
pub link_caps : (plan : Plan) → KeepsRules plan → (p : EgressPort) (found : Option LinkEntry) → link_of_port plan p ≡ found
    → IfSome found (λ l. AreCaps l.rate (caps_of_link l).class_a (caps_of_link l).both)
link_caps plan rules p None is = tt
link_caps plan rules p (Some l) is =
    let P : LinkEntry → Type 0 = λ e. (e.delta_a + e.delta_b ≤ 90) × (e.latency < 2 ^ 32) in
    let links' : List LinkEntry = links_of p.node.0 plan in
    let place = p.port.0 - 1 in
    let form : P l = subst P (get_or_from_slice_get links' place l l is)
    (All-get_or P links' place l (slice_get_within links' place l is) (All-filter (is_link_of p.node.0) P plan.links rules.link_forms)) in
    (shares_ordered l.delta_a l.delta_b (bits_of l.rate), share_below (l.delta_a + l.delta_b) l.rate form.0)
