-- What each port may give away is below the rate of its link.
use Rattle.std.proofs.Common.{◌≡◌, ℕ, ◌+◌, ◌-◌, ◌<◌, ◌≤◌, List, length, get_or, map, take, Option, Some, sym, ap, subst, ◌∙◌, arith}
use Rattle.std.specs.Prelude.{All, slice_get}
use Rattle.std.specs.{Option.option_map_or, List.AllByRecursion, List.range_with_len}
use Rattle.std.proofs.lemmas.{List.length-map, List.Elements.All-from_recursion, List.Elements.All-weaker}
use Rattle.srp_base.proofs.{Lists.within, Lists.Each-map as each_weaker, Arithmetic.numbers as each_of_range}
use Rattle.srp_base.specs.declared.{numbers.EgressPort.EgressPort, bandwidth.Rate.Rate, ports.PortChange.PortChange}
use Rattle.srp_base.specs.declared.bandwidth.Rate.TheVariants.{M100}
use Rattle.stream_importance.specs.declared.slope.Caps.{Caps}
use Rattle.srp_base.specs.Bandwidth.{bits_of}
use Rattle.tree_topology.specs.declared.graph.Link.{Link}
use Rattle.tree_topology.specs.{Topology.Topology, Graph.Joined, Ports.far_end, Ports.neighbours, Ports.index_in, Ports.port_to, Ports.link_at}
use Rattle.tree_topology.proofs.Links.{joined-sym}
use Rattle.topology_file.specs.declared.entries.LinkEntry.{LinkEntry}
use Rattle.topology_file.specs.{Plan.Plan, Scenario.KeepsRules, Scenario.ends_of_entry, Scenario.tree_links}
use Rattle.frame_flow.specs.declared.place.Place.{Place}
use Rattle.frame_flow.specs.{Copies.places_of_link, Copies.all_places, Given.HasSlopesBelow}
use Rattle.topology_file.proofs.EntryLemmas.{far_of_a, far_of_b, first_link, get_link, get_rate, share_below, first_joins, differ, shares}
use Rattle.world_core.specs.{links_of, caps_of_link, no_caps, caps_at}
use Rattle.world_core.proofs.PortOrder.{each_flat}

-- ---- what a port may give away

module _ (plan : Plan) (rules : KeepsRules plan) where
  abbrev links : List Link
  links = tree_links plan.links

  abbrev IsBelow : Place → Type 0
  IsBelow place = (caps_at plan place.at).both < bits_of place.rate

  -- by the entry of the link that leads from a node to another
  caps_to : (i : ℕ) (e : LinkEntry) (x v : ℕ) → slice_get plan.links i ≡ Some e → far_end x (ends_of_entry e) ≡ Some v → ¬ Joined (take i links) x v
      → caps_at plan (port_to links x v) ≡ caps_of_link e
  caps_to i e x v is far none =
      let place = index_in v (neighbours links x) in
      ap (λ (j : ℕ). option_map_or caps_of_link (slice_get (links_of x plan) j) no_caps) (let e' : place + 1 - 1 ≡ place = omega arith in e')
      ∙ ap (λ (o : Option LinkEntry). option_map_or caps_of_link o no_caps) (first_link x v plan.links i e is far none)

  module _ (i : ℕ) (e : LinkEntry) (is : slice_get plan.links i ≡ Some e) where
    below : (caps_of_link e).both < bits_of e.rate
    below = share_below (e.delta_a + e.delta_b) e.rate (shares plan rules i e is)

    below_a : (caps_at plan (port_to links e.a.0 e.b.0)).both < bits_of e.rate
    below_a = subst (λ (caps : Caps). caps.both < bits_of e.rate) (sym (caps_to i e e.a.0 e.b.0 is (far_of_a e) (first_joins plan rules i e is))) below

    below_b : (caps_at plan (port_to links e.b.0 e.a.0)).both < bits_of e.rate
    below_b =
        subst (λ (caps : Caps). caps.both < bits_of e.rate)
        (sym (caps_to i e e.b.0 e.a.0 is (far_of_b e (differ plan rules i e is)) (λ h. first_joins plan rules i e is (joined-sym (take i links) e.b.0 e.a.0 h)))) below

    below_both : AllByRecursion IsBelow (places_of_link links (map (λ (l : LinkEntry). l.rate) plan.links) (i + 1))
    below_both =
        let none : Link = record { a = record { 0 = 0 }; b = record { 0 = 0 } } in
        let less : i + 1 - 1 ≡ i = omega arith in
        let link : link_at links (i + 1) ≡ ends_of_entry e = ap (λ (j : ℕ). get_or links j none) less ∙ get_link plan.links i e none is in
        let rates : List Rate = map (λ (l : LinkEntry). l.rate) plan.links in
        let rate : get_or rates (i + 1 - 1) M100 ≡ e.rate = ap (λ (j : ℕ). get_or rates j M100) less ∙ get_rate plan.links i e M100 is in (
          subst (λ (l : Link). (caps_at plan (port_to links l.a.0 l.b.0)).both < bits_of (get_or rates (i + 1 - 1) M100)) (sym link)
              (subst (λ (r : Rate). (caps_at plan (port_to links e.a.0 e.b.0)).both < bits_of r) (sym rate) below_a),
          (
            subst (λ (l : Link). (caps_at plan (port_to links l.b.0 l.a.0)).both < bits_of (get_or rates (i + 1 - 1) M100)) (sym link)
                (subst (λ (r : Rate). (caps_at plan (port_to links e.b.0 e.a.0)).both < bits_of r) (sym rate) below_b),
            tt,
          ),
        )

  each_below : AllByRecursion IsBelow (all_places links (map (λ (l : LinkEntry). l.rate) plan.links))
  each_below =
      let rates : List Rate = map (λ (l : LinkEntry). l.rate) plan.links in
      each_flat IsBelow (λ n. (1 ≤ n) × (n ≤ length links)) (places_of_link links rates)
      (λ n here.
      let i = n - 1 in
      let next : i + 1 ≡ n = omega arith in
      let lt : i < length plan.links = omega (arith, here.0, here.1, length-map plan.links ends_of_entry) in
      let entry = within plan.links i lt in
      subst (λ (k : ℕ). AllByRecursion IsBelow (places_of_link links rates k)) next (below_both i entry.0 entry.1))
      (range_with_len 1 (length links))
      (each_of_range (λ n. (1 ≤ n) × (n ≤ length links)) 1 (length links) (λ k from less. (from, omega (arith, less))))

  -- slopes that are within the caps are below the rates
  pub below_rates : (changes : List PortChange) → All (λ c. c.slope_a + c.slope_b ≤ (caps_at plan c.at).both) changes
      → All (HasSlopesBelow changes) (all_places plan.tree.links (map (λ (l : LinkEntry). l.rate) plan.links))
  below_rates changes within_caps =
      let rates : List Rate = map (λ (l : LinkEntry). l.rate) plan.links in
      let tree : plan.tree.links ≡ links = ap (λ (t : Topology). t.links) rules.tree in
      subst (λ (ls : List Link). All (HasSlopesBelow changes) (all_places ls rates)) (sym tree)
      (All-from_recursion (HasSlopesBelow changes) (all_places links rates)
      (each_weaker IsBelow (HasSlopesBelow changes)
      (λ place less. All-weaker (λ (c : PortChange). c.slope_a + c.slope_b ≤ (caps_at plan c.at).both) (λ (c : PortChange). c.at ≡ place.at → c.slope_a + c.slope_b < bits_of place.rate)
      (λ c le e. let less' = subst (λ (p : EgressPort). (caps_at plan p).both < bits_of place.rate) (sym e) less in omega (arith, le, less')) changes within_caps)
      (all_places links rates) each_below))
