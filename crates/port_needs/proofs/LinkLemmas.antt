-- Each port of a scenario's links has the entry of its link.
use Rattle.std.proofs.Common.{◌≡◌, ℕ, ◌+◌, ◌-◌, ◌<◌, List, [], ◌∷◌, length, take, Option, Some, refl, sym, ap, subst, ◌∙◌, arith}
use Rattle.std.specs.Prelude.{All, flat_map, IsSome, slice_get}
use Rattle.std.specs.List.{AllByRecursion}
use Rattle.std.proofs.lemmas.{List.length-map, List.Elements.All-nil, List.Elements.All-cons, List.Elements.recursion_from_All}
use Rattle.srp_base.proofs.Lists.{All-flat_map, within}
use Rattle.srp_base.specs.declared.numbers.EgressPort.{EgressPort}
use Rattle.tree_topology.specs.declared.graph.Link.{Link}
use Rattle.tree_topology.specs.{Topology.Topology, Topology.link_ports, Graph.Joined, Ports.far_end, Ports.index_in, Ports.neighbours, Ports.port_to}
use Rattle.tree_topology.proofs.Links.{joined-sym}
use Rattle.topology_file.specs.declared.entries.LinkEntry.{LinkEntry}
use Rattle.topology_file.specs.{Plan.Plan, Scenario.KeepsRules, Scenario.ends_of_entry, Scenario.tree_links}
use Rattle.topology_file.proofs.EntryLemmas.{differ, far_of_a, far_of_b, first_joins, first_link, get_link}
use Rattle.scenario_bounds.specs.Caps.{link_at, links_of}

module _ (plan : Plan) (rules : KeepsRules plan) where
  abbrev links : List Link
  links = tree_links plan.links

  abbrev HasEntry : EgressPort → Type 0
  HasEntry p = IsSome (link_at plan p)

  -- the entry of the link that leads from a node to another
  link_to : (i : ℕ) (e : LinkEntry) (x v : ℕ) → slice_get plan.links i ≡ Some e → far_end x (ends_of_entry e) ≡ Some v → ¬ Joined (take i links) x v
      → link_at plan (port_to links x v) ≡ Some e
  link_to i e x v is far none =
      let place = index_in v (neighbours links x) in
      ap (λ (j : ℕ). slice_get (links_of x plan) j) (let e' : place + 1 - 1 ≡ place = omega arith in e')
      ∙ first_link x v plan.links i e is far none

  some_entry : (e : LinkEntry) (o : Option LinkEntry) → o ≡ Some e → IsSome o
  some_entry e o is = subst (λ (p : Option LinkEntry). IsSome p) (sym is) refl

  abbrev both_ports : Link → List EgressPort
  both_ports l = port_to links l.a.0 l.b.0 ∷ port_to links l.b.0 l.a.0 ∷ []

  -- a link is that of an entry
  abbrev IsOfEntry : Link → Type 0
  IsOfEntry l = (i : ℕ) × (e : LinkEntry) × (slice_get plan.links i ≡ Some e) × (ends_of_entry e ≡ l)

  both_have : (l : Link) → IsOfEntry l → All HasEntry (both_ports l)
  both_have l of =
      let i = of.0 in
      let e = of.1 in
      let is = of.2 in
      subst (λ (k : Link). All HasEntry (both_ports k)) of.3
      (All-cons HasEntry (port_to links e.a.0 e.b.0) (port_to links e.b.0 e.a.0 ∷ [])
      (some_entry e _ (link_to i e e.a.0 e.b.0 is (far_of_a e) (first_joins plan rules i e is)))
      (All-cons HasEntry (port_to links e.b.0 e.a.0) []
      (some_entry e _ (link_to i e e.b.0 e.a.0 is (far_of_b e (differ plan rules i e is)) (λ h. first_joins plan rules i e is (joined-sym (take i links) e.b.0 e.a.0 h))))
      (All-nil HasEntry)))

  each_of_entry : All IsOfEntry links
  each_of_entry i d few =
      let lt : i < length plan.links = omega (arith, few, length-map plan.links ends_of_entry) in
      let entry = within plan.links i lt in
      (i, entry.0, entry.1, sym (get_link plan.links i entry.0 d entry.1))

  pub each_has_link : AllByRecursion HasEntry (link_ports plan.tree)
  each_has_link =
      let tree : links ≡ plan.tree.links = sym (ap (λ (t : Topology). t.links) rules.tree) in
      recursion_from_All HasEntry (link_ports plan.tree)
      (subst (λ (ls : List Link). All HasEntry (flat_map (λ l. port_to ls l.a.0 l.b.0 ∷ port_to ls l.b.0 l.a.0 ∷ []) ls)) tree
      (All-flat_map IsOfEntry HasEntry both_ports both_have links each_of_entry))
