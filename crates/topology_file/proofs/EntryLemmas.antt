-- The entries of a file's links and nodes: which link a port has, what a link's numbers say of it, and who
-- is joined.
use Rattle.std.proofs.Common.{◌≡◌, ◌≢◌, ℕ, zero, suc, ◌+◌, ◌*◌, ◌/◌, ◌<◌, ◌≤◌, ◌⊎◌, inl, inr, Bool, true, false, ◌&&◌, ◌||◌, cond, if◌then◌else◌, List, [], ◌∷◌, ◌++◌, length, get_or, map, take, Option, Some, None, refl, sym, ap, subst, ◌∙◌, arith}
use Rattle.std.specs.Prelude.{filter, slice_get, not, ◌==◌}
use Rattle.std.specs.List.{cons_option, list_any}
use Rattle.std.proofs.lemmas.{Bool.cond-true, Bool.cond-false, Bool.cases_Bool, Bool.eqb-true, Bool.eq-eqb, Bool.ne_eqb, Bool.or_left, Bool.or_right, Bool.or_from, Bool.not_from_false, Option.none-some, Option.same_Some, List.length-map}
use Rattle.srp_base.proofs.{Bools.or_true, Bools.both as and_true, Lists.at_place, Arithmetic.same_where_equal as same_number}
use Rattle.srp_base.specs.declared.bandwidth.Rate.{Rate}
use Rattle.srp_base.specs.declared.bandwidth.Rate.TheVariants.{M100, G1, G10}
use Rattle.srp_base.specs.Bandwidth.{bits_of}
use Rattle.tree_topology.specs.declared.{graph.Link.Link, graph.NodeKind.TheVariants.Station}
use Rattle.tree_topology.specs.{Graph.Joins, Graph.Joined, Ports.far_end, Ports.neighbours, Ports.index_in, Refusal.is_station}
use Rattle.tree_topology.proofs.RefusalChecks.{station-is}
use Rattle.topology_file.specs.declared.{entries.NodeEntry.NodeEntry, entries.LinkEntry.LinkEntry}
use Rattle.topology_file.specs.{Entries.joins_both, Plan.Plan, Scenario.KeepsRules, Scenario.node_kinds, Scenario.ends_of_entry, Scenario.tree_links}

-- ---- a link among those of its end

-- the links of a node as the tree has them, and as the plan
abbrev pub ends_at : ℕ → List LinkEntry → List ℕ
ends_at x ls = neighbours (tree_links ls) x

abbrev pub is_end : ℕ → LinkEntry → Bool
is_end x l = (l.a.0 == x) || (l.b.0 == x)

abbrev pub links_at : ℕ → List LinkEntry → List LinkEntry
links_at x ls = filter (is_end x) ls

pub far_of_a : (l : LinkEntry) → far_end l.a.0 (ends_of_entry l) ≡ Some l.b.0
far_of_a l = cond-true (l.a.0 == l.a.0) (Some l.b.0) (cond (l.b.0 == l.a.0) (Some l.a.0) None) (eq-eqb l.a.0 l.a.0 refl)

pub far_of_b : (l : LinkEntry) → l.a.0 ≢ l.b.0 → far_end l.b.0 (ends_of_entry l) ≡ Some l.a.0
far_of_b l differ =
    cond-false (l.a.0 == l.b.0) (Some l.b.0) (cond (l.b.0 == l.b.0) (Some l.a.0) None) (ne_eqb l.a.0 l.b.0 differ)
    ∙ cond-true (l.b.0 == l.b.0) (Some l.a.0) None (eq-eqb l.b.0 l.b.0 refl)

-- a link that has the node as an end, and one that hasn't
is_of : (x v : ℕ) (l : LinkEntry) → far_end x (ends_of_entry l) ≡ Some v → is_end x l ≡ true
is_of x v l is =
    elim (cases_Bool (l.a.0 == x)) [
      | inl a ↦ or_left (l.a.0 == x) (l.b.0 == x) a
      | inr not_a ↦ elim (cases_Bool (l.b.0 == x)) [
        | inl b ↦ or_right (l.a.0 == x) (l.b.0 == x) b
        | inr not_b ↦ absurd (none-some v (sym (cond-false (l.a.0 == x) (Some l.b.0) (cond (l.b.0 == x) (Some l.a.0) None) not_a ∙ cond-false (l.b.0 == x) (Some l.a.0) None not_b) ∙ is))
      ]
    ]

-- each link leads on from the node, or not
leads : (x : ℕ) (l : LinkEntry) → ((u : ℕ) × (far_end x (ends_of_entry l) ≡ Some u) × Joins (ends_of_entry l) x u) ⊎ ((far_end x (ends_of_entry l) ≡ None) × (is_end x l ≡ false))
leads x l =
    elim (cases_Bool (l.a.0 == x)) [
      | inl a ↦ inl (l.b.0, cond-true (l.a.0 == x) (Some l.b.0) (cond (l.b.0 == x) (Some l.a.0) None) a, inl (eqb-true l.a.0 x a, refl))
      | inr not_a ↦ elim (cases_Bool (l.b.0 == x)) [
        | inl b ↦ inl (l.a.0, cond-false (l.a.0 == x) (Some l.b.0) (cond (l.b.0 == x) (Some l.a.0) None) not_a ∙ cond-true (l.b.0 == x) (Some l.a.0) None b, inr (refl, eqb-true l.b.0 x b))
        | inr not_b ↦ inr (
          cond-false (l.a.0 == x) (Some l.b.0) (cond (l.b.0 == x) (Some l.a.0) None) not_a
              ∙ cond-false (l.b.0 == x) (Some l.a.0) None not_b,
          or_from (l.a.0 == x) (l.b.0 == x) not_a not_b,
        )
      ]
    ]

-- the first link that joins two nodes stands at the place of the one among the other's
pub first_link : (x v : ℕ) (ls : List LinkEntry) (i : ℕ) (l : LinkEntry) → slice_get ls i ≡ Some l → far_end x (ends_of_entry l) ≡ Some v → ¬ Joined (take i (tree_links ls)) x v
    → slice_get (links_at x ls) (index_in v (ends_at x ls)) ≡ Some l
first_link x v [] i l is far none = absurd (none-some l is)
first_link x v (k ∷ ls) zero l is far none =
    let here = same_Some k l is in
    let far' = subst (λ (m : LinkEntry). far_end x (ends_of_entry m) ≡ Some v) (sym here) far in
    ap (λ (ms : List LinkEntry). slice_get ms (index_in v (ends_at x (k ∷ ls)))) (cond-true (is_end x k) (k ∷ links_at x ls) (links_at x ls) (is_of x v k far'))
    ∙ ap (slice_get (k ∷ links_at x ls)) (at_place (far_end x (ends_of_entry k)) (ends_at x ls) v far') ∙ is
first_link x v (k ∷ ls) (suc i) l is far none =
    let rest = first_link x v ls i l is far (λ h. none (inr h)) in
    elim (leads x k) [
      | inr h ↦ (
          ap (λ (ms : List LinkEntry). slice_get ms (index_in v (ends_at x (k ∷ ls)))) (cond-false (is_end x k) (k ∷ links_at x ls) (links_at x ls) h.1)
          ∙ ap (λ (o : Option ℕ). slice_get (links_at x ls) (index_in v (cons_option o (ends_at x ls)))) h.0 ∙ rest)
      | inl h ↦ (
          let u = h.0 in
          let other : (u == v) ≡ false = ne_eqb u v (λ e. none (inl (subst (λ (w : ℕ). Joins (ends_of_entry k) x w) e h.2))) in
          ap (λ (ms : List LinkEntry). slice_get ms (index_in v (ends_at x (k ∷ ls)))) (cond-true (is_end x k) (k ∷ links_at x ls) (links_at x ls) (is_of x u k h.1))
          ∙ ap (λ (o : Option ℕ). slice_get (k ∷ links_at x ls) (index_in v (cons_option o (ends_at x ls)))) h.1
          ∙ ap (slice_get (k ∷ links_at x ls))
          (cond-true (not (u == v)) (1 + index_in v (ends_at x ls)) 0 (not_from_false (u == v) other)
          ∙ (let e : 1 + index_in v (ends_at x ls) ≡ suc (index_in v (ends_at x ls)) = omega arith in e))
          ∙ rest)
    ]

-- a node has as many ports as links that it is an end of, whatever is made of each
pub one_end : {X : Type 0} (x : ℕ) (l : LinkEntry) (near far : X) (rest : List X) (others : List ℕ) → length rest ≡ length others
    → length ((if l.a.0 == x then near ∷ [] else if l.b.0 == x then far ∷ [] else []) ++ rest) ≡ length (cons_option (far_end x (ends_of_entry l)) others)
one_end {X} x l near far rest others e = by (l.a.0 == x) (l.b.0 == x)
  where
    by : (a b : Bool)
        → length ((if a then near ∷ [] else if b then far ∷ [] else []) ++ rest) ≡ length (cons_option (if a then Some l.b.0 else (if b then Some l.a.0 else None)) others)
    by true b = ap suc e
    by false true = ap suc e
    by false false = e

-- ---- what an entry says of its link

pub get_link : (ls : List LinkEntry) (i : ℕ) (e : LinkEntry) (d : Link) → slice_get ls i ≡ Some e → get_or (tree_links ls) i d ≡ ends_of_entry e
get_link [] i e d is = absurd (none-some e is)
get_link (l ∷ ls) zero e d is = ap ends_of_entry (same_Some l e is)
get_link (l ∷ ls) (suc i) e d is = get_link ls i e d is

pub get_entry : (ls : List LinkEntry) (i : ℕ) (e d : LinkEntry) → slice_get ls i ≡ Some e → get_or ls i d ≡ e
get_entry [] i e d is = absurd (none-some e is)
get_entry (l ∷ ls) zero e d is = same_Some l e is
get_entry (l ∷ ls) (suc i) e d is = get_entry ls i e d is

pub get_rate : (ls : List LinkEntry) (i : ℕ) (e : LinkEntry) (d : Rate) → slice_get ls i ≡ Some e → get_or (map (λ (l : LinkEntry). l.rate) ls) i d ≡ e.rate
get_rate [] i e d is = absurd (none-some e is)
get_rate (l ∷ ls) zero e d is = ap (λ (m : LinkEntry). m.rate) (same_Some l e is)
get_rate (l ∷ ls) (suc i) e d is = get_rate ls i e d is

pub get_short : (ls : List LinkEntry) (i : ℕ) (e : LinkEntry) → slice_get ls i ≡ Some e → i < length (tree_links ls)
get_short [] i e is = absurd (none-some e is)
get_short (l ∷ ls) zero e is = omega arith
get_short (l ∷ ls) (suc i) e is = let lt = get_short ls i e is in omega arith

-- so many hundredths of a rate
pub share_below : (share : ℕ) (r : Rate) → share ≤ 90 → share * bits_of r / 100 < bits_of r
share_below share M100 le = omega (arith, le)
share_below share G1 le = omega (arith, le)
share_below share G10 le = omega (arith, le)

-- a plan's rules, at the entry of a link
module _ (plan : Plan) (rules : KeepsRules plan) (i : ℕ) (e : LinkEntry) (is : slice_get plan.links i ≡ Some e) where
  -- no earlier link joins its ends
  pub first_joins : ¬ Joined (take i (tree_links plan.links)) e.a.0 e.b.0
  first_joins =
      let d = ends_of_entry e in
      subst (λ (l : Link). ¬ Joined (take i (tree_links plan.links)) l.a.0 l.b.0) (get_link plan.links i e d is)
      (rules.accepted.tree.graph.no_second i d (get_short plan.links i e is))

  pub differ : e.a.0 ≢ e.b.0
  differ =
      let d = ends_of_entry e in
      subst (λ (l : Link). l.a.0 ≢ l.b.0) (get_link plan.links i e d is) (rules.accepted.tree.graph.no_self i d (get_short plan.links i e is))

  pub shares : e.delta_a + e.delta_b ≤ 90
  shares =
      subst (λ (l : LinkEntry). l.delta_a + l.delta_b ≤ 90) (get_entry plan.links i e e is)
      (rules.link_forms i e (let lt = get_short plan.links i e is in omega (arith, lt, length-map plan.links ends_of_entry))).0

-- ---- who is an end station, and who is joined

pub station_kind : (nodes : List NodeEntry) (i : ℕ) → i < length nodes → ((d : NodeEntry) → is_station (get_or nodes i d).kind ≡ true) → slice_get (node_kinds nodes) i ≡ Some Station
station_kind [] i lt h = absurd (omega arith)
station_kind (n ∷ nodes) zero lt h = ap Some (station-is n.kind (h n))
station_kind (n ∷ nodes) (suc i) lt h = let less : i < length nodes = omega arith in station_kind nodes i less h

-- a link that joins two nodes joins them the other way round
link_joins : (l : LinkEntry) (x y : ℕ) → joins_both x y l ≡ true → Joins (record { a = l.a; b = l.b }) y x
link_joins l x y h = by (or_true (l.a.0 == x && l.b.0 == y) (l.a.0 == y && l.b.0 == x) h)
  where
    by : ((l.a.0 == x && l.b.0 == y) ≡ true) ⊎ ((l.a.0 == y && l.b.0 == x) ≡ true) → Joins (record { a = l.a; b = l.b }) y x
    by (inl e) = let both = and_true _ _ e in inr (same_number l.a.0 x both.0, same_number l.b.0 y both.1)
    by (inr e) = let both = and_true _ _ e in inl (same_number l.a.0 y both.0, same_number l.b.0 x both.1)

pub some_joins : (ls : List LinkEntry) (x y : ℕ) → list_any (joins_both x y) ls ≡ true → Joined (tree_links ls) y x
some_joins [] x y h = cc
some_joins (l ∷ ls) x y h = by (or_true (joins_both x y l) (list_any (joins_both x y) ls) h) (some_joins ls x y)
  where
    by : (joins_both x y l ≡ true) ⊎ (list_any (joins_both x y) ls ≡ true) → (list_any (joins_both x y) ls ≡ true → Joined (tree_links ls) y x) → Joined (tree_links (l ∷ ls)) y x
    by (inl e) later = inl (link_joins l x y e)
    by (inr e) later = inr (later e)
