-- Each port has the rate of its one link.
use Rattle.std.proofs.Common.{◌≡◌, ℕ, zero, suc, ◌-◌, ◌<◌, inl, inr, Bool, List, [], ◌∷◌, length, get_or, take, refl, sym, ◌∙◌, ap, subst, arith}
use Rattle.std.specs.Prelude.{All, Contains}
use Rattle.std.specs.List.{range_with_len}
use Rattle.std.proofs.lemmas.{Bool.cases_lt, List.Elements.All-nil, List.Elements.All-cons, List.Elements.All-contains, List.Elements.All-weaker, List.Elements.All-contains_itself, List.FromFn.get_or-range_with_len, List.FromFn.length-range_with_len}
use Rattle.srp_base.proofs.Lists.{All-flat_map}
use Rattle.srp_base.specs.declared.{numbers.EgressPort.EgressPort, bandwidth.Rate.TheVariants.M100}
use Rattle.tree_topology.specs.declared.graph.Link.{Link}
use Rattle.tree_topology.specs.{Graph.Joins, Graph.Joined, Graph.IsGraph, Topology.Topology, Topology.HasLink, Topology.IsSound, Ports.far_node, Ports.ends_of, Ports.link_at, PortLaws.HasPortLaws, PortLaws.IsEndOf}
use Rattle.frame_flow.specs.declared.place.Place.{Place}
use Rattle.frame_flow.specs.{Force.is_port, Copies.all_places, Copies.places_of_link, Flow.Setting}
use Rattle.frame_flow.proofs.LevelLemmas.{same-port, port-itself}
use Rattle.delay_flow.proofs.Places.{HasRates}
use Rattle.class_delays.specs.{rate_at, rate_in}
use Rattle.class_delays.proofs.Finds.{found, some-found}

-- ---- no two links have a port in common

joined-at : (links : List Link) (i j : ℕ) (d : Link) (x y : ℕ) → i < j → i < length links → Joins (get_or links i d) x y → Joined (take j links) x y
joined-at [] i j d x y less few joins = absurd (omega (arith, few))
joined-at (l ∷ links) i zero d x y less few joins = absurd (omega (arith, less))
joined-at (l ∷ links) zero (suc j) d x y less few joins = inl joins
joined-at (l ∷ links) (suc i) (suc j) d x y less few joins = inr (joined-at links i j d x y (omega (arith, less)) (omega (arith, few)) joins)

turned : (l : Link) (x y : ℕ) → Joins l x y → Joins l y x
turned l x y (inl h) = inr h
turned l x y (inr h) = inl h

-- the same two nodes, in one order or the other
joins-again : (l m : Link) (x y : ℕ) → Joins l x y → Joins m x y → Joins l m.a.0 m.b.0
joins-again l m x y one (inl h) = subst (λ (v : ℕ). Joins l m.a.0 v) (sym h.1) (subst (λ (u : ℕ). Joins l u y) (sym h.0) one)
joins-again l m x y one (inr h) = subst (λ (v : ℕ). Joins l m.a.0 v) (sym h.1) (subst (λ (u : ℕ). Joins l u x) (sym h.0) (turned l x y one))

not-before : (tree : Topology) → IsGraph (length tree.kinds) tree.links → (n m x y : ℕ) → HasLink tree n → HasLink tree m
    → Joins (link_at tree.links n) x y → Joins (link_at tree.links m) x y → n < m → ⊥
not-before tree graph n m x y one other joins again less =
    let d : Link = record { a = record { 0 = 0 }; b = record { 0 = 0 } } in
    let links = tree.links in
    graph.no_second (m - 1) d (omega (arith, other.0, other.1))
    (joined-at links (n - 1) (m - 1) d (link_at links m).a.0 (link_at links m).b.0 (omega (arith, one.0, less)) (omega (arith, one.0, one.1))
    (joins-again (link_at links n) (link_at links m) x y joins again))

one-link : (tree : Topology) → IsGraph (length tree.kinds) tree.links → (n m x y : ℕ) → HasLink tree n → HasLink tree m
    → Joins (link_at tree.links n) x y → Joins (link_at tree.links m) x y → n ≡ m
one-link tree graph n m x y one other joins again =
    elim (cases_lt n m) [
      | inl less ↦ absurd (not-before tree graph n m x y one other joins again less)
      | inr more ↦ elim (cases_lt m n) [
        | inl less ↦ absurd (not-before tree graph m n x y other one again joins less)
        | inr same ↦ omega (arith, more, same)
      ]
    ]

joined-of : (links : List Link) (i : ℕ) (d : Link) (x y : ℕ) → i < length links → Joins (get_or links i d) x y → Joined links x y
joined-of [] i d x y few joins = absurd (omega (arith, few))
joined-of (l ∷ links) zero d x y few joins = inl joins
joined-of (l ∷ links) (suc i) d x y few joins = inr (joined-of links i d x y (omega (arith, few)) joins)

-- a link joins the node of a port that is an end of it with the port's far node
end-joins : (tree : Topology) → HasPortLaws tree → (p : EgressPort) (n : ℕ) → HasLink tree n → IsEndOf tree p n → Joins (link_at tree.links n) p.node.0 (far_node tree.links p)
end-joins tree laws p n link end =
    let links = tree.links in
    let d : Link = record { a = record { 0 = 0 }; b = record { 0 = 0 } } in
    let l = link_at links n in
    let few : n - 1 < length links = omega (arith, link.0, link.1) in
    let far : EgressPort → ℕ = λ t. far_node links t in
    let node : EgressPort → ℕ = λ t. t.node.0 in
    elim end [
      | inl is ↦ inl (ap node (sym is), sym (laws.joined_far l.a.0 l.b.0 (joined-of links (n - 1) d l.a.0 l.b.0 few (inl (refl, refl)))) ∙ ap far (sym is))
      | inr is ↦ inr (sym (laws.joined_far l.b.0 l.a.0 (joined-of links (n - 1) d l.b.0 l.a.0 few (inr (refl, refl)))) ∙ ap far (sym is), ap node (sym is))
    ]

-- ---- a place is one of a link's

record IsOfLink (s : Setting) (x : Place) : Type 0 where
  number : ℕ
  link : HasLink s.tree number
  end : IsEndOf s.tree x.at number
  rate : x.rate ≡ get_or s.rates (number - 1) M100

of-link : (s : Setting) (n : ℕ) → HasLink s.tree n → All (IsOfLink s) (places_of_link s.tree.links s.rates n)
of-link s n link =
    let ends = ends_of s.tree.links n in
    let rate = get_or s.rates (n - 1) M100 in
    let a : Place = record { at = ends.0; rate = rate } in
    let b : Place = record { at = ends.1; rate = rate } in
    All-cons (IsOfLink s) a (b ∷ []) (record { number = n; link = link; end = inl refl; rate = refl })
    (All-cons (IsOfLink s) b [] (record { number = n; link = link; end = inr refl; rate = refl }) (All-nil (IsOfLink s)))

of-links : (s : Setting) → All (IsOfLink s) (all_places s.tree.links s.rates)
of-links s =
    let n = length s.tree.links in
    let H : ℕ → Type 0 = λ k. HasLink s.tree k in
    All-flat_map H (IsOfLink s) (places_of_link s.tree.links s.rates) (λ k h. of-link s k h) (range_with_len 1 n)
    (λ i d below.
    let few : i < n = omega (arith, below, length-range_with_len 1 n) in
    subst H (sym (get_or-range_with_len 1 n i d few)) (omega arith, omega (arith, few)))

-- places of one port are one
one-rate : (s : Setting) → HasPortLaws s.tree → IsSound s.tree → (x y : Place) → IsOfLink s x → IsOfLink s y → x.at ≡ y.at → x.rate ≡ y.rate
one-rate s laws sound x y one other same =
    let p = y.at in
    let far = far_node s.tree.links p in
    let end = subst (λ (t : EgressPort). IsEndOf s.tree t one.number) same one.end in
    let number = one-link s.tree sound.tree.graph one.number other.number p.node.0 far one.link other.link
    (end-joins s.tree laws p one.number one.link end) (end-joins s.tree laws p other.number other.link other.end) in
    one.rate ∙ ap (λ (k : ℕ). get_or s.rates (k - 1) M100) number ∙ sym other.rate

pub rates-are : (s : Setting) → HasPortLaws s.tree → IsSound s.tree → HasRates s (rate_at s)
rates-are s laws sound =
    let places = all_places s.tree.links s.rates in
    All-weaker (λ x. Contains places x) (λ x. x.rate ≡ rate_at s x.at)
    (λ x has.
    let test : Place → Bool = λ y. is_port y.at x.at in
    let some = some-found test places x has (port-itself x.at) in
    let is = found test places some.0 some.1 in
    let L : Place → Type 0 = λ t. IsOfLink s t in
    let same = sym (same-port some.0.at x.at is.0) in
    one-rate s laws sound x some.0 (All-contains L places x (of-links s) has) (All-contains L places some.0 (of-links s) is.1) same
    ∙ sym (ap rate_in some.1))
    places (All-contains_itself places)
