-- Links that join each next node with one before it, which is a bridge, are an accepted tree.
use Rattle.std.proofs.Common.{◌≡◌, ◌≢◌, ℕ, zero, suc, ◌+◌, ◌-◌, ◌≤◌, ◌<◌, inl, inr, List, [], ◌∷◌, ◌++◌, length, take, get_or, Some, None, refl, sym, ap, ◌∙◌, subst, arith}
use Rattle.std.specs.Prelude.{◌==◌}
use Rattle.std.proofs.lemmas.Bool.{cases_Bool, eq-eqb, eqb-true, eqb-false}
use Rattle.tree_topology.specs.declared.{graph.Link.Link, graph.NodeKind.NodeKind, graph.NodeKind.TheVariants.Station}
use Rattle.tree_topology.specs.{Graph.IsNode, Graph.Joined, Graph.IsWalk, Graph.Connected, Graph.IsGraph, Graph.IsTree, Ports.far_end, Ports.neighbours, Refusal.IsAccepted, Refusal.HasNoLoop}

-- the link joins node n with an earlier one, which is one of so many bridges
pub record IsNext (bridges n : ℕ) (l : Link) : Type 0 where
  pub a : l.a.0 ≡ n
  pub some : 1 ≤ l.b.0
  pub earlier : l.b.0 < n
  pub bridge : l.b.0 ≤ bridges

-- the first link joins node n so, the second one node n + 1, and so on
abbrev pub IsGrown : ℕ → ℕ → List Link → Type 0
IsGrown bridges n [] = Unit {0}
IsGrown bridges n (l ∷ links) = IsNext bridges n l × IsGrown bridges (suc n) links

pub grown-from-each : (bridges n : ℕ) (links : List Link) → ((i : ℕ) (d : Link) → i < length links → IsNext bridges (n + i) (get_or links i d)) → IsGrown bridges n links
grown-from-each bridges n [] each = tt
grown-from-each bridges n (l ∷ links) each =
    let here : n + 0 ≡ n = omega arith in (
      subst (λ (k : ℕ). IsNext bridges k l) here (each 0 l (omega arith)),
      grown-from-each bridges (suc n) links (λ i d lt.
          let e : n + suc i ≡ suc n + i = omega arith in
          subst (λ (k : ℕ). IsNext bridges k (get_or links i d)) e (each (suc i) d (omega (arith, lt)))),
    )

-- the link at a place
at-place : (bridges n : ℕ) (links : List Link) (i : ℕ) (d : Link) → IsGrown bridges n links → i < length links → IsNext bridges (i + n) (get_or links i d)
at-place bridges n [] i d grown lt = absurd (omega (arith, lt))
at-place bridges n (l ∷ links) zero d grown lt =
    let e : n ≡ 0 + n = omega arith in
    subst (λ (k : ℕ). IsNext bridges k l) e grown.0
at-place bridges n (l ∷ links) (suc i) d grown lt =
    let e : i + suc n ≡ suc i + n = omega arith in
    subst (λ (k : ℕ). IsNext bridges k (get_or links i d)) e (at-place bridges (suc n) links i d grown.1 (omega (arith, lt)))

-- links before a place join nodes before that of the place
below-ends : (bridges n : ℕ) (links : List Link) (i x y : ℕ) → IsGrown bridges n links → Joined (take i links) x y → (x < i + n) × (y < i + n)
below-ends bridges n [] zero x y grown joined = absurd joined
below-ends bridges n [] (suc i) x y grown joined = absurd joined
below-ends bridges n (l ∷ links) zero x y grown joined = absurd joined
below-ends bridges n (l ∷ links) (suc i) x y grown (inl (inl ends)) =
    let a = grown.0.a in
    let b = grown.0.earlier in
    (omega (arith, a, b, ends.0, ends.1), omega (arith, a, b, ends.0, ends.1))
below-ends bridges n (l ∷ links) (suc i) x y grown (inl (inr ends)) =
    let a = grown.0.a in
    let b = grown.0.earlier in
    (omega (arith, a, b, ends.0, ends.1), omega (arith, a, b, ends.0, ends.1))
below-ends bridges n (l ∷ links) (suc i) x y grown (inr later) =
    let h = below-ends bridges (suc n) links i x y grown.1 later in
    (omega (arith, h.0), omega (arith, h.1))

-- the link at a place joins its ends
joined-at : (links : List Link) (i : ℕ) (d : Link) → i < length links → Joined links (get_or links i d).b.0 (get_or links i d).a.0
joined-at [] i d lt = absurd (omega (arith, lt))
joined-at (l ∷ links) zero d lt = inl (inr (refl, refl))
joined-at (l ∷ links) (suc i) d lt = inr (joined-at links i d (omega (arith, lt)))

-- a walk with one more step
one-more : (Adjacent : ℕ → ℕ → Type 0) (x : ℕ) (walk : List ℕ) (y z : ℕ) → IsWalk Adjacent x walk y → Adjacent y z → IsWalk Adjacent x (walk ++ (z ∷ [])) z
one-more Adjacent x [] y z is step = (subst (λ (v : ℕ). Adjacent v z) (sym is) step, refl)
one-more Adjacent x (v ∷ walk) y z is step = (is.0, one-more Adjacent v walk y z is.1 step)

-- ---- the graph is a tree: its nodes are one more than its links

module _ (bridges : ℕ) (links : List Link) (grown : IsGrown bridges 2 links) where
  here : (i : ℕ) (d : Link) → i < length links → IsNext bridges (i + 2) (get_or links i d)
  here i d lt = at-place bridges 2 links i d grown lt

  graph : IsGraph (1 + length links) links
  graph = record {
    known = λ i d lt.
        let h = here i d lt in
        let a = h.a in
        let b = h.some in
        let c = h.earlier in
        ((omega (arith, a), omega (arith, a, lt)), (b, omega (arith, c, lt)));
    no_self = λ i d lt e.
        let h = here i d lt in
        let a = h.a in
        let c = h.earlier in
        omega (arith, a, c, e);
    no_second = λ i d lt joined.
        let h = below-ends bridges 2 links i (get_or links i d).a.0 (get_or links i d).b.0 grown joined in
        let low = h.0 in
        let a = (here i d lt).a in
        omega (arith, a, low);
  }

  -- the node of a link has no earlier link, so no walk over earlier ones leads away from it
  no-way : (i : ℕ) (d : Link) → i < length links → (walk : List ℕ) → IsWalk (Joined (take i links)) (get_or links i d).a.0 walk (get_or links i d).b.0 → ⊥
  no-way i d lt [] is =
      let a = (here i d lt).a in
      let c = (here i d lt).earlier in
      omega (arith, a, c, is)
  no-way i d lt (v ∷ walk) is =
      let h = below-ends bridges 2 links i (get_or links i d).a.0 v grown is.0 in
      let low = h.0 in
      let a = (here i d lt).a in
      omega (arith, a, low)

  no-loop : HasNoLoop links
  no-loop i d lt closes = no-way i d lt closes.0 closes.1

  -- each node is reached from node 1, by way of the earlier node that it is joined with
  reached : (fuel x : ℕ) → x ≤ fuel → IsNode (1 + length links) x → Connected links 1 x
  reached zero x le is = let low = is.0 in absurd (omega (arith, le, low))
  reached (suc fuel) zero le is = let low = is.0 in absurd (omega (arith, low))
  reached (suc fuel) (suc zero) le is = ([], refl)
  reached (suc fuel) (suc (suc i)) le is =
      let d : Link = record { a = record { 0 = 0 }; b = record { 0 = 0 } } in
      let high = is.1 in
      let lt : i < length links = omega (arith, high) in
      let h = here i d lt in
      let some = h.some in
      let earlier = h.earlier in
      let a = h.a in
      let e : (get_or links i d).a.0 ≡ suc (suc i) = omega (arith, a) in
      let before = reached fuel (get_or links i d).b.0 (omega (arith, earlier, le)) (some, omega (arith, earlier, high)) in (
        before.0 ++ (suc (suc i) ∷ []),
        one-more (Joined links) 1 before.0 (get_or links i d).b.0 (suc (suc i)) before.1
            (subst (λ (x : ℕ). Joined links (get_or links i d).b.0 x) e (joined-at links i d lt)),
      )

-- ---- stations have one link

far-none : (x : ℕ) (l : Link) → l.a.0 ≢ x → l.b.0 ≢ x → far_end x l ≡ None
far-none x l a b =
    elim (cases_Bool (l.a.0 == x)) [
      | inl is ↦ absurd (a (eqb-true l.a.0 x is))
      | inr no_a ↦ elim (cases_Bool (l.b.0 == x)) [
        | inl is ↦ absurd (b (eqb-true l.b.0 x is))
        | inr no_b ↦ rw (no_a, no_b) refl
      ]
    ]

far-some : (x : ℕ) (l : Link) → l.a.0 ≡ x → far_end x l ≡ Some l.b.0
far-some x l a = rw (eq-eqb l.a.0 x a) refl

none-before : (bridges n x : ℕ) (links : List Link) → IsGrown bridges n links → bridges < x → x < n → length (neighbours links x) ≡ 0
none-before bridges n x [] grown past lt = refl
none-before bridges n x (l ∷ links) grown past lt =
    let a = grown.0.a in
    let b = grown.0.bridge in
    rw (far-none x l (λ e. omega (arith, a, e, lt)) (λ e. omega (arith, b, e, past))) (none-before bridges (suc n) x links grown.1 past (omega (arith, lt)))

one-link : (bridges n x : ℕ) (links : List Link) → IsGrown bridges n links → bridges < x → n ≤ x → x < length links + n → length (neighbours links x) ≡ 1
one-link bridges n x [] grown past le lt = absurd (omega (arith, le, lt))
one-link bridges n x (l ∷ links) grown past le lt =
    let a = grown.0.a in
    let b = grown.0.bridge in
    elim (cases_Bool (n == x)) [
      | inl same ↦
          let e = eqb-true n x same in
          rw (far-some x l (a ∙ e)) (ap suc (none-before bridges (suc n) x links grown.1 past (omega (arith, e))))
      | inr other ↦
          let apart = eqb-false n x other in
          rw (far-none x l (λ e. apart (sym a ∙ e)) (λ e. omega (arith, b, e, past)))
          (one-link bridges (suc n) x links grown.1 past (omega (arith, apart, le)) (omega (arith, lt)))
    ]

-- a node has at most as many links as there are
pub few-links : (x : ℕ) (links : List Link) → length (neighbours links x) ≤ length links
few-links x [] = omega arith
few-links x (l ∷ links) =
    let h = few-links x links in
    elim (cases_Bool (l.a.0 == x)) [
      | inl is ↦ rw is (omega (arith, h))
      | inr no_a ↦ elim (cases_Bool (l.b.0 == x)) [
        | inl is ↦ rw (no_a, is) (omega (arith, h))
        | inr no_b ↦ rw (no_a, no_b) (omega (arith, h))
      ]
    ]

pub grown-accepted : (bridges : ℕ) (kinds : List NodeKind) (links : List Link) → 1 ≤ bridges → length kinds ≡ 1 + length links → length links ≤ 255 → IsGrown bridges 2 links
    → ((x : ℕ) → IsNode (length kinds) x → ((d : NodeKind) → get_or kinds (x - 1) d ≡ Station) → bridges < x)
    → ((count : ℕ) (ls : List Link) → IsGraph count ls → HasNoLoop ls → ((x : ℕ) → IsNode count x → Connected ls 1 x) → IsTree count ls)
    → IsAccepted kinds links
grown-accepted bridges kinds links some size small grown stations tree = record {
  tree = subst (λ (n : ℕ). IsTree n links) (sym size)
      (tree (1 + length links) links (graph bridges links grown) (no-loop bridges links grown) (λ x is. reached bridges links grown x x (omega arith) is));
  leaf_stations = λ x is stray.
      let past = stations x is stray.0 in
      let high = is.1 in
      stray.1 (one-link bridges 2 x links grown past (omega (arith, past, some)) (omega (arith, high, size)));
  counted_ports = λ x is. let h = few-links x links in omega (arith, h, small);
}
