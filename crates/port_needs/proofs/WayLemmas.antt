-- The ports by which frames leave are those of the walk.
use Rattle.std.proofs.Common.{◌≡◌, ◌≢◌, ◌⊎◌, ℕ, zero, suc, ◌<◌, Bool, true, false, not, ◌&&◌, List, ◌∷◌, length, Some, sym, ap, subst, ◌∙◌, inl, inr, arith}
use Rattle.std.specs.Prelude.{◌↔◌, slice_get}
use Rattle.std.proofs.lemmas.{Bool.and_from, Bool.and_left, Bool.cases_Bool, Bool.cases_eq, Bool.true≢false, Bool.not-true, Bool.not_from_false, Bool.false_from_ne_true, Option.none-some, Option.same_Some}
use Rattle.srp_base.specs.declared.numbers.EgressPort.{EgressPort}
use Rattle.tree_topology.specs.{Topology.Topology, Topology.HasNode, Topology.HasPort, Ports.far_node, Ports.peer_of, Walk.path_between, Walk.is_behind, Walk.count_behind, PortLaws.HasBeyond, PortLaws.HasPortLaws}
use Rattle.port_needs.specs.{leads_to, IsOnWay}

same_port : (p q : EgressPort) → p.node.0 ≡ q.node.0 → p.port.0 ≡ q.port.0 → p ≡ q
same_port p q e f =
    ap (λ (n : ℕ). record { node = record { 0 = n }; port = p.port }) e ∙ ap (λ (n : ℕ). record { node = q.node; port = record { 0 = n } }) f

cases_port : (p q : EgressPort) → (p ≡ q) ⊎ (p ≢ q)
cases_port p q =
    elim (cases_eq p.node.0 q.node.0) [
      | inl e ↦ elim (cases_eq p.port.0 q.port.0) [
        | inl f ↦ inl (same_port p q e f)
        | inr g ↦ inr (λ h. g (ap (λ (r : EgressPort). r.port.0) h))
      ]
      | inr g ↦ inr (λ h. g (ap (λ (r : EgressPort). r.node.0) h))
    ]

off : (b : Bool) → (b && not b) ≡ true → ⊥
off true h = cc
off false h = cc

module _ (tree : Topology) (laws : HasPortLaws tree) where
  abbrev far : EgressPort → ℕ
  far p = far_node tree.links p

  abbrev peer : EgressPort → EgressPort
  peer p = peer_of tree.links p

  abbrev behind : EgressPort → ℕ → Bool
  behind p y = is_behind tree.links p y

  abbrev count : EgressPort → ℕ
  count p = count_behind (length tree.kinds) tree.links p

  far_is_node : (p : EgressPort) → HasPort tree p → HasNode tree (far p)
  far_is_node p h = (laws.peer_port p h).0

  -- with a node behind a port lies each neighbour of it, but for the port's own link
  stays : (n : ℕ) (p q : EgressPort) → HasPort tree p → HasPort tree q → count p < n → p ≢ peer q → behind p q.node.0 ≡ true
      → behind p (far q) ≡ true
  stays zero p q hp hq lt apart h = absurd (omega arith)
  stays (suc n) p q hp hq lt apart h =
      by (laws.no_more p q.node.0 hp hq.0 h) (λ r hr less away b. stays n r q hr hq less away b)
    where
      back : q ≢ peer p
      back e = apart (sym (ap peer e ∙ laws.peer_twice p hp))

      by : (q.node.0 ≡ far p) ⊎ HasBeyond tree (λ r. behind r q.node.0) p
          → ((r : EgressPort) → HasPort tree r → count r < n → r ≢ peer q → behind r q.node.0 ≡ true → behind r (far q) ≡ true)
          → behind p (far q) ≡ true
      by (inl e) further = laws.beyond p q (far q) hp hq (far_is_node q hq) e back (laws.far q hq)
      by (inr s) further =
          let r = s.0 in
          let less : count r < n = omega (arith, laws.ahead_falls p r hp s.1 s.2 s.3, lt) in
          elim (cases_port r (peer q)) [
            | inl e ↦ (
                let same : far q ≡ far p = sym (ap (λ (t : EgressPort). t.node.0) e) ∙ s.2 in
                ap (λ (y : ℕ). behind p y) same ∙ laws.far p hp)
            | inr away ↦ laws.beyond p r (far q) hp s.1 (far_is_node q hq) s.2 s.3 (further r s.1 less away s.4)
          ]

  goes : (p q : EgressPort) → HasPort tree p → HasPort tree q → p ≢ peer q → behind p q.node.0 ≡ true → behind p (far q) ≡ true
  goes p q hp hq apart h = stays (suc (count p)) p q hp hq (omega arith) apart h

  -- both ends of another port's link lie on one side of a port
  same_side : (p q : EgressPort) → HasPort tree p → HasPort tree q → p ≢ q → p ≢ peer q → behind p q.node.0 ≡ behind p (far q)
  same_side p q hp hq ne apart =
      elim (cases_Bool (behind p q.node.0)) [
        | inl h ↦ h ∙ sym (goes p q hp hq apart h)
        | inr h ↦ h ∙ sym (false_from_ne_true (behind p (far q)) (λ k.
            let round = goes p (peer q) hp (laws.peer_port q hq) (λ e. ne (e ∙ laws.peer_twice q hq)) k in
            true≢false (sym (sym (ap (λ (y : ℕ). behind p y) (laws.peer_back q hq)) ∙ round) ∙ h)))
      ]

  -- what lies behind a port doesn't lie behind its peer
  not_back : (q : EgressPort) (y : ℕ) → HasPort tree q → HasNode tree y → behind q y ≡ true → behind (peer q) y ≡ false
  not_back q y hq hy h = not-true' (behind (peer q) y) (sym (laws.sides q y hq hy) ∙ h)
    where
      not-true' : (t : Bool) → not t ≡ true → t ≡ false
      not-true' t e = not-true t e

  -- by the first port of the way nothing changes for the others
  leads_on : (p q : EgressPort) (y : ℕ) → HasPort tree p → HasPort tree q → HasNode tree y → behind q y ≡ true → p ≢ q
      → leads_to tree p q.node.0 y ≡ leads_to tree p (far q) y
  leads_on p q y hp hq hy h ne =
      elim (cases_port p (peer q)) [
        | inl e ↦ (
            let none : behind p y ≡ false = ap (λ (r : EgressPort). behind r y) e ∙ not_back q y hq hy h in
            and_left (behind p y) (not (behind p q.node.0)) none ∙ sym (and_left (behind p y) (not (behind p (far q))) none))
        | inr apart ↦ ap (λ (b : Bool). behind p y && not b) (same_side p q hp hq ne apart)
      ]

  abbrev Is : EgressPort → ℕ → ℕ → Type 0
  Is p x y = (leads_to tree p x y ≡ true) ↔ IsOnWay tree x y p

  -- a way begins with the port that leads there
  step : (p q : EgressPort) (y : ℕ) → HasPort tree p → HasPort tree q → HasNode tree y → behind q y ≡ true → Is p (far q) y → Is p q.node.0 y
  step p q y hp hq hy h further = by (cases_port p q)
    where
      way : path_between tree.links q.node.0 y ≡ q ∷ path_between tree.links (far q) y
      way = laws.path_first q y hq hy h

      out : ¬ (behind q q.node.0 ≡ true)
      out = laws.own q hq

      by : (p ≡ q) ⊎ (p ≢ q) → Is p q.node.0 y
      by (inl e) = (
        λ _. (0, ap (λ (ps : List EgressPort). slice_get ps 0) way ∙ ap Some (sym e)),
        λ _. ap (λ (r : EgressPort). leads_to tree r q.node.0 y) e
            ∙ and_from (behind q y) (not (behind q q.node.0)) h (not_from_false (behind q q.node.0) (false_from_ne_true (behind q q.node.0) out)),
      )
      by (inr ne) = (
        λ l. let on = further.0 (sym (leads_on p q y hp hq hy h ne) ∙ l) in
            (suc on.0, ap (λ (ps : List EgressPort). slice_get ps (suc on.0)) way ∙ on.1),
        λ on. leads_on p q y hp hq hy h ne ∙ further.1 (later on.0 (sym (ap (λ (ps : List EgressPort). slice_get ps on.0) way) ∙ on.1)),
      )
        where
          later : (i : ℕ) → slice_get (q ∷ path_between tree.links (far q) y) i ≡ Some p → IsOnWay tree (far q) y p
          later zero is = absurd (ne (sym (same_Some q p is)))
          later (suc i) is = (i, is)

  here : (p : EgressPort) (x : ℕ) → HasNode tree x → Is p x x
  here p x hx = (
    λ l. absurd (off (behind p x) l),
    λ on. absurd (none-some p (sym (ap (λ (ps : List EgressPort). slice_get ps on.0) (laws.path_none x hx)) ∙ on.1)),
  )

  on_way : (n : ℕ) (p : EgressPort) (x y : ℕ) → HasPort tree p → HasNode tree x → HasNode tree y → length (path_between tree.links x y) < n → Is p x y
  on_way zero p x y hp hx hy lt = absurd (omega arith)
  on_way (suc n) p x y hp hx hy lt = by (laws.some_port x y hx hy) (λ z hz less. on_way n p z y hp hz hy less)
    where
      by : (x ≡ y) ⊎ ((q : EgressPort) × HasPort tree q × (q.node.0 ≡ x) × (behind q y ≡ true))
          → ((z : ℕ) → HasNode tree z → length (path_between tree.links z y) < n → Is p z y) → Is p x y
      by (inl e) further = subst (λ (z : ℕ). Is p x z) e (here p x hx)
      by (inr s) further =
          let q = s.0 in
          let way : path_between tree.links x y ≡ q ∷ path_between tree.links (far q) y =
          sym (ap (λ (z : ℕ). path_between tree.links z y) s.2) ∙ laws.path_first q y s.1 hy s.3 in
          let less : length (path_between tree.links (far q) y) < n = omega (arith, lt, ap (λ (ps : List EgressPort). length ps) way) in
          subst (λ (z : ℕ). Is p z y) s.2 (step p q y hp s.1 hy s.3 (further (far q) (far_is_node q s.1) less))

  pub leaves_by_way : (p : EgressPort) (x y : ℕ) → HasPort tree p → HasNode tree x → HasNode tree y
      → (leads_to tree p x y ≡ true) ↔ IsOnWay tree x y p
  leaves_by_way p x y hp hx hy = on_way (suc (length (path_between tree.links x y))) p x y hp hx hy (omega arith)
