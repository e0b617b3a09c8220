-- The groups of what comes to a port have no more slope together than the streams that are fed there.
use Rattle.std.proofs.Common.{◌≡◌, ◌≢◌, ℕ, ◌+◌, ◌<◌, ◌≤◌, inl, inr, Bool, true, false, cond, List, [], ◌∷◌, length, get_or, map, refl, sym, ◌∙◌, ap, subst, arith}
use Rattle.std.specs.Prelude.{All, AllPairs, filter, sum_by, not, ◌==◌, ◌&&◌}
use Rattle.std.proofs.lemmas.{Bool.cond-true, Bool.cond-false, Bool.cases_Bool, Bool.eqb-true, List.Elements.All-head, List.Elements.All-tail, List.Elements.All-filter, List.FromFn.get_or-map-range_with_len, List.FromFn.length-map-range_with_len, List.Kept.AllPairs-filter, List.Sums.sum_by-cons}
use Rattle.credit_shaper.proofs.PairLemmas.{pairs-head, pairs-tail}
use Rattle.srp_base.specs.declared.{numbers.EgressPort.EgressPort}
use Rattle.tree_topology.specs.{Topology.HasPort, Ports.neighbours, Walk.is_behind, PortLaws.HasPortLaws}
use Rattle.frame_flow.specs.{Force.is_port, Copies.ports_at, Copies.port_of}
use Rattle.frame_flow.proofs.LevelLemmas.{IsPortOf, ports-are}
use Rattle.delay_bound.specs.declared.{bound.Group.Group, stream.ClassStream.ClassStream}
use Rattle.delay_bound.specs.Bounds.{first_slopes}
use Rattle.delay_bound.proofs.WindowLemmas.{sum_both, sum_same}
use Rattle.delay_flow.specs.{Ways.is_fed, Rules.own_group, Rules.group_by, Rules.other_ports}
use Rattle.class_delays.specs.{ClassSetting, numbers_of, IsCoveredAt, IsSteepAt}

-- ---- of the others of a node's ports at most one passes

ports-apart : (a : ClassSetting) (x : ℕ) → AllPairs (λ r t. r ≢ t) (ports_at a.setting.tree.links x)
ports-apart a x i j d lt below e =
    let n = length (neighbours a.setting.tree.links x) in
    let few : j < n = omega (arith, below, length-map-range_with_len (port_of x) 1 n) in
    let one = get_or-map-range_with_len (port_of x) 1 n i (1 + i) d (omega (arith, few, lt)) refl in
    let two = get_or-map-range_with_len (port_of x) 1 n j (1 + j) d few refl in
    let same : 1 + i ≡ 1 + j = ap (λ (t : EgressPort). t.port.0) (sym one ∙ e ∙ two) in
    omega (arith, lt, same)

-- a value counts once at most where no two of some tests hold
sum-none : {X : Type 0} (test : X → Bool) (v : ℕ) (xs : List X) → All (λ x. test x ≡ false) xs → sum_by (λ x. cond (test x) v 0) xs ≡ 0
sum-none test v [] none = refl
sum-none {X} test v (x ∷ xs) none =
    let N : X → Type 0 = λ t. test t ≡ false in
    omega (arith, sum_by-cons (λ t. cond (test t) v 0) x xs, cond-false (test x) v 0 (All-head N x xs none), sum-none test v xs (All-tail N x xs none))

abbrev Exclude : {X : Type 0} → (X → Bool) → X → X → Type 0
Exclude test x y = test x ≡ true → test y ≡ false

sum-once : {X : Type 0} (test : X → Bool) (v : ℕ) (xs : List X) → AllPairs (Exclude test) xs → sum_by (λ x. cond (test x) v 0) xs ≤ v
sum-once test v [] once = omega arith
sum-once {X} test v (x ∷ xs) once =
    let f : X → ℕ = λ t. cond (test t) v 0 in
    elim (cases_Bool (test x)) [
      | inl is ↦ (
          let none = sum-none test v xs (λ k d below. pairs-head (Exclude test) x xs once k d below is) in
          omega (arith, sum_by-cons f x xs, cond-true (test x) v 0 is, none))
      | inr nay ↦ omega (arith, sum_by-cons f x xs, cond-false (test x) v 0 nay, sum-once test v xs (pairs-tail (Exclude test) x xs once))
    ]

-- ---- streams by the tests of their groups

-- one that is fed and passes a test
abbrev passing : (ClassStream → Bool) → (ClassStream → Bool) → List ClassStream → ℕ
passing fed test xs = sum_by (λ x. x.limits.slope) (filter (λ x. fed x && test x) xs)

passing-cons : (fed test : ClassStream → Bool) (x : ClassStream) (xs : List ClassStream)
    → passing fed test (x ∷ xs) ≡ cond (fed x && test x) x.limits.slope 0 + passing fed test xs
passing-cons fed test x xs =
    let both : ClassStream → Bool = λ y. fed y && test y in
    let g : ClassStream → ℕ = λ y. y.limits.slope in
    let rest = filter both xs in
    let sums : List ClassStream → ℕ = λ ys. sum_by g ys in
    elim (cases_Bool (both x)) [
      | inl is ↦ omega (arith, ap sums (cond-true (both x) (x ∷ rest) rest is), sum_by-cons g x rest, cond-true (both x) x.limits.slope 0 is)
      | inr nay ↦ omega (arith, ap sums (cond-false (both x) (x ∷ rest) rest nay), cond-false (both x) x.limits.slope 0 nay)
    ]

fed-cons : (fed : ClassStream → Bool) (x : ClassStream) (xs : List ClassStream)
    → sum_by (λ y. y.limits.slope) (filter fed (x ∷ xs)) ≡ cond (fed x) x.limits.slope 0 + sum_by (λ y. y.limits.slope) (filter fed xs)
fed-cons fed x xs =
    let g : ClassStream → ℕ = λ y. y.limits.slope in
    let rest = filter fed xs in
    let sums : List ClassStream → ℕ = λ ys. sum_by g ys in
    elim (cases_Bool (fed x)) [
      | inl is ↦ omega (arith, ap sums (cond-true (fed x) (x ∷ rest) rest is), sum_by-cons g x rest, cond-true (fed x) x.limits.slope 0 is)
      | inr nay ↦ omega (arith, ap sums (cond-false (fed x) (x ∷ rest) rest nay), cond-false (fed x) x.limits.slope 0 nay)
    ]

-- tests of which one holds at most: one apart, and one for each of some ports
record IsOneTest (own : ClassStream → Bool) (by : EgressPort → ClassStream → Bool) (rs : List EgressPort) : Type 0 where
  alone : (x : ClassStream) → own x ≡ true → All (λ r. by r x ≡ false) rs
  once : (x : ClassStream) → AllPairs (Exclude (λ r. by r x)) rs

one-stream : (fed own : ClassStream → Bool) (by : EgressPort → ClassStream → Bool) (rs : List EgressPort) → IsOneTest own by rs → (x : ClassStream)
    → cond (fed x && own x) x.limits.slope 0 + sum_by (λ r. cond (fed x && by r x) x.limits.slope 0) rs ≤ cond (fed x) x.limits.slope 0
one-stream fed own by rs one x =
    let v = x.limits.slope in
    let S : Bool → Type 0 = λ b. cond (b && own x) v 0 + sum_by (λ r. cond (b && by r x) v 0) rs ≤ cond b v 0 in
    elim (cases_Bool (fed x)) [
      | inl is ↦ subst S (sym is) (elim (cases_Bool (own x)) [
        | inl has ↦ (let none = sum-none (λ r. by r x) v rs (one.alone x has) in omega (arith, none, cond-true (own x) v 0 has))
        | inr nay ↦ (let once = sum-once (λ r. by r x) v rs (one.once x) in omega (arith, once, cond-false (own x) v 0 nay))
      ])
      | inr nay ↦ subst S (sym nay) (let none = sum-none (λ (r : EgressPort). false) v rs (λ k d below. refl) in omega (arith, none))
    ]

by-tests : (fed own : ClassStream → Bool) (by : EgressPort → ClassStream → Bool) (rs : List EgressPort) → IsOneTest own by rs → (xs : List ClassStream)
    → passing fed own xs + sum_by (λ r. passing fed (by r) xs) rs ≤ sum_by (λ x. x.limits.slope) (filter fed xs)
by-tests fed own by rs one [] = (let none = sum-none (λ (r : EgressPort). false) 0 rs (λ k d below. refl) in omega (arith, none))
by-tests fed own by rs one (x ∷ xs) =
    let here : EgressPort → ℕ = λ r. cond (fed x && by r x) x.limits.slope 0 in
    let rest : EgressPort → ℕ = λ r. passing fed (by r) xs in
    let split : sum_by (λ r. passing fed (by r) (x ∷ xs)) rs ≡ sum_by here rs + sum_by rest rs =
    sum_same (λ r. passing fed (by r) (x ∷ xs)) (λ r. here r + rest r) rs (λ r. passing-cons fed (by r) x xs) ∙ sum_both here rest rs in
    omega (arith, split, passing-cons fed own x xs, fed-cons fed x xs, one-stream fed own by rs one x, by-tests fed own by rs one xs)

-- ---- the groups

slopes-of : (a : ClassSetting) (p : EgressPort) (rs : List EgressPort)
    → first_slopes (map (group_by a.setting (numbers_of a []) a.streams p) rs)
    ≡ sum_by (λ r. passing (is_fed a.setting p) (λ x. is_behind a.setting.tree.links r x.talker.0) a.streams) rs
slopes-of a p [] = refl
slopes-of a p (r ∷ rs) =
    let g : EgressPort → Group = group_by a.setting (numbers_of a []) a.streams p in
    let f : Group → ℕ = λ t. t.first.slope in
    let h : EgressPort → ℕ = λ t. passing (is_fed a.setting p) (λ x. is_behind a.setting.tree.links t x.talker.0) a.streams in
    let head : f (g r) ≡ h r = refl in
    omega (arith, sum_by-cons f (g r) (map g rs), sum_by-cons h r rs, head, slopes-of a p rs)

one-way : (a : ClassSetting) → HasPortLaws a.setting.tree → (p : EgressPort) → HasPort a.setting.tree p
    → IsOneTest (λ x. x.talker.0 == p.node.0) (λ r x. is_behind a.setting.tree.links r x.talker.0) (other_ports a.setting p)
one-way a laws p port =
    let s = a.setting in
    let links = s.tree.links in
    let ports = ports_at links p.node.0 in
    let test : EgressPort → Bool = λ r. not (is_port r p) in
    let rs = other_ports s p in
    let of : All (IsPortOf s.tree p.node.0) rs = All-filter test (IsPortOf s.tree p.node.0) ports (ports-are s.tree p.node.0 port.0) in
    let apart = AllPairs-filter (λ r t. r ≢ t) test ports (ports-apart a p.node.0) in
    record {
      alone = λ x own k d below.
          let r = get_or rs k d in
          let h = of k d below in
          elim (cases_Bool (is_behind links r x.talker.0)) [
            | inl behind ↦ absurd (laws.own r h.0
                (subst (λ (y : ℕ). is_behind links r y ≡ true) (eqb-true x.talker.0 p.node.0 own ∙ sym h.1) behind))
            | inr nay ↦ nay
          ];
      once = λ x i j d lt below behind.
          let r = get_or rs i d in
          let t = get_or rs j d in
          let one = of i d (omega (arith, lt, below)) in
          let two = of j d below in
          elim (cases_Bool (is_behind links t x.talker.0)) [
            | inl too ↦ absurd (apart i j d lt below (laws.one_port r t x.talker.0 one.0 two.0 (one.1 ∙ sym two.1) behind too))
            | inr nay ↦ nay
          ];
    }

pub not-steep : (a : ClassSetting) → HasPortLaws a.setting.tree → (p : EgressPort) → HasPort a.setting.tree p → IsCoveredAt a p → IsSteepAt a p → ⊥
not-steep a laws p port covered (cause, x, has, fed) =
    let some = covered.some x has fed in
    elim cause [
      | inl none ↦ omega (arith, none, some)
      | inr less ↦ (
          let s = a.setting in
          let n = numbers_of a [] in
          let rs = other_ports s p in
          let own = own_group n a.streams p in
          let f : Group → ℕ = λ t. t.first.slope in
          let all = by-tests (is_fed s p) (λ y. y.talker.0 == p.node.0) (λ r y. is_behind s.tree.links r y.talker.0) rs (one-way a laws p port) a.streams in
          let whole = sum_by-cons f own (map (group_by s n a.streams p) rs) in
          omega (arith, less, all, whole, slopes-of a p rs, covered.slopes))
    ]
