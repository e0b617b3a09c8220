-- Changes by port and tick: those of each port among those of all, and one more at some.
use Rattle.std.proofs.Common.{◌≡◌, ℕ, zero, suc, ◌<◌, ◌≤◌, ◌⊎◌, inl, inr, Bool, true, false, cond, List, [], ◌∷◌, ◌++◌, Option, Some, None, refl, sym, ◌∙◌, ap, subst, arith, append_assoc, append-nil}
use Rattle.std.specs.Prelude.{AllPairs, filter, flat_map, nat_lt, nat_le, ◌==◌, ◌&&◌, not}
use Rattle.std.specs.List.{AllByRecursion}
use Rattle.std.proofs.lemmas.{Bool.cond-true, Bool.cond-false, Bool.cases_Bool, Bool.eq-eqb, Bool.ne_eqb, Bool.lt-ltb, Bool.le-ltb, Bool.le-leb, Bool.lt-leb, Bool.and_from, Bool.and_left, Bool.and_right, Bool.or_left, Bool.or_right, Bool.or_from, Bool.false≢true, Bool.not_from_false, Bool.not_from_true, List.Elements.All-from_recursion, List.Elements.recursion_from_All, List.Elements.filter-append, List.Kept.AllPairs-cons}
use Rattle.srp_base.proofs.Lists.{each_append, each_filter, Each-map as each_weaker}
use Rattle.srp_base.specs.declared.{numbers.EgressPort.EgressPort, ports.PortChange.PortChange}
use Rattle.frame_flow.specs.{Force.is_port, Force.changes_at, Force.last_upto, Force.in_force, Given.IsEarlier}
use Rattle.frame_flow.proofs.LevelLemmas.{same-port, port-itself}
use Rattle.world_core.specs.{precedes, front_before, rest_from, changes_among}

-- ---- ports in order

abbrev pub IsBefore : EgressPort → EgressPort → Type 0
IsBefore p q = (p.node.0 < q.node.0) ⊎ ((p.node.0 ≡ q.node.0) × (p.port.0 < q.port.0))

abbrev pub Ascend : List EgressPort → Type 0
Ascend [] = Unit {0}
Ascend (p ∷ ps) = AllByRecursion (IsBefore p) ps × Ascend ps

-- a port is among some
abbrev pub IsIn : EgressPort → List EgressPort → Type 0
IsIn p [] = ⊥
IsIn p (q ∷ qs) = (q ≡ p) ⊎ IsIn p qs

-- all changes are of a port
abbrev pub AreAt : EgressPort → List PortChange → Type 0
AreAt p cs = AllByRecursion (λ c. c.at ≡ p) cs

-- they ascend
abbrev pub AreInOrder : List PortChange → Type 0
AreInOrder [] = Unit {0}
AreInOrder (c ∷ cs) = AllByRecursion (IsEarlier c) cs × AreInOrder cs

pub is_same_port : (p q : EgressPort) → p ≡ q → is_port p q ≡ true
is_same_port p q e = ap (λ (r : EgressPort). is_port p r) (sym e) ∙ port-itself p

pub before_other : (p q : EgressPort) → IsBefore p q → is_port p q ≡ false
before_other p q (inl lt) = and_left (p.node.0 == q.node.0) (p.port.0 == q.port.0) (ne_eqb p.node.0 q.node.0 (λ e. omega arith))
before_other p q (inr h) = let lt = h.1 in and_right (p.node.0 == q.node.0) (p.port.0 == q.port.0) (ne_eqb p.port.0 q.port.0 (λ e. omega arith))

pub after_other : (p q : EgressPort) → IsBefore p q → is_port q p ≡ false
after_other p q (inl lt) = and_left (q.node.0 == p.node.0) (q.port.0 == p.port.0) (ne_eqb q.node.0 p.node.0 (λ e. omega arith))
after_other p q (inr h) = let lt = h.1 in and_right (q.node.0 == p.node.0) (q.port.0 == p.port.0) (ne_eqb q.port.0 p.port.0 (λ e. omega arith))

pub before_along : (p q r : EgressPort) → IsBefore p q → IsBefore q r → IsBefore p r
before_along p q r (inl a) (inl b) = inl (omega arith)
before_along p q r (inl a) (inr b) = let e = b.0 in inl (omega arith)
before_along p q r (inr a) (inl b) = let e = a.0 in inl (omega arith)
before_along p q r (inr a) (inr b) = let x = a.1 in let y = b.1 in inr (a.0 ∙ b.0, omega arith)

-- a change that is earlier than another is of a port before, or of the same port in a tick before
pub earlier_is : (c d : PortChange) → IsEarlier c d → IsBefore c.at d.at ⊎ ((c.at ≡ d.at) × (c.tick < d.tick))
earlier_is c d (inl lt) = inl (inl lt)
earlier_is c d (inr h) =
    elim h.1 [
      | inl lt ↦ inl (inr (h.0, lt))
      | inr k ↦ inr (same-port c.at d.at (and_from (c.at.node.0 == d.at.node.0) (c.at.port.0 == d.at.port.0) (eq-eqb c.at.node.0 d.at.node.0 h.0) (eq-eqb c.at.port.0 d.at.port.0 k.0)), k.1)
    ]

pub earlier_before : (c d : PortChange) → IsBefore c.at d.at → IsEarlier c d
earlier_before c d (inl lt) = inl lt
earlier_before c d (inr h) = inr (h.0, inl h.1)

pub earlier_tick : (c d : PortChange) → c.at ≡ d.at → c.tick < d.tick → IsEarlier c d
earlier_tick c d e lt = inr (ap (λ (p : EgressPort). p.node.0) e, inr (ap (λ (p : EgressPort). p.port.0) e, lt))

-- ---- facts of each

pub each_flat : {X Y : Type 0} (P : Y → Type 0) (Q : X → Type 0) (g : X → List Y) → ((x : X) → Q x → AllByRecursion P (g x)) → (xs : List X) → AllByRecursion Q xs → AllByRecursion P (flat_map g xs)
each_flat P Q g each [] h = tt
each_flat P Q g each (x ∷ xs) h = each_append P (g x) (flat_map g xs) (each x h.0) (each_flat P Q g each xs h.1)

pub order_filter : (t : PortChange → Bool) (xs : List PortChange) → AreInOrder xs → AreInOrder (filter t xs)
order_filter t [] h = tt
order_filter t (x ∷ xs) h =
    elim (cases_Bool (t x)) [
      | inl is ↦ subst AreInOrder (sym (cond-true (t x) (x ∷ filter t xs) (filter t xs) is)) (each_filter (IsEarlier x) t xs h.0, order_filter t xs h.1)
      | inr nay ↦ subst AreInOrder (sym (cond-false (t x) (x ∷ filter t xs) (filter t xs) nay)) (order_filter t xs h.1)
    ]

-- between pairs of places and recursion
pub order_from_pairs : (cs : List PortChange) → AllPairs IsEarlier cs → AreInOrder cs
order_from_pairs [] h = tt
order_from_pairs (c ∷ cs) h = (
  recursion_from_All (IsEarlier c) cs (λ k d below. h zero (suc k) d (omega arith) (omega (arith, below))),
  order_from_pairs cs (λ i j d lt below. h (suc i) (suc j) d (omega (arith, lt)) (omega (arith, below))),
)

pub pairs_from_order : (cs : List PortChange) → AreInOrder cs → AllPairs IsEarlier cs
pairs_from_order [] h = λ i j d lt below. absurd (omega (arith, below))
pairs_from_order (c ∷ cs) h = AllPairs-cons IsEarlier c cs (All-from_recursion (IsEarlier c) cs h.0) (pairs_from_order cs h.1)

-- ---- the changes of one port

pub kept_all : (p : EgressPort) (cs : List PortChange) → AreAt p cs → changes_at cs p ≡ cs
kept_all p [] h = refl
kept_all p (c ∷ cs) h =
    cond-true (is_port c.at p) (c ∷ changes_at cs p) (changes_at cs p) (is_same_port c.at p h.0) ∙ ap (λ (ds : List PortChange). c ∷ ds) (kept_all p cs h.1)

pub kept_none : (p : EgressPort) (cs : List PortChange) → AllByRecursion (λ c. is_port c.at p ≡ false) cs → changes_at cs p ≡ []
kept_none p [] h = refl
kept_none p (c ∷ cs) h = cond-false (is_port c.at p) (c ∷ changes_at cs p) (changes_at cs p) h.0 ∙ kept_none p cs h.1

pub at_append : (p : EgressPort) (cs ds : List PortChange) → changes_at (cs ++ ds) p ≡ changes_at cs p ++ changes_at ds p
at_append p cs ds = filter-append (λ (c : PortChange). is_port c.at p) cs ds

pub are_at : (p : EgressPort) (cs : List PortChange) → AreAt p (changes_at cs p)
are_at p [] = tt
are_at p (c ∷ cs) =
    elim (cases_Bool (is_port c.at p)) [
      | inl is ↦ subst (AreAt p) (sym (cond-true (is_port c.at p) (c ∷ changes_at cs p) (changes_at cs p) is)) (same-port c.at p is, are_at p cs)
      | inr nay ↦ subst (AreAt p) (sym (cond-false (is_port c.at p) (c ∷ changes_at cs p) (changes_at cs p) nay)) (are_at p cs)
    ]

-- ---- the changes of each of some ports, port by port

-- changes of a port before those of later ports
order_joined : (p : EgressPort) (cs ds : List PortChange) → AreAt p cs → AreInOrder cs → AllByRecursion (λ d. IsBefore p d.at) ds → AreInOrder ds → AreInOrder (cs ++ ds)
order_joined p [] ds own up later rest = rest
order_joined p (c ∷ cs) ds own up later rest =
    let after = each_weaker (λ (d : PortChange). IsBefore p d.at) (IsEarlier c) (λ d lt. earlier_before c d (subst (λ (q : EgressPort). IsBefore q d.at) (sym own.0) lt)) ds later in
    (each_append (IsEarlier c) cs ds up.0 after, order_joined p cs ds own.1 up.1 later rest)

module _ (g : EgressPort → List PortChange) (own : (p : EgressPort) → AreAt p (g p)) where
  pub flat_after : (p : EgressPort) (qs : List EgressPort) → AllByRecursion (IsBefore p) qs → AllByRecursion (λ c. IsBefore p c.at) (flat_map g qs)
  flat_after p qs h =
      each_flat (λ (c : PortChange). IsBefore p c.at) (IsBefore p) g
      (λ q lt. each_weaker (λ (c : PortChange). c.at ≡ q) (λ (c : PortChange). IsBefore p c.at) (λ c e. subst (IsBefore p) (sym e) lt) (g q) (own q)) qs h

  pub flat_none : (p : EgressPort) (qs : List EgressPort) → AllByRecursion (IsBefore p) qs → changes_at (flat_map g qs) p ≡ []
  flat_none p qs h =
      kept_none p (flat_map g qs)
      (each_weaker (λ (c : PortChange). IsBefore p c.at) (λ (c : PortChange). is_port c.at p ≡ false) (λ c lt. after_other p c.at lt) (flat_map g qs) (flat_after p qs h))

  is_after : (p q : EgressPort) (qs : List EgressPort) → AllByRecursion (IsBefore q) qs → IsIn p qs → IsBefore q p
  is_after p q [] h there = absurd there
  is_after p q (r ∷ qs) h there =
      elim there [ inl e ↦ subst (IsBefore q) e h.0 | inr later ↦ is_after p q qs h.1 later ]

  pub flat_at : (ps : List EgressPort) → Ascend ps → (p : EgressPort) → IsIn p ps → changes_at (flat_map g ps) p ≡ g p
  flat_at [] up p there = absurd there
  flat_at (q ∷ qs) up p there =
      at_append p (g q) (flat_map g qs)
      ∙ elim there [
        | inl e ↦ (
            let none = subst (λ (r : EgressPort). changes_at (flat_map g qs) r ≡ []) e (flat_none q qs up.0) in
            let all = subst (λ (r : EgressPort). changes_at (g r) p ≡ g r) (sym e) (kept_all p (g p) (own p)) in
            ap (λ (cs : List PortChange). changes_at (g q) p ++ cs) none ∙ append-nil (changes_at (g q) p) ∙ all ∙ ap g e)
        | inr later ↦ (
            let lt = is_after p q qs up.0 later in
            let none = kept_none p (g q) (each_weaker (λ (c : PortChange). c.at ≡ q) (λ (c : PortChange). is_port c.at p ≡ false)
            (λ c e. subst (λ (r : EgressPort). is_port r p ≡ false) (sym e) (before_other q p lt)) (g q) (own q)) in
            ap (λ (cs : List PortChange). cs ++ changes_at (flat_map g qs) p) none ∙ flat_at qs up.1 p later)
      ]

  -- they ascend
  pub flat_order : ((p : EgressPort) → AreInOrder (g p)) → (ps : List EgressPort) → Ascend ps → AreInOrder (flat_map g ps)
  flat_order each [] up = tt
  flat_order each (q ∷ qs) up = order_joined q (g q) (flat_map g qs) (own q) (each q) (flat_after q qs up.0) (flat_order each qs up.1)

-- ---- changes that ascend are those of each port, port by port

-- the changes of other ports
abbrev others : EgressPort → List PortChange → List PortChange
others p cs = filter (λ c. not (is_port c.at p)) cs

after_all : (p : EgressPort) (cs : List PortChange) → AllByRecursion (λ c. IsBefore p c.at) cs → others p cs ≡ cs
after_all p [] h = refl
after_all p (c ∷ cs) h =
    cond-true (not (is_port c.at p)) (c ∷ others p cs) (others p cs) (not_from_false (is_port c.at p) (after_other p c.at h.0))
    ∙ ap (λ (ds : List PortChange). c ∷ ds) (after_all p cs h.1)

after_none : (p : EgressPort) (cs : List PortChange) → AllByRecursion (λ c. IsBefore p c.at) cs → changes_at cs p ≡ []
after_none p cs h = kept_none p cs (each_weaker (λ (c : PortChange). IsBefore p c.at) (λ (c : PortChange). is_port c.at p ≡ false) (λ c lt. after_other p c.at lt) cs h)

-- those of the first port stand in front
front_of : (p : EgressPort) (cs : List PortChange) → AllByRecursion (λ c. (c.at ≡ p) ⊎ IsBefore p c.at) cs → AreInOrder cs → cs ≡ changes_at cs p ++ others p cs
front_of p [] h up = refl
front_of p (c ∷ cs) h up =
    elim h.0 [
      | inl e ↦ (
          let is = is_same_port c.at p e in
          let kept = cond-true (is_port c.at p) (c ∷ changes_at cs p) (changes_at cs p) is in
          let left = cond-false (not (is_port c.at p)) (c ∷ others p cs) (others p cs) (not_from_true (is_port c.at p) is) in
          ap (λ (ds : List PortChange). c ∷ ds) (front_of p cs h.1 up.1)
          ∙ sym (ap (λ (ds : List PortChange). ds ++ others p (c ∷ cs)) kept ∙ ap (λ (ds : List PortChange). (c ∷ changes_at cs p) ++ ds) left))
      | inr lt ↦ (
          let later = each_weaker (IsEarlier c) (λ (d : PortChange). IsBefore p d.at)
          (λ d e. elim (earlier_is c d e) [ inl b ↦ before_along p c.at d.at lt b | inr b ↦ subst (IsBefore p) b.0 lt ]) cs up.0 in
          let all : AllByRecursion (λ (d : PortChange). IsBefore p d.at) (c ∷ cs) = (lt, later) in
          sym (ap (λ (ds : List PortChange). ds ++ others p (c ∷ cs)) (after_none p (c ∷ cs) all) ∙ after_all p (c ∷ cs) all))
    ]

others_at : (p q : EgressPort) (cs : List PortChange) → IsBefore p q → changes_at (others p cs) q ≡ changes_at cs q
others_at p q [] lt = refl
others_at p q (c ∷ cs) lt =
    elim (cases_Bool (is_port c.at p)) [
      | inl is ↦ (
          let left = cond-false (not (is_port c.at p)) (c ∷ others p cs) (others p cs) (not_from_true (is_port c.at p) is) in
          let off = subst (λ (r : EgressPort). is_port r q ≡ false) (sym (same-port c.at p is)) (before_other p q lt) in
          ap (λ (ds : List PortChange). changes_at ds q) left ∙ others_at p q cs lt ∙ sym (cond-false (is_port c.at q) (c ∷ changes_at cs q) (changes_at cs q) off))
      | inr nay ↦ (
          let stays = cond-true (not (is_port c.at p)) (c ∷ others p cs) (others p cs) (not_from_false (is_port c.at p) nay) in
          ap (λ (ds : List PortChange). changes_at ds q) stays ∙ ap (λ (ds : List PortChange). cond (is_port c.at q) (c ∷ ds) ds) (others_at p q cs lt))
    ]

pub same_flat : {X Y : Type 0} (g h : X → List Y) (xs : List X) → AllByRecursion (λ x. g x ≡ h x) xs → flat_map g xs ≡ flat_map h xs
same_flat g h [] e = refl
same_flat {X} {Y} g h (x ∷ xs) e = ap (λ (ys : List Y). ys ++ flat_map g xs) e.0 ∙ ap (λ (ys : List Y). h x ++ ys) (same_flat g h xs e.1)

not_here : (p : EgressPort) (ps : List EgressPort) (cs : List PortChange) → AllByRecursion (λ c. IsIn c.at (p ∷ ps)) cs → AllByRecursion (λ c. IsIn c.at ps) (others p cs)
not_here p ps [] h = tt
not_here p ps (c ∷ cs) h =
    elim (cases_Bool (is_port c.at p)) [
      | inl is ↦ subst (AllByRecursion (λ (d : PortChange). IsIn d.at ps))
          (sym (cond-false (not (is_port c.at p)) (c ∷ others p cs) (others p cs) (not_from_true (is_port c.at p) is))) (not_here p ps cs h.1)
      | inr nay ↦ subst (AllByRecursion (λ (d : PortChange). IsIn d.at ps)) (sym (cond-true (not (is_port c.at p)) (c ∷ others p cs) (others p cs) (not_from_false (is_port c.at p) nay)))
          (elim h.0 [ inl e ↦ absurd (false≢true (sym nay ∙ is_same_port c.at p (sym e))) | inr there ↦ there ], not_here p ps cs h.1)
    ]

after_in : (p q : EgressPort) (qs : List EgressPort) → AllByRecursion (IsBefore p) qs → IsIn q qs → IsBefore p q
after_in p q [] h there = absurd there
after_in p q (r ∷ qs) h there = elim there [ inl e ↦ subst (IsBefore p) e h.0 | inr later ↦ after_in p q qs h.1 later ]

pub port_by_port : (ps : List EgressPort) → Ascend ps → (cs : List PortChange) → AreInOrder cs → AllByRecursion (λ c. IsIn c.at ps) cs → cs ≡ flat_map (changes_at cs) ps
port_by_port [] up [] order h = refl
port_by_port [] up (c ∷ cs) order h = absurd h.0
port_by_port (p ∷ ps) up cs order h =
    let first = each_weaker (λ (c : PortChange). IsIn c.at (p ∷ ps)) (λ (c : PortChange). (c.at ≡ p) ⊎ IsBefore p c.at)
    (λ c there. elim there [ inl e ↦ inl (sym e) | inr later ↦ inr (after_in p c.at ps up.0 later) ]) cs h in
    let rest = port_by_port ps up.1 (others p cs) (order_filter (λ (c : PortChange). not (is_port c.at p)) cs order) (not_here p ps cs h) in
    let same = same_flat (changes_at (others p cs)) (changes_at cs) ps
    (each_weaker (IsBefore p) (λ (q : EgressPort). changes_at (others p cs) q ≡ changes_at cs q) (λ q lt. others_at p q cs lt) ps up.0) in
    front_of p cs first order ∙ ap (λ (ds : List PortChange). changes_at cs p ++ ds) (rest ∙ same)

-- ---- changes among others

pub precedes_before : (p q : EgressPort) → IsBefore p q → precedes p q ≡ true
precedes_before p q (inl lt) = or_left (nat_lt p.node.0 q.node.0) ((p.node.0 == q.node.0) && nat_lt p.port.0 q.port.0) (lt-ltb p.node.0 q.node.0 lt)
precedes_before p q (inr h) =
    or_right (nat_lt p.node.0 q.node.0) ((p.node.0 == q.node.0) && nat_lt p.port.0 q.port.0)
    (and_from (p.node.0 == q.node.0) (nat_lt p.port.0 q.port.0) (eq-eqb p.node.0 q.node.0 h.0) (lt-ltb p.port.0 q.port.0 h.1))

precedes_itself : (p : EgressPort) → precedes p p ≡ false
precedes_itself p =
    or_from (nat_lt p.node.0 p.node.0) ((p.node.0 == p.node.0) && nat_lt p.port.0 p.port.0) (le-ltb p.node.0 p.node.0 (omega arith))
    (and_right (p.node.0 == p.node.0) (nat_lt p.port.0 p.port.0) (le-ltb p.port.0 p.port.0 (omega arith)))

precedes_after : (p q : EgressPort) → IsBefore p q → precedes q p ≡ false
precedes_after p q (inl lt) =
    or_from (nat_lt q.node.0 p.node.0) ((q.node.0 == p.node.0) && nat_lt q.port.0 p.port.0) (le-ltb q.node.0 p.node.0 (omega arith))
    (and_left (q.node.0 == p.node.0) (nat_lt q.port.0 p.port.0) (ne_eqb q.node.0 p.node.0 (λ e. omega arith)))
precedes_after p q (inr h) =
    let e = h.0 in
    let lt = h.1 in
    or_from (nat_lt q.node.0 p.node.0) ((q.node.0 == p.node.0) && nat_lt q.port.0 p.port.0) (le-ltb q.node.0 p.node.0 (omega arith))
    (and_right (q.node.0 == p.node.0) (nat_lt q.port.0 p.port.0) (le-ltb q.port.0 p.port.0 (omega arith)))

-- what comes before a port goes, and the rest stays
front_all : (p q : EgressPort) (ls ms : List PortChange) → IsBefore p q → AreAt p ls → front_before q (ls ++ ms) ≡ ls ++ front_before q ms
front_all p q [] ms lt own = refl
front_all p q (c ∷ ls) ms lt own =
    cond-true (precedes c.at q) (c ∷ front_before q (ls ++ ms)) [] (precedes_before c.at q (subst (λ (r : EgressPort). IsBefore r q) (sym own.0) lt))
    ∙ ap (λ (ds : List PortChange). c ∷ ds) (front_all p q ls ms lt own.1)

rest_all : (p q : EgressPort) (ls ms : List PortChange) → IsBefore p q → AreAt p ls → rest_from q (ls ++ ms) ≡ rest_from q ms
rest_all p q [] ms lt own = refl
rest_all p q (c ∷ ls) ms lt own =
    cond-true (precedes c.at q) (rest_from q (ls ++ ms)) (c ∷ (ls ++ ms)) (precedes_before c.at q (subst (λ (r : EgressPort). IsBefore r q) (sym own.0) lt))
    ∙ rest_all p q ls ms lt own.1

front_nothing : (p : EgressPort) (ms : List PortChange) → AllByRecursion (λ c. precedes c.at p ≡ false) ms → (front_before p ms ≡ []) × (rest_from p ms ≡ ms)
front_nothing p [] h = (refl, refl)
front_nothing p (c ∷ ms) h =
    (cond-false (precedes c.at p) (c ∷ front_before p ms) [] h.0, cond-false (precedes c.at p) (rest_from p ms) (c ∷ ms) h.0)

pub merged_nothing : (cs : List PortChange) → changes_among cs [] ≡ cs
merged_nothing [] = refl
merged_nothing (c ∷ cs) = ap (λ (ds : List PortChange). c ∷ ds) (merged_nothing cs)

-- what is put behind the changes of a port stands before those of later ports
merged_later : (p : EgressPort) (ls fs ms : List PortChange) → AreAt p ls → AllByRecursion (λ c. IsBefore p c.at) fs → changes_among fs (ls ++ ms) ≡ ls ++ changes_among fs ms
merged_later p ls [] ms own later = refl
merged_later p ls (c ∷ fs) ms own later =
    ap (λ (ds : List PortChange). ds ++ (c ∷ changes_among fs (rest_from c.at (ls ++ ms)))) (front_all p c.at ls ms later.0 own)
    ∙ ap (λ (ds : List PortChange). (ls ++ front_before c.at ms) ++ (c ∷ changes_among fs ds)) (rest_all p c.at ls ms later.0 own)
    ∙ append_assoc ls (front_before c.at ms) (c ∷ changes_among fs (rest_from c.at ms))

merged_here : (p : EgressPort) (gs ls fs ms : List PortChange) → AreAt p gs → AreAt p ls → AllByRecursion (λ c. IsBefore p c.at) fs → AllByRecursion (λ c. IsBefore p c.at) ms
    → changes_among (gs ++ fs) (ls ++ ms) ≡ (gs ++ ls) ++ changes_among fs ms
merged_here p [] ls fs ms own more later rest = merged_later p ls fs ms more later
merged_here p (c ∷ gs) ls fs ms own more later rest =
    let none = each_append (λ (d : PortChange). precedes d.at c.at ≡ false) ls ms
    (each_weaker (λ (d : PortChange). d.at ≡ p) (λ (d : PortChange). precedes d.at c.at ≡ false)
    (λ d e. subst (λ (q : EgressPort). precedes d.at q ≡ false) (e ∙ sym own.0) (precedes_itself d.at)) ls more)
    (each_weaker (λ (d : PortChange). IsBefore p d.at) (λ (d : PortChange). precedes d.at c.at ≡ false)
    (λ d lt. precedes_after c.at d.at (subst (λ (q : EgressPort). IsBefore q d.at) (sym own.0) lt)) ms rest) in
    let nothing = front_nothing c.at (ls ++ ms) none in
    ap (λ (ds : List PortChange). ds ++ (c ∷ changes_among (gs ++ fs) (rest_from c.at (ls ++ ms)))) nothing.0
    ∙ ap (λ (ds : List PortChange). c ∷ changes_among (gs ++ fs) ds) nothing.1
    ∙ ap (λ (ds : List PortChange). c ∷ ds) (merged_here p gs ls fs ms own.1 more later rest)

pub merged_flat : (g l : EgressPort → List PortChange) → ((p : EgressPort) → AreAt p (g p)) → ((p : EgressPort) → AreAt p (l p)) → (ps : List EgressPort) → Ascend ps
    → changes_among (flat_map g ps) (flat_map l ps) ≡ flat_map (λ p. g p ++ l p) ps
merged_flat g l own more [] up = refl
merged_flat g l own more (p ∷ ps) up =
    merged_here p (g p) (l p) (flat_map g ps) (flat_map l ps) (own p) (more p) (flat_after g own p ps up.0) (flat_after l more p ps up.0)
    ∙ ap (λ (ds : List PortChange). (g p ++ l p) ++ ds) (merged_flat g l own more ps up.1)

-- ---- what is in force

pub upto_append : (t : ℕ) (newest : Option PortChange) (cs ds : List PortChange) → last_upto t newest (cs ++ ds) ≡ last_upto t (last_upto t newest cs) ds
upto_append t newest [] ds = refl
upto_append t newest (c ∷ cs) ds = upto_append t (cond (nat_le c.tick t) (Some c) newest) cs ds

-- once all have come, time changes nothing
pub upto_all : (s t : ℕ) (newest : Option PortChange) (cs : List PortChange) → s ≤ t → AllByRecursion (λ c. c.tick < s) cs → last_upto t newest cs ≡ last_upto s newest cs
upto_all s t newest [] le h = refl
upto_all s t newest (c ∷ cs) le h =
    let lt = h.0 in
    let now = cond-true (nat_le c.tick t) (Some c) newest (le-leb c.tick t (omega arith)) in
    let then = cond-true (nat_le c.tick s) (Some c) newest (le-leb c.tick s (omega arith)) in
    ap (λ (o : Option PortChange). last_upto t o cs) now ∙ upto_all s t (Some c) cs le h.1 ∙ ap (λ (o : Option PortChange). last_upto s o cs) (sym then)

-- one more at a tick is in force from that tick on, and before it what was
pub one_more_before : (t : ℕ) (cs : List PortChange) (c : PortChange) → t < c.tick → in_force t (cs ++ c ∷ []) ≡ in_force t cs
one_more_before t cs c lt = upto_append t None cs (c ∷ []) ∙ cond-false (nat_le c.tick t) (Some c) (in_force t cs) (lt-leb c.tick t lt)

pub one_more_from : (t : ℕ) (cs : List PortChange) (c : PortChange) → c.tick ≤ t → in_force t (cs ++ c ∷ []) ≡ Some c
one_more_from t cs c le = upto_append t None cs (c ∷ []) ∙ cond-true (nat_le c.tick t) (Some c) (in_force t cs) (le-leb c.tick t le)
