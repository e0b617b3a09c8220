-- The last of the changes at a port, among changes that ascend.
use Rattle.std.proofs.Common.{◌≡◌, ℕ, zero, suc, ◌+◌, ◌<◌, ◌≤◌, inl, inr, true, false, cond, List, [], ◌∷◌, ◌++◌, length, get_or, take, Some, refl, sym, ◌∙◌, ap, subst, arith}
use Rattle.std.specs.Prelude.{All, AllPairs, not, nat_lt, ◌==◌, ◌&&◌}
use Rattle.std.specs.{List.AllWithin, List.Sorted.IsPartitionedBy}
use Rattle.std.proofs.lemmas.{Bool.cond-true, Bool.cases_Bool, Bool.cases_lt, Bool.cases_eq, Bool.eqb-true, Bool.ltb-true, Bool.or_cases, Bool.and_parts, Bool.false≢true, Bool.not_from_false, Bool.not-true, List.take_more, List.get_or-take, List.length-take, List.get_or_default, List.Elements.recursion_from_All, List.Elements.All-from_all_within}
use Rattle.srp_base.proofs.Lists.{Each-map as each_weaker}
use Rattle.srp_base.specs.declared.{numbers.EgressPort.EgressPort, ports.PortChange.PortChange}
use Rattle.frame_flow.specs.{Force.is_port, Force.changes_at, Force.in_force, Given.IsEarlier}
use Rattle.frame_flow.proofs.LevelLemmas.{same-port}
use Rattle.world_core.specs.{precedes}
use Rattle.world_core.proofs.PortOrder.{IsBefore, before_along, after_other, is_same_port, earlier_is, kept_none, at_append, precedes_before, one_more_from}

before_from : (p q : EgressPort) → precedes p q ≡ true → IsBefore p q
before_from p q is =
    elim (or_cases (nat_lt p.node.0 q.node.0) ((p.node.0 == q.node.0) && nat_lt p.port.0 q.port.0) is) [
      | inl lt ↦ inl (ltb-true p.node.0 q.node.0 lt)
      | inr both ↦ (
          let parts = and_parts (p.node.0 == q.node.0) (nat_lt p.port.0 q.port.0) both in
          inr (eqb-true p.node.0 q.node.0 parts.0, ltb-true p.port.0 q.port.0 parts.1))
    ]

-- what isn't after a port stands in front
pub parted : (p : EgressPort) (cs : List PortChange) → AllPairs IsEarlier cs → IsPartitionedBy (λ c. not (precedes p c.at)) cs
parted p cs up i j d le below is =
    let ci = get_or cs i d in
    let cj = get_or cs j d in
    elim (cases_eq i j) [
      | inl e ↦ subst (λ (k : ℕ). not (precedes p (get_or cs k d).at) ≡ true) (sym e) is
      | inr differ ↦ elim (cases_Bool (precedes p ci.at)) [
        | inr nay ↦ not_from_false (precedes p ci.at) nay
        | inl is_before ↦ (
            let lt = before_from p ci.at is_before in
            let later : IsBefore p cj.at = elim (earlier_is ci cj (up i j d (omega arith) below)) [
              | inl b ↦ before_along p ci.at cj.at lt b
              | inr b ↦ subst (IsBefore p) b.0 lt
            ] in
            absurd (false≢true (sym (not-true (precedes p cj.at) is) ∙ precedes_before p cj.at later)))
      ]
    ]

module _ (p : EgressPort) where
  tail_none : (cs : List PortChange) → AllWithin (λ c. precedes p c.at ≡ true) cs 0 (length cs) → changes_at cs p ≡ []
  tail_none cs h =
      let P : PortChange → Type 0 = λ c. precedes p c.at ≡ true in
      kept_none p cs (each_weaker P (λ (c : PortChange). is_port c.at p ≡ false) (λ c is. after_other p c.at (before_from p c.at is)) cs (recursion_from_All P cs (All-from_all_within P cs h)))

  pub at_take : (n : ℕ) (cs : List PortChange) → AllWithin (λ c. precedes p c.at ≡ true) cs n (length cs) → changes_at cs p ≡ changes_at (take n cs) p
  at_take zero cs h = tail_none cs h
  at_take (suc n) [] h = refl
  at_take (suc n) (c ∷ cs) h =
      ap (λ (ds : List PortChange). cond (is_port c.at p) (c ∷ ds) ds)
      (at_take n cs (λ k d from below. h (suc k) d (omega (arith, from)) (omega (arith, below))))

  -- the last of those in front is of the port: it is in force after all
  pub last_is : (tick n : ℕ) (cs : List PortChange) (last : PortChange) → n < length cs → last ≡ get_or cs n last → AllWithin (λ c. precedes p c.at ≡ true) cs (n + 1) (length cs)
      → is_port last.at p ≡ true → All (λ c. c.tick < tick) cs → Some last ≡ in_force tick (changes_at cs p)
  last_is tick n cs last lt at after is early =
      let front = changes_at (take n cs) p in
      let cut : changes_at cs p ≡ front ++ last ∷ [] =
      at_take (n + 1) cs after ∙ ap (λ (ds : List PortChange). changes_at ds p) (take_more cs n last lt) ∙ at_append p (take n cs) (get_or cs n last ∷ [])
      ∙ ap (λ (d : PortChange). front ++ changes_at (d ∷ []) p) (sym at) ∙ ap (λ (ds : List PortChange). front ++ ds) (cond-true (is_port last.at p) (last ∷ []) [] is) in
      let tick_lt : (get_or cs n last).tick < tick = early n last lt in
      let tick_le : last.tick ≤ tick = omega (arith, tick_lt, ap (λ (d : PortChange). d.tick) at) in
      sym (ap (in_force tick) cut ∙ one_more_from tick front last tick_le)

  -- it is of another: none is of the port
  pub last_other : (n : ℕ) (cs : List PortChange) (last : PortChange) → n < length cs → last ≡ get_or cs n last → AllPairs IsEarlier cs
      → AllWithin (λ c. precedes p c.at ≡ false) cs 0 (n + 1) → AllWithin (λ c. precedes p c.at ≡ true) cs (n + 1) (length cs) → is_port last.at p ≡ false → changes_at cs p ≡ []
  last_other n cs last lt at up upto after other =
      let P : PortChange → Type 0 = λ c. is_port c.at p ≡ false in
      let not_after = upto n last (omega arith) (omega arith) in
      let end : (d : PortChange) → get_or cs n d ≡ last = λ d. get_or_default cs n d last lt ∙ sym at in
      let each : (k : ℕ) (d : PortChange) → k < n + 1 → P (get_or cs k d) =
      λ k d below. elim (cases_Bool (is_port (get_or cs k d).at p)) [
        | inr nay ↦ nay
        | inl is ↦ (
            let here = same-port (get_or cs k d).at p is in
            elim (cases_lt k n) [
              | inr le ↦ subst (λ (j : ℕ). P (get_or cs j d)) (let e : n ≡ k = omega arith in e) (subst P (sym (end d)) other)
              | inl less ↦ elim (earlier_is (get_or cs k d) (get_or cs n d) (up k n d less lt)) [
                | inl b ↦ (
                    let b' = subst (λ (q : EgressPort). IsBefore q (get_or cs n d).at) here b in
                    absurd (false≢true (sym (upto n d (omega arith) (omega arith)) ∙ precedes_before p (get_or cs n d).at b')))
                | inr b ↦ absurd (false≢true (sym other ∙ is_same_port last.at p (ap (λ (c : PortChange). c.at) (sym (end d)) ∙ sym b.0 ∙ here)))
              ]
            ])
      ] in
      at_take (n + 1) cs after
      ∙ kept_none p (take (n + 1) cs)
      (recursion_from_All P (take (n + 1) cs)
      (λ k d below. let short : k < n + 1 = omega (arith, below, length-take (n + 1) cs) in subst P (sym (get_or-take (n + 1) cs k d short)) (each k d short)))
