-- A table of parents with falling depths determines all walks of a tree.
use Rattle.std.proofs.Common.{◌≡◌, ◌≢◌, ℕ, suc, zero, ◌<◌, ◌≤◌, List, [], ◌∷◌, ◌++◌, ◌⊎◌, inl, inr, sym, ap, subst, ◌∙◌, arith}
use Rattle.std.proofs.lemmas.Bool.{cases_eq}
use Rattle.tree_topology.specs.{Link, IsNode, Joined, IsTree, walk_between}
use Rattle.tree_topology.proofs.{Walks.IsStraight, Walks.straight-path, Links.joined-known, Links.joined-apart, Forests.loop_free-tree, Trees.walk-path, Trees.walk-first, Trees.walk-last}

-- each node but the first is joined with its parent, whose depth is less
pub record IsRooted (count : ℕ) (links : List Link) (parent depth : ℕ → ℕ) : Type 0 where
  pub top : depth 1 ≡ 0
  pub joined : (x : ℕ) → IsNode count x → x ≢ 1 → Joined links x (parent x)
  pub falls : (x : ℕ) → IsNode count x → x ≢ 1 → depth (parent x) < depth x

cons-head : (x y : ℕ) (w u : List ℕ) → x ∷ w ≡ y ∷ u → x ≡ y
cons-head x y w u e = cc

-- the climb from a node to the first one is straight
climb : (count : ℕ) (links : List Link) (parent depth : ℕ → ℕ) → IsRooted count links parent depth
    → IsTree count links → (n x p : ℕ) → IsNode count x → depth x ≤ n → (x ≢ 1 → parent x ≢ p) → (w : List ℕ)
    × IsStraight (Joined links) p x w 1
climb count links parent depth r tree zero x p m le away =
    elim (cases_eq x 1) [ inl e ↦ ([], e) | inr n ↦ absurd (omega (arith, r.falls x m n)) ]
climb count links parent depth r tree (suc n) x p m le away =
    elim (cases_eq x 1) [
      | inl e ↦ ([], e)
      | inr ne ↦ (
          let j = r.joined x m ne in
          let k : IsNode count (parent x) = (joined-known count links x (parent x) tree.graph.known j).1 in
          let f = r.falls x m ne in
          let on : parent x ≢ 1 → parent (parent x) ≢ x = λ ne2 e. (let g = r.falls (parent x) k ne2 in let D : depth
          (parent (parent x)) ≡ depth x = ap depth e in absurd (omega (arith, f, g, D))) in
          let c = climb count links parent depth r tree n (parent x) x k (omega (arith, f)) on in
          (parent x ∷ c.0, (j, away ne, c.1)))
    ]

-- of two joined nodes one is the other's parent
pub parent-joined : (count : ℕ) (links : List Link) (parent depth : ℕ → ℕ) → IsRooted count links parent depth
    → IsTree count links → (u v : ℕ) → Joined links u v → ((u ≢ 1) × (parent u ≡ v)) ⊎ ((v ≢ 1) × (parent v ≡ u))
parent-joined count links parent depth r tree u v j =
    let k = joined-known count links u v tree.graph.known j in
    let ne = joined-apart links u v tree.graph.no_self j in
    let free = loop_free-tree count links tree in
    let up = λ (x : ℕ) (m : IsNode count x) (n : x ≢ 1).
    (let h = r.joined x m n in let kk : IsNode count
    (parent x) = (joined-known count links x (parent x) tree.graph.known h).1 in let on : parent x ≢ 1
    → parent (parent x) ≢ x = λ ne2 e. (let f = r.falls x m n in let g = r.falls
    (parent x) kk ne2 in let D : depth (parent (parent x))
    ≡ depth x = ap depth e in absurd (omega (arith, f, g, D))) in let c = climb count links parent depth r tree
    (depth (parent x)) (parent x) x kk (omega arith) on in let whole : (w : List ℕ)
    × IsStraight (Joined links) 0 x (parent x ∷ w) 1 = (
      c.0,
      (h, (λ e. absurd (omega (arith, kk.0, e))), c.1),
    ) in whole) in
    elim (cases_eq v 1) [
      | inl e ↦ (let nu : u ≢ 1 = λ q. ne (q ∙ sym e) in let c = up u k.0 nu in let short : IsStraight
          (Joined links) 0 u (v ∷ []) 1 = (j, (λ q. absurd (omega (arith, k.1.0, q))), e) in inl (
            nu,
            cons-head (parent u) v c.0 [] (free 0 0 u 1 (parent u ∷ c.0) (v ∷ []) c.1 short),
          ))
      | inr nv ↦ elim (cases_eq (parent v) u) [
        | inl e ↦ inr (nv, e)
        | inr np ↦ (let c = climb count links parent depth r tree (depth v) v u k.1 (omega arith)
            (λ q. np) in let long : IsStraight (Joined links) 0 u (v ∷ c.0) 1 = (
              j,
              (λ q. absurd (omega (arith, k.1.0, q))),
              c.1,
            ) in elim (cases_eq u 1) [
              | inl e ↦ (let same = free 0 0 u 1 (v ∷ c.0) [] long e in absurd (let no : v ∷ c.0 ≡ [] → ⊥ = λ q. cc in no same))
              | inr nu ↦ (let d = up u k.0 nu in inl (nu, cons-head (parent u) v d.0 c.0 (free 0 0 u 1 (parent u ∷ d.0) (v ∷ c.0) d.1 long)))
            ])
      ]
    ]

-- a straight walk that has gone from a parent to its child goes down for good
goes-down : (count : ℕ) (links : List Link) (parent depth : ℕ → ℕ) → IsRooted count links parent depth
    → IsTree count links → (x : ℕ) (w : List ℕ) (y : ℕ) → IsNode count x → IsStraight (Joined links) (parent x) x w y
    → depth x ≤ depth y
goes-down count links parent depth r tree x [] y m h = omega (arith, ap depth h)
goes-down count links parent depth r tree x (v ∷ w) y m h =
    let k = joined-known count links x v tree.graph.known h.0 in
    elim (parent-joined count links parent depth r tree x v h.0) [
      | inl e ↦ absurd (h.1 (sym e.1))
      | inr e ↦ (let F : ℕ
          → Type 0 = λ t. IsStraight
          (Joined links) t v w y in let le = goes-down count links parent depth r tree v w y k.1
          (subst F (sym e.1) h.2) in let f = r.falls v k.1 e.0 in let D : depth (parent v)
          ≡ depth x = ap depth e.1 in omega (arith, le, f, D))
    ]

-- the deeper of two nodes isn't the first node
pub not-top : (count : ℕ) (links : List Link) (parent depth : ℕ → ℕ) → IsRooted count links parent depth → (x y : ℕ)
    → IsNode count y → x ≢ y → depth y ≤ depth x → x ≢ 1
not-top count links parent depth r x y m ne le e = grind (arith, cases_eq)

up-first : (count : ℕ) (links : List Link) (parent depth : ℕ → ℕ) → IsRooted count links parent depth
    → IsTree count links → (x y : ℕ) → IsNode count x → x ≢ y → depth y ≤ depth x → (w : List ℕ)
    → IsStraight (Joined links) x x w y → (u : List ℕ) × (w ≡ parent x ∷ u)
up-first count links parent depth r tree x y m ne le [] h = absurd (ne h)
up-first count links parent depth r tree x y m ne le (v ∷ w) h =
    let k = joined-known count links x v tree.graph.known h.0 in
    elim (parent-joined count links parent depth r tree x v h.0) [
      | inl e ↦ (w, ap (λ (t : ℕ). t ∷ w) (sym e.1))
      | inr e ↦ (let F : ℕ
          → Type 0 = λ t. IsStraight
          (Joined links) t v w y in let down = goes-down count links parent depth r tree v w y k.1
          (subst F (sym e.1) h.2) in let f = r.falls v k.1 e.0 in let D : depth (parent v)
          ≡ depth x = ap depth e.1 in absurd (omega (arith, down, f, D)))
    ]

-- from the deeper of two nodes the walk goes up first
pub walk-up : (count : ℕ) (links : List Link) (parent depth : ℕ → ℕ) → IsRooted count links parent depth
    → IsTree count links → (x y : ℕ) → IsNode count x → IsNode count y → x ≢ y → depth y ≤ depth x
    → walk_between links x y ≡ parent x ∷ walk_between links (parent x) y
walk-up count links parent depth r tree x y m n ne le =
    let u = up-first count links parent depth r tree x y m ne le (walk_between links x y)
    (straight-path (Joined links) x (walk_between links x y) y (walk-path count links tree x y m n)) in
    u.1 ∙ ap (λ (t : List ℕ). parent x ∷ t) (walk-first count links tree x y (parent x) u.0 m n u.1).1

-- to a deeper node it comes down last
pub walk-down : (count : ℕ) (links : List Link) (parent depth : ℕ → ℕ) → IsRooted count links parent depth
    → IsTree count links → (x y : ℕ) → IsNode count x → IsNode count y → x ≢ y → depth x ≤ depth y
    → walk_between links x y ≡ walk_between links x (parent y) ++ y ∷ []
walk-down count links parent depth r tree x y m n ne le =
    let ne' = λ (e : y ≡ x). ne (sym e) in
    let j = r.joined y n (not-top count links parent depth r y x m ne' le) in
    walk-last count links tree x y (parent y) m n (joined-known count links y (parent y) tree.graph.known j).1
    (walk-up count links parent depth r tree y x n m ne' le)
