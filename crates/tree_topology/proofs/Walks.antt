-- Walks over any relation between nodes: joined end to end, turned round, freed of repeats; and walks
-- that never go straight back, of which a link between two components leaves at most one.
use Rattle.std.proofs.Common.{◌≡◌, ◌≢◌, ℕ, List, [], ◌∷◌, ◌++◌, ◌⊎◌, inl, inr, refl, sym, ap, subst, ◌∙◌, arith}
use Rattle.std.proofs.lemmas.Bool.{cases_eq}
use Rattle.tree_topology.specs.{IsWalk, IsAbsent, IsPath}

-- a walk that never goes straight back to where it came from; before it one came from `p`
abbrev pub IsStraight : (ℕ → ℕ → Type 0) → ℕ → ℕ → List ℕ → ℕ → Type 0
IsStraight R p x [] y = x ≡ y
IsStraight R p x (v ∷ w) y = R x v × (v ≢ p) × IsStraight R x v w y

-- some walk
abbrev pub Reaches : (ℕ → ℕ → Type 0) → ℕ → ℕ → Type 0
Reaches R x y = (w : List ℕ) × IsWalk R x w y

-- at most one straight walk between two nodes
abbrev pub IsLoopFree : (ℕ → ℕ → Type 0) → Type 0
IsLoopFree R = (p q x y : ℕ) (w u : List ℕ) → IsStraight R p x w y → IsStraight R q x u y → w ≡ u

pub walk-append : (R : ℕ → ℕ → Type 0) (x : ℕ) (w : List ℕ) (y : ℕ) (u : List ℕ) (z : ℕ) → IsWalk R x w y → IsWalk R y u z → IsWalk R x (w ++ u) z
walk-append R x [] y u z p q = let F : ℕ → Type 0 = λ t. IsWalk R t u z in subst F (sym p) q
walk-append R x (v ∷ w) y u z p q = (p.0, walk-append R v w y u z p.1 q)

pub walk-widen : (R S : ℕ → ℕ → Type 0) → ((a b : ℕ) → R a b → S a b) → (x : ℕ) (w : List ℕ) (y : ℕ) → IsWalk R x w y → IsWalk S x w y
walk-widen R S f x [] y p = p
walk-widen R S f x (v ∷ w) y p = (f x v p.0, walk-widen R S f v w y p.1)

pub reaches-same : (R : ℕ → ℕ → Type 0) (x : ℕ) → Reaches R x x
reaches-same R x = ([], refl)

pub reaches-step : (R : ℕ → ℕ → Type 0) (x y : ℕ) → R x y → Reaches R x y
reaches-step R x y r = (y ∷ [], (r, refl))

pub reaches-through : (R : ℕ → ℕ → Type 0) (x y z : ℕ) → Reaches R x y → Reaches R y z → Reaches R x z
reaches-through R x y z p q = (p.0 ++ q.0, walk-append R x p.0 y q.0 z p.1 q.1)

pub reaches-widen : (R S : ℕ → ℕ → Type 0) → ((a b : ℕ) → R a b → S a b) → (x y : ℕ) → Reaches R x y → Reaches S x y
reaches-widen R S f x y p = (p.0, walk-widen R S f x p.0 y p.1)

pub reaches-back : (R : ℕ → ℕ → Type 0) → ((a b : ℕ) → R a b → R b a) → (x : ℕ) (w : List ℕ) (y : ℕ) → IsWalk R x w y → Reaches R y x
reaches-back R f x [] y p = ([], sym p)
reaches-back R f x (v ∷ w) y p =
    reaches-through R y v x (reaches-back R f v w y p.1) (reaches-step R v x (f x v p.0))

path-here : (R : ℕ → ℕ → Type 0) (x v : ℕ) (w : List ℕ) (y : ℕ) → IsPath R v w y → x ≡ v → (u : List ℕ) × IsPath R x u y
path-here R x v w y p e = let F : ℕ → Type 0 = λ t. IsPath R t w y in (w, subst F (sym e) p)

-- a node stands on no path, or what is left of the path leads on from there
path-from : (R : ℕ → ℕ → Type 0) (x v : ℕ) (w : List ℕ) (y : ℕ) → IsPath R v w y → IsAbsent x (v ∷ w) ⊎ ((u : List ℕ) × IsPath R x u y)
path-from R x v [] y p = grind (arith, cases_eq)
path-from R x v (u ∷ w) y p =
    elim (cases_eq x v) [
      | inl e ↦ inr (path-here R x v (u ∷ w) y p e)
      | inr n ↦ elim
          (path-from R x u w y (p.0.1, p.1.1)) [ inl a ↦ inl (n, a) | inr q ↦ inr q ]
    ]

-- a walk can be freed of repeats
pub path-from_walk : (R : ℕ → ℕ → Type 0) (x : ℕ) (w : List ℕ) (y : ℕ) → IsWalk R x w y → (u : List ℕ) × IsPath R x u y
path-from_walk R x [] y p = ([], (p, (tt, tt)))
path-from_walk R x (v ∷ w) y p =
    let q = path-from_walk R v w y p.1 in
    elim (path-from R x v q.0 y q.1) [ inl a ↦ (v ∷ q.0, ((p.0, q.1.0), (a, q.1.1))) | inr s ↦ s ]

-- a path is straight, whatever one came from that isn't on it
pub straight-from_path : (R : ℕ → ℕ → Type 0) (p x : ℕ) (w : List ℕ) (y : ℕ) → IsPath R x w y → IsAbsent p w → IsStraight R p x w y
straight-from_path R p x [] y h a = h.0
straight-from_path R p x (v ∷ w) y h a = grind (arith, straight-from_path R x v w y (h.0.1, h.1.1) h.1.0.1)

-- in particular from its own first node
pub straight-path : (R : ℕ → ℕ → Type 0) (x : ℕ) (w : List ℕ) (y : ℕ) → IsPath R x w y → IsStraight R x x w y
straight-path R x w y h = straight-from_path R x x w y h h.1.0

pub straight-walk : (R : ℕ → ℕ → Type 0) (p x : ℕ) (w : List ℕ) (y : ℕ) → IsStraight R p x w y → IsWalk R x w y
straight-walk R p x [] y h = h
straight-walk R p x (v ∷ w) y h = (h.0, straight-walk R x v w y h.2)

pub reaches-straight : (R : ℕ → ℕ → Type 0) (p x : ℕ) (w : List ℕ) (y : ℕ) → IsStraight R p x w y → Reaches R x y
reaches-straight R p x w y h = (w, straight-walk R p x w y h)

-- how a straight walk first passes from `a` to `b`: until then it is in R, from then on in S
pub record Crossing (R S : ℕ → ℕ → Type 0) (p x : ℕ) (w : List ℕ) (y a b : ℕ) : Type 0 where
  pub before : List ℕ
  pub after : List ℕ
  pub is : w ≡ before ++ b ∷ after
  pub arrives : IsStraight R p x before a
  pub goes_on : IsStraight S a b after y

crossing-later : (R S : ℕ → ℕ → Type 0) (p x v : ℕ) (w : List ℕ) (y a b : ℕ) → R x v → v ≢ p → Crossing R S x v w y a b → Crossing R S p x (v ∷ w) y a b
crossing-later R S p x v w y a b r n c = record {
  before = v ∷ c.before;
  after = c.after;
  is = ap (λ (t : List ℕ). v ∷ t) c.is;
  arrives = (r, n, c.arrives);
  goes_on = c.goes_on;
}

crossing-now : (R S : ℕ → ℕ → Type 0) (p x v : ℕ) (w : List ℕ) (y a b : ℕ) → x ≡ a → v ≡ b → IsStraight S x v w y → Crossing R S p x (v ∷ w) y a b
crossing-now R S p x v w y a b e f h = record {
  before = [];
  after = w;
  is = ap (λ (t : ℕ). t ∷ w) f;
  arrives = e;
  goes_on = (let F : ℕ → Type 0 = λ t. IsStraight S t b w y in let G : ℕ → Type 0 = λ t. IsStraight S x t w y in subst F e (subst G f h));
}

-- a straight walk over a relation with one link more stays without that link, or passes it
pub crossing : (R S : ℕ → ℕ → Type 0) (a b : ℕ)
    → ((u v : ℕ) → S u v → R u v ⊎ (((u ≡ a) × (v ≡ b)) ⊎ ((u ≡ b) × (v ≡ a)))) → (p x : ℕ) (w : List ℕ) (y : ℕ)
    → IsStraight S p x w y → IsStraight R p x w y ⊎ (Crossing R S p x w y a b ⊎ Crossing R S p x w y b a)
crossing R S a b f p x [] y h = inl h
crossing R S a b f p x (v ∷ w) y h =
    elim (f x v h.0) [
      | inl r ↦ elim (crossing R S a b f x v w y h.2) [
        | inl s ↦ inl (
          r,
          h.1,
          s,
        )
        | inr c ↦ elim c [
          | inl c ↦ inr (inl (crossing-later R S p x v w y a b r h.1 c))
          | inr c ↦ inr
              (inr (crossing-later R S p x v w y b a r h.1 c))
        ]
      ]
      | inr e ↦ elim e [
        | inl e ↦ inr
            (inl (crossing-now R S p x v w y a b e.0 e.1 h.2))
        | inr e ↦ inr
            (inr (crossing-now R S p x v w y b a e.0 e.1 h.2))
      ]
    ]

-- a straight walk over a relation with one link more, at whose ends nothing else meets, stays on the
-- far side once it has passed the link
stays-beyond : (R S : ℕ → ℕ → Type 0) (a b : ℕ)
    → ((u v : ℕ) → S u v → R u v ⊎ (((u ≡ a) × (v ≡ b)) ⊎ ((u ≡ b) × (v ≡ a)))) → IsLoopFree R → ¬ Reaches R b a
    → (w : List ℕ) (y : ℕ) → IsStraight S a b w y → IsStraight R a b w y
stays-beyond R S a b f free apart w y h =
    elim (crossing R S a b f a b w y h) [
      | inl s ↦ s
      | inr c ↦ elim c [
        | inl c ↦ absurd
            (apart (reaches-straight R a b c.before a c.arrives))
        | inr c ↦ (let empty : c.before
            ≡ [] = free a a b b c.before [] c.arrives refl in let F : List ℕ
            → Type 0 = λ t. IsStraight S a b t y in let back = subst F (c.is
            ∙ ap (λ (t : List ℕ). t ++ a ∷ c.after) empty) h in absurd (back.1 refl))
      ]
    ]

-- two straight walks that pass the link in the same direction are the same
same-crossing : (R S : ℕ → ℕ → Type 0) (a b : ℕ)
    → ((u v : ℕ) → S u v → R u v ⊎ (((u ≡ a) × (v ≡ b)) ⊎ ((u ≡ b) × (v ≡ a)))) → IsLoopFree R → ¬ Reaches R b a
    → (p q x y : ℕ) (w u : List ℕ) → Crossing R S p x w y a b → Crossing R S q x u y a b → w ≡ u
same-crossing R S a b f free apart p q x y w u c d =
    let before : c.before ≡ d.before = free p q x a c.before d.before c.arrives d.arrives in
    let after : c.after ≡ d.after = free a a b y c.after d.after
    (stays-beyond R S a b f free apart c.after y c.goes_on)
    (stays-beyond R S a b f free apart d.after y d.goes_on) in
    c.is ∙ ap (λ (t : List ℕ). t ++ b ∷ c.after) before ∙ ap (λ (t : List ℕ). d.before ++ b ∷ t) after ∙ sym d.is

-- what a passed link connects: the start with its near end, its far end with the end
crossed-ends : (R S : ℕ → ℕ → Type 0) (a b : ℕ)
    → ((u v : ℕ) → S u v → R u v ⊎ (((u ≡ a) × (v ≡ b)) ⊎ ((u ≡ b) × (v ≡ a)))) → IsLoopFree R → ¬ Reaches R b a
    → (p x y : ℕ) (w : List ℕ) → Crossing R S p x w y a b → Reaches R x a × Reaches R b y
crossed-ends R S a b f free apart p x y w c =
    (reaches-straight R p x c.before a c.arrives, reaches-straight R a b c.after y (stays-beyond R S a b f free apart c.after y c.goes_on))

flip : (R S : ℕ → ℕ → Type 0) (a b : ℕ) → ((u v : ℕ) → S u v → R u v ⊎ (((u ≡ a) × (v ≡ b)) ⊎ ((u ≡ b) × (v ≡ a))))
    → (u v : ℕ) → S u v → R u v ⊎ (((u ≡ b) × (v ≡ a)) ⊎ ((u ≡ a) × (v ≡ b)))
flip R S a b f u v s = elim (f u v s) [ inl r ↦ inl r | inr e ↦ elim e [ inl e ↦ inr (inr e) | inr e ↦ inr (inl e) ] ]

-- a link between two components leaves a loop-free relation loop-free
pub loop_free-link : (R S : ℕ → ℕ → Type 0) (a b : ℕ) → ((u v : ℕ) → R u v → R v u)
    → ((u v : ℕ) → S u v → R u v ⊎ (((u ≡ a) × (v ≡ b)) ⊎ ((u ≡ b) × (v ≡ a)))) → IsLoopFree R → ¬ Reaches R a b
    → IsLoopFree S
loop_free-link R S a b s f free apart p q x y w u h k =
    let back = λ (m n : ℕ) (r : Reaches R m n). reaches-back R s m r.0 n r.1 in
    let apart' : ¬ Reaches R b a = λ r. apart (back b a r) in
    let g = flip R S a b f in
    let ends = crossed-ends R S a b f free apart' in
    let ends' = crossed-ends R S b a g free apart in
    let join = reaches-through R in
    elim (crossing R S a b f p x w y h) [
      | inl h' ↦ elim (crossing R S a b f q x u y k) [
        | inl k' ↦ free p q x y w u h' k'
        | inr d ↦ elim d [
          | inl d ↦ (let e = ends q x y u d in absurd (apart' (join b y a e.1 (join y x a (back x y (reaches-straight R p x w y h')) e.0))))
          | inr d ↦ (let e = ends' q x y u d in absurd (apart (join a y b e.1 (join y x b (back x y (reaches-straight R p x w y h')) e.0))))
        ]
      ]
      | inr c ↦ elim c [
        | inl c ↦ (let d' = ends p x y w c in elim (crossing R S a b f q x u y k) [
          | inl k' ↦ absurd (apart' (join b y a d'.1 (join y x a (back x y (reaches-straight R q x u y k')) d'.0)))
          | inr d ↦ elim d [
            | inl d ↦ same-crossing R S a b f free apart' p q x y w u c d
            | inr d ↦ (let e = ends' q x y u d in absurd (apart (join a x b (back x a d'.0) e.0)))
          ]
        ])
        | inr c ↦ (let d' = ends' p x y w c in elim (crossing R S a b f q x u y k) [
          | inl k' ↦ absurd (apart (join a y b d'.1 (join y x b (back x y (reaches-straight R q x u y k')) d'.0)))
          | inr d ↦ elim d [
            | inl d ↦ (let e = ends q x y u d in absurd (apart' (join b x a (back x b d'.0) e.0)))
            | inr d ↦ same-crossing R S b a g free apart p q x y w u c d
          ]
        ])
      ]
    ]
