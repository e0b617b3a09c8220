-- Which nodes a list of links joins and connects, and what one link more changes.
use Rattle.std.proofs.Common.{◌≡◌, ◌≢◌, ℕ, suc, zero, ◌<◌, List, [], ◌∷◌, ◌++◌, ◌⊎◌, inl, inr, sym, subst, ◌∙◌, length, get_or, take, arith}
use Rattle.std.proofs.lemmas.List.Elements.{All-head, All-tail}
use Rattle.tree_topology.specs.{Link, IsNode, Joins, Joined, IsWalk, Connected, HasKnownEnds, HasNoSelfLink}
use Rattle.tree_topology.proofs.Walks.{reaches-back, reaches-through, reaches-step, reaches-widen, reaches-same}

pub joins-sym : (l : Link) (x y : ℕ) → Joins l x y → Joins l y x
joins-sym l x y j = elim j [ inl e ↦ inr e | inr e ↦ inl e ]

pub joined-sym : (links : List Link) (x y : ℕ) → Joined links x y → Joined links y x
joined-sym [] x y j = j
joined-sym (l ∷ links) x y j =
    elim j [ inl e ↦ inl (joins-sym l x y e) | inr k ↦ inr (joined-sym links x y k) ]

pub joined-push : (links : List Link) (l : Link) (x y : ℕ) → Joined (links ++ l ∷ []) x y → Joined links x y ⊎ Joins l x y
joined-push [] l x y j = elim j [ inl e ↦ inr e | inr k ↦ absurd k ]
joined-push (m ∷ links) l x y j =
    elim j [ inl e ↦ inl (inl e) | inr k ↦ elim (joined-push links l x y k) [ inl h ↦ inl (inr h) | inr e ↦ inr e ] ]

pub joined-left : (links : List Link) (l : Link) (x y : ℕ) → Joined links x y → Joined (links ++ l ∷ []) x y
joined-left [] l x y j = absurd j
joined-left (m ∷ links) l x y j =
    elim j [ inl e ↦ inl e | inr k ↦ inr (joined-left links l x y k) ]

pub joined-last : (links : List Link) (l : Link) (x y : ℕ) → Joins l x y → Joined (links ++ l ∷ []) x y
joined-last [] l x y j = inl j
joined-last (m ∷ links) l x y j = inr (joined-last links l x y j)

-- the ends of a link, in the form in which walks pass it
pub joins-ends : (l : Link) (x y : ℕ) → Joins l x y → ((x ≡ l.a.0) × (y ≡ l.b.0)) ⊎ ((x ≡ l.b.0) × (y ≡ l.a.0))
joins-ends l x y j =
    elim j [ inl e ↦ inl (sym e.0, sym e.1) | inr e ↦ inr (sym e.1, sym e.0) ]

-- joined nodes are the ends of some link
pub joined-at : (links : List Link) (x y : ℕ) → Joined links x y → (i : ℕ) × (i < length links) × ((d : Link) → Joins (get_or links i d) x y)
joined-at [] x y j = absurd j
joined-at (l ∷ links) x y j =
    elim j [ inl e ↦ (0, omega arith, (λ d. e)) | inr k ↦ (let h = joined-at links x y k in (suc h.0, omega (arith, h.1), h.2)) ]

pub joined-take : (links : List Link) (n : ℕ) (x y : ℕ) → Joined (take n links) x y → Joined links x y
joined-take links zero x y j = absurd j
joined-take [] (suc n) x y j = j
joined-take (l ∷ links) (suc n) x y j =
    elim j [ inl e ↦ inl e | inr k ↦ inr (joined-take links n x y k) ]

pub joined-known : (count : ℕ) (links : List Link) (x y : ℕ) → HasKnownEnds count links → Joined links x y → IsNode count x × IsNode count y
joined-known count [] x y known j = absurd j
joined-known count (l ∷ links) x y known j =
    let P : Link → Type 0 = λ l. IsNode count l.a.0 × IsNode count l.b.0 in
    let ends : IsNode count l.a.0 × IsNode count l.b.0 = All-head P l links known in
    let N : ℕ → Type 0 = λ z. IsNode count z in
    elim j [
      | inl e ↦ elim e [
        | inl e ↦ (subst N e.0 ends.0, subst N e.1 ends.1)
        | inr e ↦ (
          subst N e.1 ends.1,
          subst N e.0 ends.0,
        )
      ]
      | inr k ↦ joined-known count links x y (All-tail P l links known) k
    ]

pub joined-apart : (links : List Link) (x y : ℕ) → HasNoSelfLink links → Joined links x y → x ≢ y
joined-apart [] x y other j = absurd j
joined-apart (l ∷ links) x y other j =
    let P : Link → Type 0 = λ l. l.a.0 ≢ l.b.0 in
    let ne : l.a.0 ≢ l.b.0 = All-head P l links other in
    elim j [
      | inl e ↦ elim e [
        | inl e ↦ (λ q. ne (e.0 ∙ q ∙ sym e.1))
        | inr e ↦
            (λ q. ne (e.0 ∙ sym q ∙ sym e.1))
      ]
      | inr k ↦ joined-apart links x y (All-tail P l links other) k
    ]

pub connected-sym : (links : List Link) (x y : ℕ) → Connected links x y → Connected links y x
connected-sym links x y c = reaches-back (Joined links) (joined-sym links) x c.0 y c.1

pub connected-through : (links : List Link) (x y z : ℕ) → Connected links x y → Connected links y z → Connected links x z
connected-through links x y z c d = reaches-through (Joined links) x y z c d

pub connected-left : (links : List Link) (l : Link) (x y : ℕ) → Connected links x y → Connected (links ++ l ∷ []) x y
connected-left links l x y c = reaches-widen (Joined links) (Joined (links ++ l ∷ [])) (joined-left links l) x y c

-- what a walk over one link more connects without it
abbrev pub ConnectedOver : List Link → Link → ℕ → ℕ → Type 0
ConnectedOver links l x y =
    Connected links x y ⊎ ((Connected links x l.a.0 × Connected links l.b.0 y) ⊎ (Connected links x l.b.0 × Connected links l.a.0 y))

connected_over-step : (links : List Link) (l : Link) (x v y : ℕ) → Joined links x v → ConnectedOver links l v y → ConnectedOver links l x y
connected_over-step links l x v y j c =
    let s = reaches-step (Joined links) x v j in
    elim c [
      | inl c ↦ inl (connected-through links x v y s c)
      | inr c ↦ elim c [
        | inl c ↦ inr
            (inl (connected-through links x v l.a.0 s c.0, c.1))
        | inr c ↦ inr
            (inr (connected-through links x v l.b.0 s c.0, c.1))
      ]
    ]

connected_over-link : (links : List Link) (l : Link) (x v y : ℕ) → Joins l x v → ConnectedOver links l v y → ConnectedOver links l x y
connected_over-link links l x v y j c =
    let C : ℕ → ℕ → Type 0 = λ m n. Connected links m n in
    let F : ℕ → Type 0 = λ m. C m y in
    let same = reaches-same (Joined links) in
    let A : ℕ → Type 0 = λ m. C m l.a.0 in
    let B : ℕ → Type 0 = λ m. C m l.b.0 in
    elim j [
      | inl e ↦ elim c [
        | inl c ↦ inr (inl (
          subst A e.0 (same l.a.0),
          subst F (sym e.1) c,
        ))
        | inr c ↦ elim c [
          | inl c ↦ inr (inl (subst A e.0 (same l.a.0), c.1))
          | inr c ↦ inl
              (subst F e.0 c.1)
        ]
      ]
      | inr e ↦ elim c [
        | inl c ↦ inr
            (inr (subst B e.1 (same l.b.0), subst F (sym e.0) c))
        | inr c ↦ elim c [
          | inl c ↦ inl
              (subst F e.1 c.1)
          | inr c ↦ inr (inr (subst B e.1 (same l.b.0), c.1))
        ]
      ]
    ]

-- a walk over links of which each is one of these or the one more
pub connected-over : (links more : List Link) (l : Link)
    → ((u v : ℕ) → Joined more u v → Joined links u v ⊎ Joins l u v) → (x : ℕ) (w : List ℕ) (y : ℕ)
    → IsWalk (Joined more) x w y → ConnectedOver links l x y
connected-over links more l f x [] y h = inl ([], h)
connected-over links more l f x (v ∷ w) y h =
    elim (f x v h.0) [
      | inl j ↦ connected_over-step links l x v y j
          (connected-over links more l f v w y h.1)
      | inr j ↦ connected_over-link links l x v y j
          (connected-over links more l f v w y h.1)
    ]
