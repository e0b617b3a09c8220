-- `component` tells which nodes links connect, and `walk_between` is a walk without a repeated node.
use Rattle.std.proofs.Common.{◌≡◌, ◌≢◌, ℕ, List, [], ◌∷◌, ◌++◌, inl, inr, refl, sym, ap, subst, ◌∙◌, arith}
use Rattle.std.proofs.lemmas.{Bool.cases_eq, Bool.Decides.nat_tests}
use Rattle.tree_topology.specs.{Link, Joins, Joined, IsWalk, IsAbsent, HasNoRepeat, IsPath, Connected, component, walk_between}
use Rattle.tree_topology.proofs.{Walks.reaches-widen, Walks.reaches-step, Walks.walk-widen, Walks.walk-append, Links.connected-sym, Links.connected-through, Links.connected-over, Forests.IsForest}

-- one link more makes the component of its far end that of its near end
merged : (l : Link) (links : List Link) (x : ℕ) → component links x ≡ component links l.b.0 → component (l ∷ links) x ≡ component links l.a.0
merged l links x e = grind (arith, nat_tests)

unmerged : (l : Link) (links : List Link) (x : ℕ) → component links x ≢ component links l.b.0 → component (l ∷ links) x ≡ component links x
unmerged l links x n = grind (arith, nat_tests)

merged-a : (l : Link) (links : List Link) → component (l ∷ links) l.a.0 ≡ component links l.a.0
merged-a l links = grind (arith, cases_eq, merged, unmerged)

merged-same : (l : Link) (links : List Link) (x y : ℕ) → component links x ≡ component links y → component (l ∷ links) x ≡ component (l ∷ links) y
merged-same l links x y e = grind (arith, cases_eq, merged, unmerged)

connected-cons : (l : Link) (links : List Link) (x y : ℕ) → Connected links x y → Connected (l ∷ links) x y
connected-cons l links x y c =
    reaches-widen (Joined links) (Joined (l ∷ links)) (λ u v j. inr j) x y c

-- a node is connected with the one that stands for its component
connected-own : (links : List Link) (x : ℕ) → Connected links x (component links x)
connected-own [] x = ([], refl)
connected-own (l ∷ links) x =
    let all = l ∷ links in
    let C : ℕ → Type 0 = λ z. Connected all x z in
    let B : ℕ → Type 0 = λ z. Connected all z l.b.0 in
    elim (cases_eq (component links x) (component links l.b.0)) [
      | inl e ↦
          (let to_b = connected-through all x (component links x) l.b.0
          (connected-cons l links x (component links x) (connected-own links x))
          (subst B (sym e) (connected-sym all l.b.0 (component links l.b.0)
          (connected-cons l links l.b.0 (component links l.b.0)
          (connected-own links l.b.0)))) in let to_a = connected-through all x l.b.0 l.a.0 to_b
          (reaches-step (Joined all) l.b.0 l.a.0 (inl (inr (refl, refl)))) in subst C (sym (merged l links x e))
          (connected-through all x l.a.0 (component links l.a.0) to_a
          (connected-cons l links l.a.0 (component links l.a.0) (connected-own links l.a.0))))
      | inr n ↦ subst C
          (sym (unmerged l links x n)) (connected-cons l links x (component links x) (connected-own links x))
    ]

pub connected-from_component : (links : List Link) (x y : ℕ) → component links x ≡ component links y → Connected links x y
connected-from_component links x y e =
    let C : ℕ → Type 0 = λ z. Connected links x z in
    connected-through links x (component links y) y (subst C e (connected-own links x)) (connected-sym links y (component links y) (connected-own links y))

component-joined : (links : List Link) (x y : ℕ) → Joined links x y → component links x ≡ component links y
component-joined [] x y j = absurd j
component-joined (l ∷ links) x y j =
    let K : ℕ → ℕ = λ z. component (l ∷ links) z in
    let ends : K l.a.0 ≡ K l.b.0 = merged-a l links ∙ sym (merged l links l.b.0 refl) in
    elim j [
      | inl e ↦ elim e [
        | inl e ↦ ap K (sym e.0) ∙ ends ∙ ap K e.1
        | inr e ↦ ap K (sym e.1) ∙ sym ends
            ∙ ap K e.0
      ]
      | inr k ↦ merged-same l links x y (component-joined links x y k)
    ]

pub component-walk : (links : List Link) (x : ℕ) (w : List ℕ) (y : ℕ) → IsWalk (Joined links) x w y → component links x ≡ component links y
component-walk links x [] y h = ap (λ (z : ℕ). component links z) h
component-walk links x (v ∷ w) y h = grind (arith, component-walk links v w y h.1, component-joined)

-- a list of nodes that all lie in one component
abbrev InComponent : List Link → ℕ → List ℕ → Type 0
InComponent links x [] = Unit {0}
InComponent links x (v ∷ w) = (component links v ≡ component links x) × InComponent links x w

in_component-same : (links : List Link) (x y : ℕ) (w : List ℕ) → component links x ≡ component links y → InComponent links x w → InComponent links y w
in_component-same links x y [] e h = tt
in_component-same links x y (v ∷ w) e h = (h.0 ∙ e, in_component-same links x y w e h.1)

in_component-walk : (links : List Link) (x : ℕ) (w : List ℕ) (y : ℕ) → IsWalk (Joined links) x w y → InComponent links x (x ∷ w)
in_component-walk links x [] y h = (refl, tt)
in_component-walk links x (v ∷ w) y h =
    (refl, in_component-same links v x (v ∷ w) (sym (component-joined links x v h.0)) (in_component-walk links v w y h.1))

absent-component : (links : List Link) (z x : ℕ) (w : List ℕ) → component links z ≢ component links x → InComponent links x w → IsAbsent z w
absent-component links z x [] n h = tt
absent-component links z x (v ∷ w) n h = grind (arith, absent-component links z x w n h.1)

absent-append : (z : ℕ) (w u : List ℕ) → IsAbsent z w → IsAbsent z u → IsAbsent z (w ++ u)
absent-append z [] u h k = k
absent-append z (v ∷ w) u h k = (h.0, absent-append z w u h.1 k)

no_repeat-append : (links : List Link) (x y : ℕ) (w u : List ℕ) → component links x ≢ component links y
    → InComponent links x w → InComponent links y u → HasNoRepeat w → HasNoRepeat u → HasNoRepeat (w ++ u)
no_repeat-append links x y [] u n h k p q = q
no_repeat-append links x y (v ∷ w) u n h k p q = grind (arith, no_repeat-append links x y w u n h.1 k p.1 q, absent-append, absent-component)

path-same_ends : (links : List Link) (x y : ℕ) (w u : List ℕ) → w ≡ u → IsPath (Joined links) x u y → IsPath (Joined links) x w y
path-same_ends links x y w u e p = grind arith

-- a path to one end of a link, the link, and a path from its other end
path-over : (l : Link) (links : List Link) (x a b y : ℕ) (w u : List ℕ) → Joins l a b
    → component links a ≢ component links b → IsPath (Joined links) x w a → IsPath (Joined links) b u y
    → IsPath (Joined (l ∷ links)) x (w ++ b ∷ u) y
path-over l links x a b y w u j n p q =
    let wide = λ (m n : ℕ) (h : Joined links m n). (let r : Joined (l ∷ links) m n = inr h in r) in
    let to_a = walk-widen (Joined links) (Joined (l ∷ links)) wide x w a p.0 in
    let from_b = walk-widen (Joined links) (Joined (l ∷ links)) wide b u y q.0 in
    let same : component links x ≡ component links a = component-walk links x w a p.0 in (
      walk-append (Joined (l ∷ links)) x w a (b ∷ u) y to_a (inl j, from_b),
      no_repeat-append links x b (x ∷ w) (b ∷ u) (λ e. n (sym same ∙ e)) (in_component-walk links x w a p.0)
          (in_component-walk links b u y q.0) p.1 q.1,
    )

pub within : (l : Link) (links : List Link) (x y : ℕ) → component links x ≡ component links y → walk_between (l ∷ links) x y ≡ walk_between links x y
within l links x y e = grind (arith, nat_tests)

over-ab : (l : Link) (links : List Link) (x y : ℕ) → component links x ≢ component links y
    → component links x ≡ component links l.a.0
    → walk_between (l ∷ links) x y ≡ walk_between links x l.a.0 ++ (l.b.0 ∷ walk_between links l.b.0 y)
over-ab l links x y n e = grind (arith, nat_tests)

over-ba : (l : Link) (links : List Link) (x y : ℕ) → component links x ≢ component links y
    → component links x ≢ component links l.a.0
    → walk_between (l ∷ links) x y ≡ walk_between links x l.b.0 ++ (l.a.0 ∷ walk_between links l.a.0 y)
over-ba l links x y n e = grind (arith, nat_tests)

pub empty-walk : (w : List ℕ) (x y : ℕ) → IsWalk (Joined []) x w y → x ≡ y
empty-walk [] x y h = h
empty-walk (v ∷ w) x y h = absurd h.0

pub path-walk_between : (links : List Link) → IsForest links → (x y : ℕ) → Connected links x y → IsPath (Joined links) x (walk_between links x y) y
path-walk_between [] f x y c = (empty-walk c.0 x y c.1, (tt, tt))
path-walk_between (l ∷ links) f x y c =
    let all = l ∷ links in
    let K : ℕ → ℕ = λ z. component links z in
    let apart : K l.a.0 ≢ K l.b.0 = λ e. f.0 (connected-from_component links l.a.0 l.b.0 e) in
    let rest = path-walk_between links f.1 in
    let split = connected-over links all l (λ u v j. elim j [ inl e ↦ inr e | inr k ↦ inl k ]) x c.0 y c.1 in
    let same = λ (m n : ℕ) (h : Connected links m n). component-walk links m h.0 n h.1 in
    elim (cases_eq (K x) (K y)) [
      | inl e ↦ (let p = rest x y (connected-from_component links x y e) in path-same_ends all x y
          (walk_between all x y) (walk_between links x y) (within l links x y e)
          (walk-widen (Joined links) (Joined all) (λ u v j. inr j) x (walk_between links x y) y p.0, p.1))
      | inr n ↦ elim split [
        | inl h ↦ absurd (n (same x y h))
        | inr h ↦ elim h [
          | inl h ↦ (let e = same x l.a.0 h.0 in path-same_ends all x y (walk_between all x y)
              (walk_between links x l.a.0 ++ (l.b.0 ∷ walk_between links l.b.0 y)) (over-ab l links x y n e)
              (path-over l links x l.a.0 l.b.0 y (walk_between links x l.a.0) (walk_between links l.b.0 y)
              (inl (refl, refl)) apart (rest x l.a.0 h.0) (rest l.b.0 y h.1)))
          | inr h ↦ (let e = same x l.b.0 h.0 in path-same_ends all x y (walk_between all x y)
              (walk_between links x l.b.0 ++ (l.a.0 ∷ walk_between links l.a.0 y))
              (over-ba l links x y n (λ g. apart (sym g ∙ e)))
              (path-over l links x l.b.0 l.a.0 y (walk_between links x l.b.0) (walk_between links l.a.0 y)
              (inr (refl, refl)) (λ g. apart (sym g)) (rest x l.b.0 h.0) (rest l.a.0 y h.1)))
        ]
      ]
    ]
