-- The walks of a tree: `walk_between` is the one straight walk, a link has each node on exactly one of
-- its sides, and a walk turned round is the walk back.
use Rattle.std.proofs.Common.{◌≡◌, ◌≢◌, ℕ, true, false, List, [], ◌∷◌, ◌++◌, refl, sym, ap, subst, ◌∙◌, reverse, arith}
use Rattle.std.proofs.lemmas.{Bool.false≢true, Bool.false_from_ne_true, Bool.Decides.nat_tests, List.reverse-append}
use Rattle.tree_topology.specs.{Link, IsNode, Joined, IsWalk, IsAbsent, HasNoRepeat, IsPath, Connected, IsTree, walk_between, begins_with}
use Rattle.tree_topology.proofs.{Walks.IsStraight, Walks.straight-path, Walks.walk-append, Links.joined-sym, Links.joined-known, Links.joined-apart, Forests.loop_free-tree, Forests.forest-from_tree, WalkBetween.path-walk_between}

pub tree-connected : (count : ℕ) (links : List Link) → IsTree count links → (x y : ℕ) → IsNode count x → IsNode count y → Connected links x y
tree-connected count links tree x y m n = let p = tree.one_path x y m n in (p.0, p.1.0)

-- `walk_between` is a walk without a repeated node
pub walk-path : (count : ℕ) (links : List Link) → IsTree count links → (x y : ℕ) → IsNode count x → IsNode count y
    → IsPath (Joined links) x (walk_between links x y) y
walk-path count links tree x y m n =
    path-walk_between links (forest-from_tree count links tree) x y (tree-connected count links tree x y m n)

-- and it is the only straight walk
pub walk-straight : (count : ℕ) (links : List Link) → IsTree count links → (p x y : ℕ) (w : List ℕ) → IsNode count x
    → IsNode count y → IsStraight (Joined links) p x w y → w ≡ walk_between links x y
walk-straight count links tree p x y w m n h =
    loop_free-tree count links tree p x x y w (walk_between links x y) h
    (straight-path (Joined links) x (walk_between links x y) y (walk-path count links tree x y m n))

pub walk-one_path : (count : ℕ) (links : List Link) → IsTree count links → (x y : ℕ) (w : List ℕ) → IsNode count x
    → IsNode count y → IsPath (Joined links) x w y → w ≡ walk_between links x y
walk-one_path count links tree x y w m n h =
    walk-straight count links tree x x y w m n (straight-path (Joined links) x w y h)

pub walk-self : (count : ℕ) (links : List Link) → IsTree count links → (x : ℕ) → IsNode count x → walk_between links x x ≡ []
walk-self count links tree x m = sym (walk-straight count links tree x x x [] m m refl)

pub walk-joined : (count : ℕ) (links : List Link) → IsTree count links → (x v : ℕ) → Joined links x v → walk_between links x v ≡ v ∷ []
walk-joined count links tree x v j =
    let k = joined-known count links x v tree.graph.known j in
    let ne = joined-apart links x v tree.graph.no_self j in
    sym (walk-straight count links tree x x v (v ∷ []) k.0 k.1 (j, (λ e. ne (sym e)), refl))

first-of : (count : ℕ) (links : List Link) → IsTree count links → (x y v : ℕ) (w : List ℕ) → IsNode count x
    → IsNode count y → walk_between links x y ≡ v ∷ w → IsStraight (Joined links) x x (v ∷ w) y
first-of count links tree x y v w m n e =
    let F : List ℕ → Type 0 = λ t. IsStraight (Joined links) x x t y in
    subst F e (straight-path (Joined links) x (walk_between links x y) y (walk-path count links tree x y m n))

-- a walk begins with a neighbour, and goes on as the walk from there
pub walk-first : (count : ℕ) (links : List Link) → IsTree count links → (x y v : ℕ) (w : List ℕ) → IsNode count x
    → IsNode count y → walk_between links x y ≡ v ∷ w → Joined links x v × (w ≡ walk_between links v y)
walk-first count links tree x y v w m n e =
    let s = first-of count links tree x y v w m n e in
    let k = joined-known count links x v tree.graph.known s.0 in
    (s.0, walk-straight count links tree x v y w k.1 n s.2)

begins-cons : (v : ℕ) (w : List ℕ) → begins_with v w ≡ true → (u : List ℕ) × (w ≡ v ∷ u)
begins-cons v [] e = absurd (false≢true e)
begins-cons v (u ∷ w) e =
    let same : u ≡ v = grind (arith, nat_tests) in (w, ap (λ (t : ℕ). t ∷ w) same)

pub begins-at : (v : ℕ) (w : List ℕ) → begins_with v (v ∷ w) ≡ true
begins-at v w = grind (arith, nat_tests)

pub begins-same : (v : ℕ) (w u : List ℕ) → u ≡ v ∷ w → begins_with v u ≡ true
begins-same v w u e = let F : List ℕ → Type 0 = λ t. begins_with v t ≡ true in subst F (sym e) (begins-at v w)

pub walk-begins : (count : ℕ) (links : List Link) → IsTree count links → (x y v : ℕ) → IsNode count x → IsNode count y
    → begins_with v (walk_between links x y) ≡ true → walk_between links x y ≡ v ∷ walk_between links v y
walk-begins count links tree x y v m n e =
    let b = begins-cons v (walk_between links x y) e in
    b.1 ∙ ap (λ (t : List ℕ). v ∷ t) (walk-first count links tree x y v b.0 m n b.1).1

straight-other : (R : ℕ → ℕ → Type 0) (p q x y : ℕ) (w : List ℕ) → IsStraight R p x w y → begins_with q w ≡ false → IsStraight R q x w y
straight-other R p q x y w h1 h2 = grind (arith, nat_tests)

-- where the walk from a neighbour doesn't come back, it goes on from here
pub walk-on : (count : ℕ) (links : List Link) → IsTree count links → (x v y : ℕ) → IsNode count y → Joined links x v
    → begins_with x (walk_between links v y) ≡ false → walk_between links x y ≡ v ∷ walk_between links v y
walk-on count links tree x v y n j e =
    let k = joined-known count links x v tree.graph.known j in
    let ne = joined-apart links x v tree.graph.no_self j in
    let s = straight-other (Joined links) v x v y (walk_between links v y)
    (straight-path (Joined links) v (walk_between links v y) y (walk-path count links tree v y k.1 n)) e in
    sym (walk-straight count links tree x x y (v ∷ walk_between links v y) k.0 n (j, (λ q. ne (sym q)), s))

-- each node is on one side of a link
pub side-far : (count : ℕ) (links : List Link) → IsTree count links → (x v y : ℕ) → IsNode count y → Joined links x v
    → begins_with x (walk_between links v y) ≡ false → begins_with v (walk_between links x y) ≡ true
side-far count links tree x v y n j e =
    begins-same v (walk_between links v y) (walk_between links x y) (walk-on count links tree x v y n j e)

-- and on one alone
pub side-near : (count : ℕ) (links : List Link) → IsTree count links → (x v y : ℕ) → IsNode count x → IsNode count y
    → begins_with v (walk_between links x y) ≡ true → begins_with x (walk_between links v y) ≡ false
side-near count links tree x v y m n e =
    let b = begins-cons v (walk_between links x y) e in
    let f = walk-first count links tree x y v b.0 m n b.1 in
    let s = first-of count links tree x y v b.0 m n b.1 in
    false_from_ne_true (begins_with x (walk_between links v y))
    (λ t. (let c = begins-cons x (walk_between links v y) t in let F : List ℕ
    → Type 0 = λ u. IsStraight (Joined links) x v u y in let back = subst F (f.1 ∙ c.1) s.2 in back.1 refl))

-- a walk turned round
walk_back : ℕ → List ℕ → List ℕ
walk_back x [] = []
walk_back x (v ∷ w) = walk_back v w ++ x ∷ []

back-walk : (R : ℕ → ℕ → Type 0) → ((a b : ℕ) → R a b → R b a) → (x : ℕ) (w : List ℕ) (y : ℕ) → IsWalk R x w y → IsWalk R y (walk_back x w) x
unfolding walk_back
back-walk R f x [] y h = sym h
back-walk R f x (v ∷ w) y h =
    walk-append R y (walk_back v w) v (x ∷ []) x (back-walk R f v w y h.1) (f x v h.0, refl)

back-reverse : (R : ℕ → ℕ → Type 0) (x : ℕ) (w : List ℕ) (y : ℕ) → IsWalk R x w y → y ∷ walk_back x w ≡ reverse (x ∷ w)
unfolding walk_back
back-reverse R x [] y h = ap (λ (t : ℕ). t ∷ []) (sym h)
back-reverse R x (v ∷ w) y h =
    ap (λ (t : List ℕ). t ++ x ∷ []) (back-reverse R v w y h.1) ∙ sym (reverse-append (x ∷ []) (v ∷ w))

absent-push : (z x : ℕ) (w : List ℕ) → IsAbsent z w → z ≢ x → IsAbsent z (w ++ x ∷ [])
absent-push z x [] h n = (n, tt)
absent-push z x (v ∷ w) h n = (h.0, absent-push z x w h.1 n)

no_repeat-push : (x : ℕ) (w : List ℕ) → HasNoRepeat w → IsAbsent x w → HasNoRepeat (w ++ x ∷ [])
no_repeat-push x [] h a = (tt, tt)
no_repeat-push x (v ∷ w) h a = grind (arith, no_repeat-push x w h.1 a.1, absent-push)

absent-reverse : (x : ℕ) (w : List ℕ) → IsAbsent x w → IsAbsent x (reverse w)
absent-reverse x [] a = tt
absent-reverse x (v ∷ w) a =
    let F : List ℕ → Type 0 = λ t. IsAbsent x t in
    subst F (sym (reverse-append (v ∷ []) w)) (absent-push x v (reverse w) (absent-reverse x w a.1) a.0)

no_repeat-reverse : (w : List ℕ) → HasNoRepeat w → HasNoRepeat (reverse w)
no_repeat-reverse [] h = tt
no_repeat-reverse (v ∷ w) h =
    let F : List ℕ → Type 0 = λ t. HasNoRepeat t in
    subst F (sym (reverse-append (v ∷ []) w)) (no_repeat-push v (reverse w) (no_repeat-reverse w h.1) (absent-reverse v w h.0))

-- the walk back is the walk turned round
pub walk-reverse : (count : ℕ) (links : List Link) → IsTree count links → (x y : ℕ) → IsNode count x → IsNode count y
    → y ∷ walk_between links y x ≡ reverse (x ∷ walk_between links x y)
walk-reverse count links tree x y m n =
    let p = walk-path count links tree x y m n in
    let w = walk_between links x y in
    let turned = back-reverse (Joined links) x w y p.0 in
    let F : List ℕ → Type 0 = λ t. HasNoRepeat t in
    let path : IsPath (Joined links) y (walk_back x w) x = (
      back-walk (Joined links) (joined-sym links) x w y p.0,
      subst F (sym turned) (no_repeat-reverse (x ∷ w) p.1),
    ) in
    ap (λ (t : List ℕ). y ∷ t) (sym (walk-one_path count links tree y x (walk_back x w) n m path)) ∙ turned

tail-same : (x : ℕ) (w u : List ℕ) → x ∷ w ≡ x ∷ u → w ≡ u
tail-same x w u e = cc

-- where the walk back begins with a neighbour, the walk ends with the step from that neighbour
pub walk-last : (count : ℕ) (links : List Link) → IsTree count links → (x y u : ℕ) → IsNode count x → IsNode count y
    → IsNode count u → walk_between links y x ≡ u ∷ walk_between links u x
    → walk_between links x y ≡ walk_between links x u ++ y ∷ []
walk-last count links tree x y u m n k e =
    let there = walk-reverse count links tree y x n m in
    let to_u = walk-reverse count links tree u x k m in
    let whole : x ∷ walk_between links x y ≡ (x ∷ walk_between links x u) ++ y ∷ [] = there
    ∙ ap (λ (t : List ℕ). reverse (y ∷ t)) e ∙ reverse-append (y ∷ []) (u ∷ walk_between links u x)
    ∙ ap (λ (t : List ℕ). t ++ y ∷ []) (sym to_u) in
    tail-same x (walk_between links x y) (walk_between links x u ++ y ∷ []) whole
