-- Links of which each joins two components of those after it: straight walks are unique, `component`
-- tells who is connected, and `walk_between` is a walk without a repeated node.
use Rattle.std.proofs.Common.{◌≡◌, ◌≢◌, ℕ, suc, zero, ◌+◌, ◌<◌, ◌≤◌, List, [], ◌∷◌, ◌⊎◌, inl, inr, refl, sym, subst, ◌∙◌, length, get_or, take, arith, add-one}
use Rattle.std.proofs.lemmas.{List.take_more, List.take_all, List.Elements.All-head, List.Elements.All-tail}
use Rattle.tree_topology.specs.{Link, IsNode, Joins, Joined, IsWalk, IsPath, Connected, HasKnownEnds, HasNoSelfLink, HasNoSecondLink, IsGraph, IsTree, HasNoLoop}
use Rattle.tree_topology.proofs.{Walks.IsLoopFree, Walks.IsStraight, Walks.loop_free-link, Walks.walk-widen, Walks.path-from_walk, Walks.straight-path, Links.joined-sym, Links.joined-push, Links.joins-ends, Links.joined-at, Links.connected-sym, Links.connected-through}

-- each link joins two components of those after it
abbrev pub IsForest : List Link → Type 0
IsForest [] = Unit {0}
IsForest (l ∷ links) = (¬ Connected links l.a.0 l.b.0) × IsForest links

no-straight : (p q x y : ℕ) (w u : List ℕ) → IsStraight (Joined []) p x w y → IsStraight (Joined []) q x u y → w ≡ u
no-straight p q x y [] [] h k = refl
no-straight p q x y [] (v ∷ u) h k = absurd k.0
no-straight p q x y (v ∷ w) u h k = absurd h.0

joined-cons : (l : Link) (links : List Link) (u v : ℕ) → Joined (l ∷ links) u v → Joined links u v ⊎ (((u ≡ l.a.0) × (v ≡ l.b.0)) ⊎ ((u ≡ l.b.0) × (v ≡ l.a.0)))
joined-cons l links u v j = elim j [ inl e ↦ inr (joins-ends l u v e) | inr k ↦ inl k ]

pub loop_free-forest : (links : List Link) → IsForest links → IsLoopFree (Joined links)
loop_free-forest [] f = no-straight
loop_free-forest (l ∷ links) f =
    loop_free-link (Joined links) (Joined (l ∷ links)) l.a.0 l.b.0 (joined-sym links) (joined-cons l links) (loop_free-forest links f.1) f.0

joined-more : (links : List Link) (n : ℕ) (d : Link) → n < length links → (u v : ℕ) → Joined (take (n + 1) links) u v
    → Joined (take n links) u v ⊎ Joins (get_or links n d) u v
joined-more links n d lt u v j =
    let F : List Link → Type 0 = λ t. Joined t u v in
    joined-push (take n links) (get_or links n d) u v (subst F (take_more links n d lt) j)

joined-more_ends : (links : List Link) (n : ℕ) (d : Link) → n < length links → (u v : ℕ)
    → Joined (take (n + 1) links) u v → Joined (take n links) u v
    ⊎ (((u ≡ (get_or links n d).a.0) × (v ≡ (get_or links n d).b.0))
    ⊎ ((u ≡ (get_or links n d).b.0) × (v ≡ (get_or links n d).a.0)))
joined-more_ends links n d lt u v j =
    elim (joined-more links n d lt u v j) [ inl k ↦ inl k | inr e ↦ inr (joins-ends (get_or links n d) u v e) ]

-- links of which none closes a loop with those before it
loop_free-take : (links : List Link) → HasNoLoop links → (d : Link) (n : ℕ) → n ≤ length links → IsLoopFree (Joined (take n links))
loop_free-take links none d zero le = no-straight
loop_free-take links none d (suc n) le =
    let here = loop_free-take links none d n (omega arith) in
    let lt : n < length links = omega arith in
    let F : ℕ → Type 0 = λ m. IsLoopFree (Joined (take m links)) in
    subst F (add-one n) (loop_free-link (Joined (take n links)) (Joined (take (n + 1) links)) (get_or links n d).a.0
    (get_or links n d).b.0 (joined-sym (take n links)) (joined-more_ends links n d lt) here (none n d lt))

pub loop_free-links : (links : List Link) → HasNoLoop links → IsLoopFree (Joined links)
loop_free-links [] none = no-straight
loop_free-links (l ∷ links) none =
    let F : List Link → Type 0 = λ t. IsLoopFree (Joined t) in
    subst F (take_all (length (l ∷ links)) (l ∷ links) (omega arith)) (loop_free-take (l ∷ links) none l (length (l ∷ links)) (omega arith))

-- two paths between the same nodes are the same
pub paths-same : (links : List Link) → IsLoopFree (Joined links) → (x y : ℕ) (w u : List ℕ) → IsPath (Joined links) x w y → IsPath (Joined links) x u y → w ≡ u
paths-same links free x y w u p q =
    free x x x y w u (straight-path (Joined links) x w y p) (straight-path (Joined links) x u y q)

-- a connected graph in which no link closes a loop is a tree
pub tree-from_checks : (count : ℕ) (links : List Link) → IsGraph count links → HasNoLoop links
    → ((x : ℕ) → IsNode count x → Connected links 1 x) → IsTree count links
tree-from_checks count links graph none all =
    let free = loop_free-links links none in
    let path = λ (x y : ℕ) (m : IsNode count x) (n : IsNode count y).
    (let c = connected-through links x 1 y (connected-sym links 1 x (all x m)) (all y n) in path-from_walk
    (Joined links) x c.0 y c.1) in
    record {
      graph = graph;
      one_path = (λ x y m n. (let p = path x y m n in (p.0, p.1, (λ u q. paths-same links free x y u p.0 q p.1))));
    }

-- in a tree no link is a second one, whatever the order
abbrev pub IsApart : List Link → Type 0
IsApart [] = Unit {0}
IsApart (l ∷ links) = (¬ Joined links l.a.0 l.b.0) × IsApart links

pub apart-from_graph : (links : List Link) → HasNoSecondLink links → IsApart links
apart-from_graph [] none = tt
apart-from_graph (l ∷ links) none =
    let J : Link → Type 0 = λ m. Joins m l.a.0 l.b.0 in
    let first = λ (j : Joined links l.a.0 l.b.0).
    (let h = joined-at links l.a.0 l.b.0 j in none (suc h.0) l (omega (arith, h.1))
    (inl (elim (h.2 l) [ inl e ↦ inl (sym e.0, sym e.1) | inr e ↦ inr (sym e.1, sym e.0) ]))) in
    (first, apart-from_graph links (λ i d lt j. none (suc i) d (omega arith) (inr j)))

-- links within a tree are a forest
forest-within : (count : ℕ) (all : List Link) → IsTree count all → (links : List Link)
    → ((u v : ℕ) → Joined links u v → Joined all u v) → HasKnownEnds count links → HasNoSelfLink links → IsApart links
    → IsForest links
forest-within count all tree [] within known other apart = tt
forest-within count all tree (l ∷ links) within known other apart =
    let P : Link → Type 0 = λ l. IsNode count l.a.0 × IsNode count l.b.0 in
    let Q : Link → Type 0 = λ l. l.a.0 ≢ l.b.0 in
    let ends : IsNode count l.a.0 × IsNode count l.b.0 = All-head P l links known in
    let ne : l.a.0 ≢ l.b.0 = All-head Q l links other in
    let within' = λ (u v : ℕ) (j : Joined links u v). within u v (inr j) in
    let one = tree.one_path l.a.0 l.b.0 ends.0 ends.1 in
    let direct : IsPath (Joined all) l.a.0 (l.b.0 ∷ []) l.b.0 = ((within l.a.0 l.b.0 (inl (inl (refl, refl))), refl), ((ne, tt), (tt, tt))) in
    let no = λ (c : Connected links l.a.0 l.b.0).
    (let p = path-from_walk (Joined links) l.a.0 c.0 l.b.0 c.1 in let wide : IsPath
    (Joined all) l.a.0 p.0 l.b.0 = (
      walk-widen (Joined links) (Joined all) within' l.a.0 p.0 l.b.0 p.1.0,
      p.1.1,
    ) in let same : p.0 ≡ l.b.0 ∷ [] = one.2 p.0 wide ∙ sym (one.2 (l.b.0 ∷ []) direct) in let F : List ℕ
    → Type 0 = λ t. IsWalk (Joined links) l.a.0 t l.b.0 in apart.0 (subst F same p.1.0).0) in
    (no, forest-within count all tree links within' (All-tail P l links known) (All-tail Q l links other) apart.1)

pub forest-from_tree : (count : ℕ) (links : List Link) → IsTree count links → IsForest links
forest-from_tree count links tree =
    forest-within count links tree links (λ u v j. j) tree.graph.known tree.graph.no_self (apart-from_graph links tree.graph.no_second)

pub loop_free-tree : (count : ℕ) (links : List Link) → IsTree count links → IsLoopFree (Joined links)
loop_free-tree count links tree = loop_free-forest links (forest-from_tree count links tree)
