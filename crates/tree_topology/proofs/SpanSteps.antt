-- The search from node 1, step by step.
use Rattle.std.proofs.Common.{◌≡◌, ◌≢◌, ℕ, zero, suc, ◌+◌, ◌-◌, ◌<◌, ◌≤◌, ◌==◌, nat_lt, if◌then◌else◌, Bool, true, false, cond, List, [], ◌∷◌, ◌++◌, inl, inr, refl, sym, ap, subst, ◌∙◌, length, get_or, set, replicate, below_more, arith}
use Rattle.std.proofs.lemmas.{Bool.cases_eq, Bool.cases_lt, Bool.Decides.nat_tests, List.length-set, List.length-replicate, List.get_or-set_same, List.get_or-set_other, List.length_push, List.get_or_append_left, List.get_or_push, List.Folds.sum_by-replicate, List.Sums.sum_by-set}
use Rattle.tree_topology.specs.{Link, IsNode, Joined, IsWalk, Connected, HasKnownEnds, HasNoSelfLink, IsGraph, IsTree, HasNoLoop, IsFirstNode, IsSpan, Grows, IsClosed, HasReachedAll, neighbours}
use Rattle.tree_topology.proofs.{Forests.tree-from_checks, PortFacts.neighbour-joined, PortFacts.joined-neighbour, Walks.reaches-step, Links.joined-sym, Links.joined-known, Links.connected-through}

grows-same : (parents order : List ℕ) → Grows parents order parents order
grows-same parents order = record {
  reached = (λ x n. n);
  at_least = omega arith;
  same = (λ k lt. refl);
}

pub grows-through : (p1 o1 p2 o2 p3 o3 : List ℕ) → Grows p1 o1 p2 o2 → Grows p2 o2 p3 o3 → Grows p1 o1 p3 o3
grows-through p1 o1 p2 o2 p3 o3 g h = record {
  reached = (λ x n. h.reached x (g.reached x n));
  at_least = omega (arith, g.at_least, h.at_least);
  same = (λ k lt. h.same k (omega (arith, lt, g.at_least)) ∙ g.same k lt);
}

-- a list of zeros has 0 at each place
zeros-read : (n x : ℕ) → get_or (replicate {A = ℕ} n 0) x 0 ≡ 0
zeros-read zero x = refl
zeros-read (suc n) zero = refl
zeros-read (suc n) (suc x) = zeros-read n x

-- a search of no nodes
span-none : (links : List Link) → IsSpan 0 links (0 ∷ []) (0 ∷ []) []
span-none links = grind arith

-- a search that has reached node 1
span-one : (count : ℕ) (links : List Link) → 0 < count → IsSpan count links (set (replicate (count + 1) 0) 1 1) (replicate (count + 1) 0) (1 ∷ [])
span-one count links some =
    let zeros : List ℕ = replicate (count + 1) 0 in
    let p : List ℕ = set zeros 1 1 in
    let size : length zeros ≡ count + 1 = length-replicate (count + 1) 0 in
    let one : 1 < length zeros = omega (arith, some, size) in
    let at : get_or p 1 0 ≡ 1 = get_or-set_same zeros 1 1 0 one in
    let p_x : (x : ℕ) → x ≢ 1 → get_or p x 0 ≡ 0 = λ x ne. get_or-set_other zeros 1 x 1 0 ne ∙ zeros-read (count + 1) x in
    let only : (x : ℕ) → get_or p x 0 ≢ 0 → x ≡ 1 = λ x q. elim (cases_eq x 1) [ inl e ↦ e | inr ne ↦ absurd (q (p_x x ne)) ] in
    let at1 : get_or p 1 0 ≢ 0 = λ e. absurd (omega (arith, at, e)) in
    record {
      parents_size = length-set zeros 1 1 ∙ size;
      depths_size = size;
      none = p_x 0 (λ e. absurd (omega (arith, e)));
      first = (λ _. at1);
      top = zeros-read (count + 1) 1;
      listed = (λ k lt. (let F : ℕ → Type 0 = λ t. IsNode count (get_or (1 ∷ []) t 0)
          × (get_or p (get_or (1 ∷ []) t 0) 0 ≢ 0) in let z : k
          ≡ 0 = omega (arith, lt) in subst F (sym z) ((omega arith, omega (arith, some)), at1)));
      found = (λ x m q. (0, omega arith, sym (only x q)));
      connected = (λ x m q. (let F : ℕ → Type 0 = λ t. Connected links 1 t in subst F (sym (only x q)) ([], refl)));
      joined = (λ x m q o. absurd (o (only x q)));
      above = (λ x m q o. absurd (o (only x q)));
      falls = (λ x m q o. absurd (o (only x q)));
      shallow = (λ x le. omega (arith, zeros-read (count + 1) x));
      counted = (
          let g : ℕ → ℕ = λ p. cond (nat_lt 0 p) 1 0 in
          let s = sum_by-set g zeros 1 1 0 one in
          let zero_1 : g (get_or zeros 1 0) ≡ 0 = ap g (zeros-read (count + 1) 1) in
          let none = sum_by-replicate g (count + 1) 0 in
          omega (arith, s, zero_1, none));
    }

pub span-start_none : (count n : ℕ) (links : List Link) (parents depths order : List ℕ) → n ≡ count → n ≤ 0
    → parents ≡ replicate (n + 1) 0 → depths ≡ replicate (n + 1) 0 → order ≡ []
    → IsSpan count links parents depths order
span-start_none count n links parents depths order e none p d o = grind (arith, span-none)

pub span-start_one : (count n : ℕ) (links : List Link) (parents depths order : List ℕ) → n ≡ count → 0 < n
    → parents ≡ set (replicate (n + 1) 0) 1 1 → depths ≡ replicate (n + 1) 0 → order ≡ 1 ∷ []
    → IsSpan count links parents depths order
span-start_one count n links parents depths order e some p d o = rw (← e, p, d, o) (span-one n links some)

push-old : (order : List ℕ) (v k : ℕ) → k < length order → get_or (order ++ v ∷ []) k 0 ≡ get_or order k 0
push-old order v k lt = get_or_append_left order (v ∷ []) 0 k lt

-- a neighbour that isn't reached is a new node
span-more : (count : ℕ) (links : List Link) (parents depths order : List ℕ) (u v : ℕ) → HasKnownEnds count links
    → IsSpan count links parents depths order → IsNode count u → get_or parents u 0 ≢ 0 → Joined links u v
    → get_or parents v 0 ≡ 0 → IsSpan count links (set parents v u) (set depths v (get_or depths u 0 + 1))
    (order ++ v ∷ [])
span-more count links parents depths order u v known h m reached j free =
    let n : IsNode count v = (joined-known count links u v known j).1 in
    let lp : v < length parents = omega (arith, h.parents_size, n.1) in
    let ld : v < length depths = omega (arith, h.depths_size, n.1) in
    let deep = get_or depths u 0 + 1 in
    let p' = set parents v u in
    let d' = set depths v deep in
    let o' = order ++ v ∷ [] in
    let uv : u ≢ v = λ e. (let F : ℕ → ℕ = λ t. get_or parents t 0 in reached (ap F e ∙ free)) in
    let v1 : v ≢ 1 = λ e. (let F : ℕ → ℕ = λ t. get_or parents t 0 in h.first (omega (arith, n)) (sym (ap F e) ∙ free)) in
    let p_v : get_or p' v 0 ≡ u = get_or-set_same parents v u 0 lp in
    let d_v : get_or d' v 0 ≡ deep = get_or-set_same depths v deep 0 ld in
    let p_x : (x : ℕ) → x ≢ v → get_or p' x 0 ≡ get_or parents x 0 = λ x ne. get_or-set_other parents v x u 0 ne in
    let d_x : (x : ℕ) → x ≢ v → get_or d' x 0 ≡ get_or depths x 0 = λ x ne. get_or-set_other depths v x deep 0 ne in
    let u0 : u ≢ 0 = λ e. absurd (omega (arith, m.0, e)) in
    let size : length o' ≡ length order + 1 = length_push order v in
    let was : (x : ℕ) → x ≢ v → get_or p' x 0 ≢ 0 → get_or parents x 0 ≢ 0 = λ x ne q e. q (p_x x ne ∙ e) in
    let keeps : (x : ℕ) → get_or parents x 0 ≢ 0
    → get_or p' x 0 ≢ 0 = λ x q e. elim (cases_eq x v) [
      | inl s ↦ (let F : ℕ
          → ℕ = λ t. get_or parents t 0 in q (ap F s ∙ free))
      | inr ne ↦ q (sym (p_x x ne) ∙ e)
    ] in
    let parent_old : (x : ℕ) → IsNode count x → get_or parents x 0 ≢ 0 → x ≢ 1
    → get_or parents x 0 ≢ v = λ x k q o e. (let F : ℕ
    → ℕ = λ t. get_or parents t 0 in h.above x k q o (ap F e ∙ free)) in
    record {
      parents_size = length-set parents v u ∙ h.parents_size;
      depths_size = length-set depths v deep ∙ h.depths_size;
      none = (p_x 0 (λ e. absurd (omega (arith, n.0, e))) ∙ h.none);
      first = (λ some. keeps 1 (h.first some));
      top = (d_x 1 (λ e. v1 (sym e)) ∙ h.top);
      listed = (λ k lt. elim (cases_lt k (length order)) [
        | inl less ↦ (let same = push-old order v k less in let F : ℕ → Type 0 = λ t. IsNode count t
            × (get_or p' t 0 ≢ 0) in let l = h.listed k less in subst F (sym same) (
              l.0,
              keeps (get_or order k 0) l.1,
            ))
        | inr more ↦ (let last : k ≡ length order = omega (arith, lt, more, size) in let at : get_or o' k 0
            ≡ v = get_or_push order v 0 k (sym last) in let F : ℕ → Type 0 = λ t. IsNode count t
            × (get_or p' t 0 ≢ 0) in subst F (sym at) (n, (λ e. u0 (sym p_v ∙ e))))
      ]);
      found = (λ x k q. elim (cases_eq x v) [
        | inl e ↦ (length order, omega (arith, size), get_or_push order v 0 (length order) refl ∙ sym e)
        | inr ne ↦ (let f = h.found x k (was x ne q) in (f.0, omega (arith, f.1, size), push-old order v f.0 f.1 ∙ f.2))
      ]);
      connected = (λ x k q. elim (cases_eq x v) [
        | inl e ↦ (let F : ℕ → Type 0 = λ t. Connected links 1 t in subst F (sym e)
            (connected-through links 1 u v (h.connected u m reached) (reaches-step (Joined links) u v j)))
        | inr ne ↦ h.connected x k (was x ne q)
      ]);
      joined = (λ x k q o. elim (cases_eq x v) [
        | inl e ↦ (let F : ℕ → Type 0 = λ t. Joined links t (get_or p' t 0) in let G : ℕ
            → Type 0 = λ t. Joined links v t in subst F (sym e) (subst G (sym p_v) (joined-sym links u v j)))
        | inr ne ↦ (let G : ℕ → Type 0 = λ t. Joined links x t in subst G (sym (p_x x ne)) (h.joined x k (was x ne q) o))
      ]);
      above = (λ x k q o. elim (cases_eq x v) [
        | inl e ↦ (let F : ℕ → Type 0 = λ t. get_or p' (get_or p' t 0) 0 ≢ 0 in let G : ℕ
            → Type 0 = λ t. get_or p' t 0 ≢ 0 in subst F (sym e) (subst G (sym p_v) (keeps u reached)))
        | inr ne ↦ (let G : ℕ → Type 0 = λ t. get_or p' t 0 ≢ 0 in subst G (sym (p_x x ne)) (keeps (get_or parents x 0) (h.above x k (was x ne q) o)))
      ]);
      falls = (λ x k q o. elim (cases_eq x v) [
        | inl e ↦ (let F : ℕ → Type 0 = λ t. get_or d' (get_or p' t 0) 0 < get_or d' t 0 in let G : ℕ
            → Type 0 = λ t. get_or d' t 0 < get_or d' v 0 in subst F (sym e)
            (subst G (sym p_v) (omega (arith, d_x u uv, d_v))))
        | inr ne ↦ (let G : ℕ
            → Type 0 = λ t. get_or d' t 0 < get_or d' x 0 in let w = was x ne q in
            let pv = parent_old x k w o in subst G (sym (p_x x ne)) (omega (arith, d_x x ne, d_x (get_or parents x 0) pv, h.falls x k w o)))
      ]);
      shallow = (λ x le. elim (cases_eq x v) [
        | inl e ↦ (let F : ℕ → Type 0 = λ t. get_or d' t 0 ≤ length o' in subst F (sym e) (omega (arith, d_v, h.shallow u m.1, size)))
        | inr ne ↦ omega (arith, d_x x ne, h.shallow x le, size)
      ]);
      counted = (
          let f : ℕ → Bool = λ p. nat_lt 0 p in
          let g : ℕ → ℕ = λ p. cond (f p) 1 0 in
          let s = sum_by-set g parents v u 0 lp in
          let zero_v : g (get_or parents v 0) ≡ 0 = ap g free in
          let one_u : g u ≡ 1 = (let t : nat_lt 0 u ≡ true = grind (arith, nat_tests) in ap (λ (b : Bool). cond b 1 0) t) in
          omega (arith, s, zero_v, one_u, h.counted, size));
    }

chosen : {X : Type 0} (a : ℕ) (x y : X) → a ≡ 0 → (if a == 0 then x else y) ≡ x
chosen a x y e = let t : (a == 0) ≡ true = grind (arith, nat_tests) in ap (λ (b : Bool). if b then x else y) t

left : {X : Type 0} (a : ℕ) (x y : X) → a ≢ 0 → (if a == 0 then x else y) ≡ y
left a x y n = let t : (a == 0) ≡ false = grind (arith, nat_tests) in ap (λ (b : Bool). if b then x else y) t

span-as : (count : ℕ) (links : List Link) (parents order p d o p' d' o' : List ℕ) (v : ℕ) → IsSpan count links p d o
    × Grows parents order p o × (get_or p v 0 ≢ 0) → p' ≡ p → d' ≡ d → o' ≡ o → IsSpan count links p' d' o'
    × Grows parents order p' o' × (get_or p' v 0 ≢ 0)
span-as count links parents order p d o p' d' o' v h ep ed eo = grind arith

-- a neighbour is reached, whether it was or not
pub span-reach : (count : ℕ) (links : List Link) (parents depths order p' d' o' : List ℕ) (u v : ℕ)
    → HasKnownEnds count links → IsSpan count links parents depths order → IsNode count u → get_or parents u 0 ≢ 0
    → Joined links u v → p' ≡ (if get_or parents v 0 == 0 then set parents v u else parents)
    → d' ≡ (if get_or parents v 0 == 0 then set depths v (get_or depths u 0 + 1) else depths)
    → o' ≡ (if get_or parents v 0 == 0 then order ++ v ∷ [] else order) → IsSpan count links p' d' o'
    × Grows parents order p' o' × (get_or p' v 0 ≢ 0)
span-reach count links parents depths order p' d' o' u v known h m reached j ep ed eo =
    elim (cases_eq (get_or parents v 0) 0) [
      | inl e ↦ (
          let n : IsNode count v = (joined-known count links u v known j).1 in
          let p = set parents v u in
          let d = set depths v (get_or depths u 0 + 1) in
          let o = order ++ v ∷ [] in
          let sp : p' ≡ p = ep ∙ chosen (get_or parents v 0) p parents e in
          let sd : d' ≡ d = ed ∙ chosen (get_or parents v 0) d depths e in
          let so : o' ≡ o = eo ∙ chosen (get_or parents v 0) o order e in
          let p_v : get_or p v 0 ≡ u = get_or-set_same parents v u 0 (omega (arith, h.parents_size, n.1)) in
          let grows : Grows parents order p o = record {
            reached = (λ x q. (λ z. elim (cases_eq x v) [
              | inl s ↦ (let K : ℕ
                  → ℕ = λ t. get_or parents t 0 in q (ap K s ∙ e))
              | inr ne ↦ q
                  (sym (get_or-set_other parents v x u 0 ne) ∙ z)
            ]));
            at_least = omega (arith, length_push order v);
            same = (λ k lt. push-old order v k lt);
          } in
          let whole : IsSpan count links p d o × Grows parents order p o
          × (get_or p v 0 ≢ 0) = (
            span-more count links parents depths order u v known h m reached j e,
            grows,
            (λ z. absurd (omega (arith, m.0, p_v, z))),
          ) in
          span-as count links parents order p d o p' d' o' v whole sp sd so)
      | inr n ↦ (
          let sp : p' ≡ parents = ep ∙ left (get_or parents v 0) (set parents v u) parents n in
          let sd : d' ≡ depths = ed ∙ left (get_or parents v 0) (set depths v (get_or depths u 0 + 1)) depths n in
          let so : o' ≡ order = eo ∙ left (get_or parents v 0) (order ++ v ∷ []) order n in
          span-as count links parents order parents depths order p' d' o' v (h, grows-same parents order, n) sp sd so)
    ]

-- the neighbours of a node, one by one
pub neighbour-at : (count : ℕ) (links : List Link) (u i : ℕ) (row : List ℕ) → HasKnownEnds count links
    → row ≡ neighbours links u → i < length row → Joined links u (get_or row i 0) × (get_or row i 0 ≤ count)
neighbour-at count links u i row known e lt =
    let F : List ℕ → Type 0 = λ t. Joined links u (get_or t i 0) in
    let L : List ℕ → Type 0 = λ t. i < length t in
    let j = subst F (sym e) (neighbour-joined links u i 0 (subst L e lt)) in
    (j, (joined-known count links u (get_or row i 0) known j).1.1)

-- one neighbour more is reached
pub visit-step : (count : ℕ) (links : List Link) (p0 o0 parents depths order p' d' o' : List ℕ) (u i : ℕ)
    (row : List ℕ) → HasKnownEnds count links → row ≡ neighbours links u → i < length row
    → IsSpan count links parents depths order → Grows p0 o0 parents order
    → ((k : ℕ) → k < i → get_or parents (get_or row k 0) 0 ≢ 0) → IsNode count u → get_or p0 u 0 ≢ 0
    → p' ≡ (if get_or parents (get_or row i 0) 0 == 0 then set parents (get_or row i 0) u else parents)
    → d' ≡ (if get_or parents (get_or row i 0) 0 == 0 then set depths (get_or row i 0)
    (get_or depths u 0 + 1) else depths) → o' ≡ (if get_or parents
    (get_or row i 0) 0 == 0 then order ++ get_or row i 0 ∷ [] else order) → IsSpan count links p' d' o'
    × Grows p0 o0 p' o' × ((k : ℕ) → k < i + 1 → get_or p' (get_or row k 0) 0 ≢ 0)
visit-step count links p0 o0 parents depths order p' d' o' u i row known e lt h g before m reached ep ed eo =
    let j = (neighbour-at count links u i row known e lt).0 in
    let r = span-reach count links parents depths order p' d' o' u (get_or row i 0) known h m (g.reached u reached) j ep ed eo in (
      r.0,
      grows-through p0 o0 parents order p' o' g r.1,
      (λ k less. below_more (λ k. get_or p' (get_or row k 0) 0 ≢ 0) i
          (λ k less. r.1.reached (get_or row k 0) (before k less)) r.2 k less),
    )

-- then all are reached
pub visit-end : (links : List Link) (parents row : List ℕ) (u n : ℕ) → HasNoSelfLink links → row ≡ neighbours links u
    → length row ≤ n → ((k : ℕ) → k < n → get_or parents (get_or row k 0) 0 ≢ 0) → (v : ℕ) → Joined links u v
    → get_or parents v 0 ≢ 0
visit-end links parents row u n other e le all v j = grind (arith, joined-neighbour)

-- whom node 1 is connected with is reached
walk-reached : (count : ℕ) (links : List Link) (parents : List ℕ) (x : ℕ) (w : List ℕ) (y : ℕ)
    → HasKnownEnds count links → IsClosed count links parents → IsNode count x → get_or parents x 0 ≢ 0
    → IsWalk (Joined links) x w y → get_or parents y 0 ≢ 0
walk-reached count links parents x [] y known closed m q h = let F : ℕ → Type 0 = λ t. get_or parents t 0 ≢ 0 in subst F h q
walk-reached count links parents x (v ∷ w) y known closed m q h =
    walk-reached count links parents v w y known closed (joined-known count links x v known h.0).1 (closed x v m q h.0) h.1

pub reached-all : (count n : ℕ) (parents : List ℕ) → count ≤ n → ((k : ℕ) → k < n → get_or parents (k + 1) 0 ≢ 0) → HasReachedAll count parents
reached-all count n parents le all x m =
    let e : x - 1 + 1 ≡ x = omega (arith, m.0) in
    let F : ℕ → Type 0 = λ t. get_or parents t 0 ≢ 0 in
    subst F e (all (x - 1) (omega (arith, m.0, m.1, le)))

-- a graph without loops whose nodes are all reached is a tree
pub tree-from_span : (count : ℕ) (links : List Link) (parents depths order : List ℕ) → IsGraph count links
    → HasNoLoop links → IsSpan count links parents depths order → HasReachedAll count parents → IsTree count links
tree-from_span count links parents depths order graph none h all =
    tree-from_checks count links graph none (λ x m. h.connected x m (all x m))

-- the first node that isn't reached is the first that isn't connected
pub first-unreached : (count i : ℕ) (links : List Link) (parents depths order : List ℕ) → IsGraph count links
    → IsSpan count links parents depths order → IsClosed count links parents → i < count
    → get_or parents (i + 1) 0 ≡ 0 → ((k : ℕ) → k < i → get_or parents (k + 1) 0 ≢ 0)
    → IsFirstNode (λ y. ¬ Connected links 1 y) count (i + 1)
first-unreached count i links parents depths order graph h closed lt e before =
    let one : IsNode count 1 = (omega arith, omega (arith, lt)) in
    let F : ℕ → Type 0 = λ t. get_or parents t 0 ≢ 0 in (
      (omega arith, omega (arith, lt)),
      (λ c. walk-reached count links parents 1 c.0 (i + 1) graph.known closed one
          (h.first (omega (arith, lt))) c.1 e),
      (λ y low less no. (let f : y - 1 + 1
          ≡ y = omega (arith, low) in no (h.connected y (low, omega (arith, less, lt))
          (subst F f (before (y - 1) (omega (arith, low, less))))))),
    )
