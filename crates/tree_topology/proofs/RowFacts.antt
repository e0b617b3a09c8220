-- The rows of neighbours, link by link.
use Rattle.std.proofs.Common.{◌≡◌, ◌≢◌, ℕ, suc, zero, ◌+◌, ◌<◌, Bool, true, false, ◌==◌, ◌||◌, if◌then◌else◌, Option, Some, None, List, [], ◌∷◌, ◌++◌, ◌⊎◌, inl, inr, refl, sym, ap, subst, ◌∙◌, length, get_or, take, below_more, arith}
use Rattle.std.proofs.lemmas.{Bool.cases_eq, Bool.eq-eqb, Bool.ne_eqb, Bool.false≢true, List.append-nil, List.take_more, List.length-set, List.get_or-set_same, List.get_or-set_other, List.get_or_default, List.Elements.filter_map-append, List.Elements.All-take}
use Rattle.std.specs.List.{list_any, cons_option}
use Rattle.tree_topology.specs.{Link, NodeKind, IsNode, Joins, Joined, HasKnownEnds, HasNoSelfLink, IsGraph, far_end, neighbours, IsFirstLink, IsSecondLink, HasRows, with_neighbour, with_link}
use Rattle.tree_topology.proofs.{Links.joined-sym, PortFacts.far_end-joins, PortFacts.neighbour-joined, PortFacts.joined-neighbour}

-- no link before this place joins the same nodes as an earlier one
abbrev pub IsApartTo : List Link → ℕ → Type 0
IsApartTo links n =
    (i : ℕ) (d : Link) → i < n → ¬ Joined (take i links) (get_or links i d).a.0 (get_or links i d).b.0

neighbours-push : (links : List Link) (l : Link) (x : ℕ) → neighbours (links ++ l ∷ []) x ≡ neighbours links x ++ cons_option (far_end x l) []
neighbours-push links l x = filter_map-append (far_end x) links (l ∷ [])

row-other : (links : List Link) (l : Link) (x : ℕ) → l.a.0 ≢ x → l.b.0 ≢ x → neighbours (links ++ l ∷ []) x ≡ neighbours links x
row-other links l x n k = grind (arith, ne_eqb, neighbours-push, append-nil)

row-end : (links : List Link) (l : Link) (x v : ℕ) → l.a.0 ≢ l.b.0 → Joins l x v → neighbours (links ++ l ∷ []) x ≡ neighbours links x ++ v ∷ []
row-end links l x v ne j = grind (arith, neighbours-push, far_end-joins)

-- one link more
pub rows-link : (count : ℕ) (links : List Link) (l : Link) (rows : List (List ℕ)) → IsNode count l.a.0
    → IsNode count l.b.0 → l.a.0 ≢ l.b.0 → HasRows count links rows
    → HasRows count (links ++ l ∷ []) (with_link rows l)
rows-link count links l rows m n ne h = grind (arith, length-set, get_or-set_other, cases_eq, get_or-set_same, row-end, row-other)

any-at : (v : ℕ) (xs : List ℕ) → list_any (λ u. u == v) xs ≡ true → (k : ℕ) × (k < length xs) × (get_or xs k 0 ≡ v)
any-at v [] e = absurd (false≢true e)
any-at v (x ∷ xs) e =
    elim (cases_eq x v) [
      | inl q ↦ (0, omega arith, q)
      | inr n ↦ (let rest : list_any (λ u. u == v) xs
          ≡ true = sym (ap (λ b. b || list_any (λ u. u == v) xs) (ne_eqb x v n))
          ∙ e in let h = any-at v xs rest in (suc h.0, omega (arith, h.1), h.2))
    ]

at-any : (v : ℕ) (xs : List ℕ) (k : ℕ) → k < length xs → get_or xs k 0 ≡ v → list_any (λ u. u == v) xs ≡ true
at-any v [] k lt e = absurd (omega (arith, lt))
at-any v (x ∷ xs) zero lt e = ap (λ b. b || list_any (λ u. u == v) xs) (eq-eqb x v e)
at-any v (x ∷ xs) (suc k) lt e = grind (arith, at-any v xs k (omega (arith, lt)) e, cases_eq, eq-eqb, ne_eqb)

-- a row has a neighbour exactly where links join the two
pub joined-any : (links : List Link) (x v : ℕ) (row : List ℕ) → row ≡ neighbours links x → list_any (λ u. u == v) row ≡ true → Joined links x v
joined-any links x v row e h =
    let F : List ℕ → Type 0 = λ t. list_any (λ u. u == v) t ≡ true in
    let k = any-at v (neighbours links x) (subst F e h) in
    let G : ℕ → Type 0 = λ t. Joined links x t in
    subst G k.2 (neighbour-joined links x k.0 0 k.1)

pub any-joined : (links : List Link) (x v : ℕ) (row : List ℕ) → HasNoSelfLink links → row ≡ neighbours links x
    → Joined links x v → list_any (λ u. u == v) row ≡ true
any-joined links x v row other e j =
    let k = joined-neighbour links other x v j in
    let F : List ℕ → Type 0 = λ t. list_any (λ u. u == v) t ≡ true in
    subst F (sym e) (at-any v (neighbours links x) k.0 k.1 (k.2 0))

no_self-take : (links : List Link) (n : ℕ) → HasNoSelfLink links → HasNoSelfLink (take n links)
no_self-take links n h = All-take (λ (l : Link). l.a.0 ≢ l.b.0) n links h

-- what either row of a link's ends says of an earlier link
abbrev pub SaysJoined : Bool → List (List ℕ) → Link → Type 0
SaysJoined r rows l =
    (r ≡ list_any (λ u. u == l.b.0) (get_or rows l.a.0 [])) ⊎ (r ≡ list_any (λ u. u == l.a.0) (get_or rows l.b.0 []))

joined-said : (count : ℕ) (links : List Link) (rows : List (List ℕ)) (l : Link) (r : Bool) → HasRows count links rows
    → IsNode count l.a.0 → IsNode count l.b.0 → SaysJoined r rows l → r ≡ true → Joined links l.a.0 l.b.0
joined-said count links rows l r h m n s e =
    elim s [
      | inl t ↦ joined-any links l.a.0 l.b.0 (get_or rows l.a.0 []) (h.rows_are l.a.0 [] m.1) (sym t ∙ e)
      | inr t ↦ joined-sym links l.b.0 l.a.0 (joined-any links l.b.0 l.a.0 (get_or rows l.b.0 []) (h.rows_are l.b.0 [] n.1) (sym t ∙ e))
    ]

said-joined : (count : ℕ) (links : List Link) (rows : List (List ℕ)) (l : Link) (r : Bool) → HasRows count links rows
    → HasNoSelfLink links → IsNode count l.a.0 → IsNode count l.b.0 → SaysJoined r rows l → r ≡ false
    → ¬ Joined links l.a.0 l.b.0
said-joined count links rows l r h other m n s e j =
    elim s [
      | inl t ↦ false≢true (sym e ∙ t ∙ any-joined links l.a.0 l.b.0 (get_or rows l.a.0 []) other (h.rows_are l.a.0 [] m.1) j)
      | inr t ↦ false≢true (sym e ∙ t ∙ any-joined links l.b.0 l.a.0 (get_or rows l.b.0 []) other (h.rows_are l.b.0 [] n.1) (joined-sym links l.a.0 l.b.0 j))
    ]

said-of : (rows rows' : List (List ℕ)) (l : Link) (r : Bool) → rows ≡ rows' → SaysJoined r rows l → SaysJoined r rows' l
said-of rows rows' l r e s = let F : List (List ℕ) → Type 0 = λ t. SaysJoined r t l in subst F e s

-- the first link that joins nodes which an earlier one joins
pub second-link : (count : ℕ) (links : List Link) (rows rows' : List (List ℕ)) (i : ℕ) (l : Link) (r : Bool)
    → HasKnownEnds count links → HasRows count (take i links) rows → IsApartTo links i → i < length links
    → rows' ≡ rows → SaysJoined r rows' (get_or links i l) → r ≡ true → IsFirstLink IsSecondLink links (i + 1)
second-link count links rows rows' i l r known h apart lt same s e =
    let ends = known i l lt in
    let j = joined-said count (take i links) rows (get_or links i l) r h ends.0 ends.1 (said-of rows' rows (get_or links i l) r same s) e in
    let F : Link → Type 0 = λ m. Joined (take i links) m.a.0 m.b.0 in
    (i, refl, lt, (λ d. subst F (get_or_default links i l d lt) j), (λ k d less. apart k d less))

-- one link more that joins nodes which no earlier one joins
pub rows-step : (count : ℕ) (links : List Link) (rows rows' more : List (List ℕ)) (i : ℕ) (l : Link) (r : Bool)
    → HasKnownEnds count links → HasNoSelfLink links → HasRows count (take i links) rows → IsApartTo links i
    → i < length links → rows' ≡ rows → SaysJoined r rows' (get_or links i l) → r ≡ false
    → more ≡ with_link rows (get_or links i l) → HasRows count (take (i + 1) links) more × IsApartTo links (i + 1)
rows-step count links rows rows' more i l r known other h apart lt same s e new =
    let ends = known i l lt in
    let n = said-joined count (take i links) rows (get_or links i l) r h (no_self-take links i other) ends.0 ends.1
    (said-of rows' rows (get_or links i l) r same s) e in
    let F : Link → Type 0 = λ m. ¬ Joined (take i links) m.a.0 m.b.0 in
    let T : List Link → Type 0 = λ t. HasRows count t (with_link rows (get_or links i l)) in
    let M : List (List ℕ) → Type 0 = λ t. HasRows count (take (i + 1) links) t in
    let linked = rows-link count (take i links) (get_or links i l) rows ends.0 ends.1 (other i l lt) h in (
      subst M (sym new) (subst T (sym (take_more links i l lt)) linked),
      (λ k d less. below_more (λ k. (d : Link)
          → ¬ Joined (take k links) (get_or links k d).a.0 (get_or links k d).b.0) i (λ k less d. apart k d less)
          (λ d. subst F (get_or_default links i l d lt) n) k less d),
    )

-- equal lists make the same graph, with the same rows
pub graph-as : (kinds kinds' : List NodeKind) (links links' : List Link) → kinds' ≡ kinds → links' ≡ links
    → IsGraph (length kinds) links → IsGraph (length kinds') links'
graph-as kinds kinds' links links' e f h = rw (e, f) h

pub rows-as : (kinds kinds' : List NodeKind) (links links' : List Link) (rows rows' : List (List ℕ)) → kinds' ≡ kinds
    → links' ≡ links → rows' ≡ rows → HasRows (length kinds) links rows → HasRows (length kinds') links' rows'
rows-as kinds kinds' links links' rows rows' e f g h = rw (e, f, g) h
