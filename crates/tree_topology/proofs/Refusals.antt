-- At most one refusal fits, and none fits an accepted tree.
use Rattle.std.proofs.Common.{◌≡◌, ◌≢◌, ℕ, suc, zero, ◌<◌, ◌≤◌, List, [], ◌∷◌, inl, inr, refl, sym, ap, subst, ◌∙◌, length, get_or, take, arith}
use Rattle.std.proofs.lemmas.Bool.{cases_lt}
use Rattle.srp_base.specs.declared.{numbers.LinkNo.LinkNo, numbers.NodeNo.NodeNo}
use Rattle.tree_topology.specs.{Link, NodeKind, TreeErr, UnknownNode, SelfLink, SecondLink, Loop, Unconnected, StationWithLinks, TooManyLinks, NoMemory, Joined, IsWalk, IsPath, Connected, HasKnownEnds, HasNoSelfLink, HasNoSecondLink, IsTree, IsFirstLink, IsFirstNode, HasUnknownEnd, IsSelfLink, IsSecondLink, ClosesLoop, HasNoLoop, IsStationWithLinks, HasTooManyLinks, HasLeafStations, HasCountedPorts, IsAccepted, IsRefusal}
use Rattle.tree_topology.proofs.{Walks.walk-widen, Walks.path-from_walk, Links.joined-take, Trees.tree-connected}

abbrev no_link : Link
no_link = record { a = record { 0 = 0 }; b = record { 0 = 0 } }

-- a link of a list joins its ends
pub link-joined : (links : List Link) (i : ℕ) (d : Link) → i < length links → Joined links (get_or links i d).a.0 (get_or links i d).b.0
link-joined [] i d lt = absurd (omega (arith, lt))
link-joined (l ∷ links) zero d lt = inl (inl (refl, refl))
link-joined (l ∷ links) (suc i) d lt = inr (link-joined links i d (omega (arith, lt)))

-- in a tree no link closes a loop
pub tree-no_loop : (count : ℕ) (links : List Link) → IsTree count links → HasNoLoop links
tree-no_loop count links tree i d lt c =
    let l = get_or links i d in
    let ends = tree.graph.known i d lt in
    let ne : l.a.0 ≢ l.b.0 = tree.graph.no_self i d lt in
    let one = tree.one_path l.a.0 l.b.0 ends.0 ends.1 in
    let p = path-from_walk (Joined (take i links)) l.a.0 c.0 l.b.0 c.1 in
    let wide : IsPath (Joined links) l.a.0 p.0 l.b.0 = (
      walk-widen (Joined (take i links)) (Joined links)
          (λ u v j. joined-take links i u v j) l.a.0 p.0 l.b.0 p.1.0,
      p.1.1,
    ) in
    let direct : IsPath (Joined links) l.a.0 (l.b.0 ∷ []) l.b.0 = ((link-joined links i d lt, refl), ((ne, tt), (tt, tt))) in
    let same : p.0 ≡ l.b.0 ∷ [] = one.2 p.0 wide ∙ sym (one.2 (l.b.0 ∷ []) direct) in
    let F : List ℕ → Type 0 = λ t. IsWalk (Joined (take i links)) l.a.0 t l.b.0 in
    tree.graph.no_second i d lt (subst F same p.1.0).0

first_link-none : (F : List Link → Link → Type 0) (links : List Link) (n : ℕ)
    → ((i : ℕ) (d : Link) → i < length links → ¬ F (take i links) (get_or links i d)) → ¬ IsFirstLink F links n
first_link-none F links n none h = none h.0 no_link h.2 (h.3 no_link)

first_link-same : (F : List Link → Link → Type 0) (links : List Link) (n m : ℕ) → IsFirstLink F links n → IsFirstLink F links m → n ≡ m
first_link-same F links n m h k =
    elim (cases_lt h.0 k.0) [
      | inl lt ↦ absurd (k.4 h.0 no_link lt (h.3 no_link))
      | inr le ↦ elim (cases_lt k.0 h.0) [
        | inl lt ↦ absurd (h.4 k.0 no_link lt (k.3 no_link))
        | inr ge ↦ omega (arith, h.1, k.1, le, ge)
      ]
    ]

first_node-same : (F : ℕ → Type 0) (count x y : ℕ) → IsFirstNode F count x → IsFirstNode F count y → x ≡ y
first_node-same F count x y h k = grind (arith, cases_lt)

-- what no two refusals say
known-no_unknown : (count : ℕ) (links : List Link) (n : ℕ) → HasKnownEnds count links → ¬ IsFirstLink (HasUnknownEnd count) links n
known-no_unknown count links n known = first_link-none (HasUnknownEnd count) links n (λ i d lt q. q (known i d lt))

no_self-none : (links : List Link) (n : ℕ) → HasNoSelfLink links → ¬ IsFirstLink IsSelfLink links n
no_self-none links n other = first_link-none IsSelfLink links n (λ i d lt q. other i d lt q)

no_second-none : (links : List Link) (n : ℕ) → HasNoSecondLink links → ¬ IsFirstLink IsSecondLink links n
no_second-none links n none = first_link-none IsSecondLink links n (λ i d lt q. none i d lt q)

no_loop-none : (links : List Link) (n : ℕ) → HasNoLoop links → ¬ IsFirstLink ClosesLoop links n
no_loop-none links n none = first_link-none ClosesLoop links n (λ i d lt q. none i d lt q)

connected-none : (count : ℕ) (links : List Link) (x : ℕ) → IsTree count links → ¬ IsFirstNode (λ y. ¬ Connected links 1 y) count x
connected-none count links x tree h = h.1 (tree-connected count links tree 1 x (omega arith, omega (arith, h.0.0, h.0.1)) h.0)

leaf-none : (kinds : List NodeKind) (links : List Link) (x : ℕ) → HasLeafStations kinds links → ¬ IsFirstNode (IsStationWithLinks kinds links) (length kinds) x
leaf-none kinds links x leaf h = leaf x h.0 h.1

counted-none : (kinds : List NodeKind) (links : List Link) (x : ℕ) → HasCountedPorts kinds links → ¬ IsFirstNode (HasTooManyLinks links) (length kinds) x
counted-none kinds links x counted h = absurd (omega (arith, counted x h.0, h.1))

-- no refusal but want of memory fits an accepted tree
pub accepted-refusal : (kinds : List NodeKind) (links : List Link) (e : TreeErr) → IsAccepted kinds links → IsRefusal kinds links e → e ≡ NoMemory
accepted-refusal kinds links (UnknownNode n) h r = absurd (known-no_unknown (length kinds) links n.0 h.tree.graph.known r)
accepted-refusal kinds links (SelfLink n) h r = absurd (no_self-none links n.0 h.tree.graph.no_self r.1)
accepted-refusal kinds links (SecondLink n) h r = absurd (no_second-none links n.0 h.tree.graph.no_second r.2)
accepted-refusal kinds links (Loop n) h r = absurd (no_loop-none links n.0 (tree-no_loop (length kinds) links h.tree) r.1)
accepted-refusal kinds links (Unconnected x) h r = absurd (connected-none (length kinds) links x.0 h.tree r.2)
accepted-refusal kinds links (StationWithLinks x) h r = absurd (leaf-none kinds links x.0 h.leaf_stations r.1)
accepted-refusal kinds links (TooManyLinks x) h r = absurd (counted-none kinds links x.0 h.counted_ports r.2)
accepted-refusal kinds links NoMemory h r = refl

-- what each check says, in their order
pub record Checks (kinds : List NodeKind) (links : List Link) (passed : ℕ) : Type 0 where
  pub known : 0 < passed → HasKnownEnds (length kinds) links
  pub no_self : 1 < passed → HasNoSelfLink links
  pub no_second : 2 < passed → HasNoSecondLink links
  pub no_loop : 3 < passed → HasNoLoop links
  pub tree : 4 < passed → IsTree (length kinds) links
  pub leaf : 5 < passed → HasLeafStations kinds links

-- which check a refusal fails
step_of : TreeErr → ℕ
step_of (UnknownNode n) = 0
step_of (SelfLink n) = 1
step_of (SecondLink n) = 2
step_of (Loop n) = 3
step_of (Unconnected x) = 4
step_of (StationWithLinks x) = 5
step_of (TooManyLinks x) = 6
step_of NoMemory = 7

-- a refusal has passed the checks before its own
passed : (kinds : List NodeKind) (links : List Link) (e : TreeErr) → e ≢ NoMemory → IsRefusal kinds links e → Checks kinds links (step_of e)
unfolding step_of
passed kinds links (UnknownNode n) m r = record {
  known = (λ h. absurd (omega (arith, h)));
  no_self = (λ h. absurd (omega (arith, h)));
  no_second = (λ h. absurd (omega (arith, h)));
  no_loop = (λ h. absurd (omega (arith, h)));
  tree = (λ h. absurd (omega (arith, h)));
  leaf = (λ h. absurd (omega (arith, h)));
}
passed kinds links (SelfLink n) m r = record {
  known = (λ h. r.0);
  no_self = (λ h. absurd (omega (arith, h)));
  no_second = (λ h. absurd (omega (arith, h)));
  no_loop = (λ h. absurd (omega (arith, h)));
  tree = (λ h. absurd (omega (arith, h)));
  leaf = (λ h. absurd (omega (arith, h)));
}
passed kinds links (SecondLink n) m r = record {
  known = (λ h. r.0);
  no_self = (λ h. r.1);
  no_second = (λ h. absurd (omega (arith, h)));
  no_loop = (λ h. absurd (omega (arith, h)));
  tree = (λ h. absurd (omega (arith, h)));
  leaf = (λ h. absurd (omega (arith, h)));
}
passed kinds links (Loop n) m r = record {
  known = (λ h. r.0.known);
  no_self = (λ h. r.0.no_self);
  no_second = (λ h. r.0.no_second);
  no_loop = (λ h. absurd (omega (arith, h)));
  tree = (λ h. absurd (omega (arith, h)));
  leaf = (λ h. absurd (omega (arith, h)));
}
passed kinds links (Unconnected x) m r = record {
  known = (λ h. r.0.known);
  no_self = (λ h. r.0.no_self);
  no_second = (λ h. r.0.no_second);
  no_loop = (λ h. r.1);
  tree = (λ h. absurd (omega (arith, h)));
  leaf = (λ h. absurd (omega (arith, h)));
}
passed kinds links (StationWithLinks x) m r = record {
  known = (λ h. r.0.graph.known);
  no_self = (λ h. r.0.graph.no_self);
  no_second = (λ h. r.0.graph.no_second);
  no_loop = (λ h. tree-no_loop (length kinds) links r.0);
  tree = (λ h. r.0);
  leaf = (λ h. absurd (omega (arith, h)));
}
passed kinds links (TooManyLinks x) m r = record {
  known = (λ h. r.0.graph.known);
  no_self = (λ h. r.0.graph.no_self);
  no_second = (λ h. r.0.graph.no_second);
  no_loop = (λ h. tree-no_loop (length kinds) links r.0);
  tree = (λ h. r.0);
  leaf = (λ h. r.1);
}
passed kinds links NoMemory m r = absurd (m refl)

-- and fails its own
failed : (kinds : List NodeKind) (links : List Link) (e : TreeErr) (n : ℕ) → e ≢ NoMemory → IsRefusal kinds links e
    → Checks kinds links n → step_of e < n → n ≤ 6 → ⊥
unfolding step_of
failed kinds links (UnknownNode k) n m r c lt le = known-no_unknown (length kinds) links k.0 (c.known lt) r
failed kinds links (SelfLink k) n m r c lt le = no_self-none links k.0 (c.no_self lt) r.1
failed kinds links (SecondLink k) n m r c lt le = no_second-none links k.0 (c.no_second lt) r.2
failed kinds links (Loop k) n m r c lt le = no_loop-none links k.0 (c.no_loop lt) r.1
failed kinds links (Unconnected x) n m r c lt le = connected-none (length kinds) links x.0 (c.tree lt) r.2
failed kinds links (StationWithLinks x) n m r c lt le = leaf-none kinds links x.0 (c.leaf lt) r.1
failed kinds links (TooManyLinks x) n m r c lt le = absurd (omega (arith, lt, le))
failed kinds links NoMemory n m r c lt le = m refl

step-low : (e : TreeErr) → e ≢ NoMemory → step_of e ≤ 6
unfolding step_of
step-low (UnknownNode n) m = omega arith
step-low (SelfLink n) m = omega arith
step-low (SecondLink n) m = omega arith
step-low (Loop n) m = omega arith
step-low (Unconnected x) m = omega arith
step-low (StationWithLinks x) m = omega arith
step-low (TooManyLinks x) m = omega arith
step-low NoMemory m = absurd (m refl)

link_no : (n m : LinkNo) → n.0 ≡ m.0 → n ≡ m
link_no n m e = let make : ℕ → LinkNo = λ t. record { 0 = t } in ap make e

node_no : (n m : NodeNo) → n.0 ≡ m.0 → n ≡ m
node_no n m e = let make : ℕ → NodeNo = λ t. record { 0 = t } in ap make e

-- refusals that fail the same check are the same
same-step : (kinds : List NodeKind) (links : List Link) (e f : TreeErr) → IsRefusal kinds links e → IsRefusal kinds links f → step_of e ≡ step_of f → e ≡ f
unfolding step_of
same-step kinds links (UnknownNode n) (UnknownNode m) r s q = ap UnknownNode (link_no n m (first_link-same (HasUnknownEnd (length kinds)) links n.0 m.0 r s))
same-step kinds links (SelfLink n) (SelfLink m) r s q = ap SelfLink (link_no n m (first_link-same IsSelfLink links n.0 m.0 r.1 s.1))
same-step kinds links (SecondLink n) (SecondLink m) r s q = ap SecondLink (link_no n m (first_link-same IsSecondLink links n.0 m.0 r.2 s.2))
same-step kinds links (Loop n) (Loop m) r s q = ap Loop (link_no n m (first_link-same ClosesLoop links n.0 m.0 r.1 s.1))
same-step kinds links (Unconnected x) (Unconnected y) r s q = ap Unconnected
    (node_no x y (first_node-same (λ z. ¬ Connected links 1 z) (length kinds) x.0 y.0 r.2 s.2))
same-step kinds links (StationWithLinks x) (StationWithLinks y) r s q = ap StationWithLinks
    (node_no x y (first_node-same (IsStationWithLinks kinds links) (length kinds) x.0 y.0 r.1 s.1))
same-step kinds links (TooManyLinks x) (TooManyLinks y) r s q = ap TooManyLinks
    (node_no x y (first_node-same (HasTooManyLinks links) (length kinds) x.0 y.0 r.2 s.2))
same-step kinds links NoMemory NoMemory r s q = refl
same-step kinds links e f r s q = absurd (omega (arith, q))

-- at most one refusal fits, but for want of memory
pub refusals-same : (kinds : List NodeKind) (links : List Link) (e f : TreeErr) → e ≢ NoMemory → f ≢ NoMemory
    → IsRefusal kinds links e → IsRefusal kinds links f → e ≡ f
refusals-same kinds links e f m k r s =
    elim (cases_lt (step_of e) (step_of f)) [
      | inl lt ↦ absurd (failed kinds links e (step_of f) m r (passed kinds links f k s) lt (step-low f k))
      | inr le ↦ elim (cases_lt (step_of f) (step_of e)) [
        | inl lt ↦ absurd (failed kinds links f (step_of e) k s (passed kinds links e m r) lt (step-low e m))
        | inr ge ↦ same-step kinds links e f r s (omega (arith, le, ge))
      ]
    ]
