-- The refusal as a function is the one that fits.
use Rattle.std.proofs.Common.{◌≡◌, ◌≢◌, ℕ, ◌+◌, ◌-◌, ◌<◌, ◌≤◌, Bool, true, false, not, ◌&&◌, ◌||◌, ◌==◌, List, [], ◌∷◌, inl, inr, Option, Some, None, refl, sym, ap, subst, ◌∙◌, length, get_or, take, leb-true, ltb-true, eqb-true, arith}
use Rattle.std.proofs.lemmas.{Bool.and_parts, Bool.cases_lt, Bool.false≢true, Bool.Decides.nat_tests, List.length-take-le, List.get_or_default}
use Rattle.std.specs.Prelude.{nat_le, nat_lt}
use Rattle.std.specs.List.{list_any}
use Rattle.srp_base.proofs.{Bools.held_from as not-flips, Arithmetic.is_same as eqb-same, Bools.not-true-false}
use Rattle.srp_base.specs.Firsts.{first_where}
use Rattle.srp_base.proofs.FirstLemmas.{where-some, where-none}
use Rattle.tree_topology.specs.{Link, NodeKind, Station, Bridge, TreeErr, NoMemory, IsNode, Joins, Joined, Connected, HasKnownEnds, HasNoSelfLink, IsGraph, IsTree, neighbours, component, IsFirstLink, IsFirstNode, HasUnknownEnd, IsSelfLink, IsSecondLink, ClosesLoop, HasNoLoop, IsStationWithLinks, HasTooManyLinks, HasLeafStations, IsAccepted, IsRefusal, is_node, has_unknown_end, is_self_link, joins_both, is_second_link, closes_loop, is_unconnected, is_station, is_stray_station, has_too_many_links, refused_or, node_refusal, refusal}
use Rattle.tree_topology.proofs.{WalkBetween.connected-from_component, WalkBetween.component-walk, Forests.tree-from_checks, Refusals.accepted-refusal, Refusals.refusals-same}

-- ---- tests and the faults that they find

not-found : (b : Bool) (Fault : Type 0) → (Fault → b ≡ true) → b ≡ false → ¬ Fault
not-found b Fault finds e f = false≢true (sym e ∙ finds f)

not-true : (b : Bool) → ¬ (b ≡ true) → not b ≡ true
not-true b h1 = grind arith

node-of : (count x : ℕ) → is_node count x ≡ true → IsNode count x
node-of count x e = grind (arith, and_parts, leb-true)

of-node : (count x : ℕ) → IsNode count x → is_node count x ≡ true
of-node count x h = grind (arith, nat_tests)

both-nodes : (count : ℕ) (l : Link) → (is_node count l.a.0 && is_node count l.b.0) ≡ true → IsNode count l.a.0 × IsNode count l.b.0
both-nodes count l e = grind (arith, and_parts, node-of)

unknown-end : (count : ℕ) (earlier : List Link) (l : Link) → has_unknown_end count earlier l ≡ true → HasUnknownEnd count earlier l
unknown-end count earlier l e ends = grind (arith, of-node, false≢true, not-flips)

end-unknown : (count : ℕ) (earlier : List Link) (l : Link) → HasUnknownEnd count earlier l → has_unknown_end count earlier l ≡ true
end-unknown count earlier l f = not-true (is_node count l.a.0 && is_node count l.b.0) (λ t. f (both-nodes count l t))

joins-both : (x y : ℕ) (l : Link) → Joins l x y → joins_both x y l ≡ true
joins-both x y l j = grind (arith, nat_tests)

both-joins : (x y : ℕ) (l : Link) → joins_both x y l ≡ true → Joins l x y
both-joins x y l e = by (l.a.0 == x) (l.b.0 == y) (l.a.0 == y) (l.b.0 == x) (eqb-true l.a.0 x) (eqb-true l.b.0 y) (eqb-true l.a.0 y) (eqb-true l.b.0 x) e
  where
    by : (p q r s : Bool) → (p ≡ true → l.a.0 ≡ x) → (q ≡ true → l.b.0 ≡ y) → (r ≡ true → l.a.0 ≡ y)
        → (s ≡ true → l.b.0 ≡ x) → (p && q || r && s) ≡ true → Joins l x y
    by true true r s a b c d f = inl (a refl, b refl)
    by true false true true a b c d f = inr (c refl, d refl)
    by true false true false a b c d f = absurd (false≢true f)
    by true false false s a b c d f = absurd (false≢true f)
    by false q true true a b c d f = inr (c refl, d refl)
    by false q true false a b c d f = absurd (false≢true f)
    by false q false s a b c d f = absurd (false≢true f)

any-joined : (links : List Link) (x y : ℕ) → list_any (joins_both x y) links ≡ true → Joined links x y
any-joined [] x y e = absurd (false≢true e)
any-joined (l ∷ links) x y e = by (joins_both x y l) (both-joins x y l) (any-joined links x y) e
  where
    by : (b : Bool) → (b ≡ true → Joins l x y) → (list_any (joins_both x y) links ≡ true → Joined links x y)
        → (b || list_any (joins_both x y) links) ≡ true → Joined (l ∷ links) x y
    by true here later f = inl (here refl)
    by false here later f = inr (later f)

joined-any : (links : List Link) (x y : ℕ) → Joined links x y → list_any (joins_both x y) links ≡ true
joined-any [] x y j = absurd j
joined-any (l ∷ links) x y j = elim j [
  | inl e ↦ ap (λ (b : Bool). b || list_any (joins_both x y) links) (joins-both x y l e)
  | inr k ↦ by (joins_both x y l) (joined-any links x y k)
]
  where
    by : (b : Bool) → list_any (joins_both x y) links ≡ true → (b || list_any (joins_both x y) links) ≡ true
    by true f = refl
    by false f = f

loop-closed : (earlier : List Link) (l : Link) → closes_loop earlier l ≡ true → ClosesLoop earlier l
loop-closed earlier l e = connected-from_component earlier l.a.0 l.b.0 (eqb-true (component earlier l.a.0) (component earlier l.b.0) e)

closed-loop : (earlier : List Link) (l : Link) → ClosesLoop earlier l → closes_loop earlier l ≡ true
closed-loop earlier l c = grind (arith, eqb-same, component-walk)

-- ---- what a check of all links or nodes finds

first-link : (test : List Link → Link → Bool) (Fault : List Link → Link → Type 0) (links : List Link) (n : ℕ)
    → ((earlier : List Link) (l : Link) → test earlier l ≡ true → Fault earlier l)
    → ((earlier : List Link) (l : Link) → Fault earlier l → test earlier l ≡ true)
    → first_where test [] links ≡ Some n → IsFirstLink Fault links n
first-link test Fault links n finds found e =
    let f = where-some test links n e in
    let at : n ≡ f.place + 1 = omega (arith, f.number) in (
      f.place,
      at,
      f.inside,
      (λ d. finds (take f.place links) (get_or links f.place d) (f.passes d)),
      (λ j d lt. not-found _ (Fault (take j links) (get_or links j d)) (found (take j links) (get_or links j d))
          (f.fail j d lt)),
    )

no-link : (test : List Link → Link → Bool) (Fault : List Link → Link → Type 0) (links : List Link)
    → ((earlier : List Link) (l : Link) → Fault earlier l → test earlier l ≡ true) → first_where test [] links ≡ None
    → (i : ℕ) (d : Link) → i < length links → ¬ Fault (take i links) (get_or links i d)
no-link test Fault links found e i d lt =
    not-found _ (Fault (take i links) (get_or links i d)) (found (take i links) (get_or links i d)) (where-none test links e i d lt)

-- a test of each node, by its number and its kind
abbrev TestsNodes : List NodeKind → (List NodeKind → NodeKind → Bool) → (ℕ → Type 0) → Type 0
TestsNodes kinds test Fault =
    (x : ℕ) (d : NodeKind) → IsNode (length kinds) x
    → (test (take (x - 1) kinds) (get_or kinds (x - 1) d) ≡ true → Fault x)
    × (Fault x → test (take (x - 1) kinds) (get_or kinds (x - 1) d) ≡ true)

first-node : (kinds : List NodeKind) (test : List NodeKind → NodeKind → Bool) (Fault : ℕ → Type 0) (n : ℕ) → TestsNodes kinds test Fault
    → first_where test [] kinds ≡ Some n → IsFirstNode Fault (length kinds) n
first-node kinds test Fault n tests e =
    let f = where-some test kinds n e in
    let at : n ≡ f.place + 1 = omega (arith, f.number) in
    let is : n - 1 ≡ f.place = omega (arith, at) in
    let node : IsNode (length kinds) n = (omega (arith, at), omega (arith, at, f.inside)) in
    let T : ℕ → Type 0 = λ k. test (take k kinds) (get_or kinds k Station) ≡ true in (
      node,
      (tests n Station node).0 (subst T (sym is) (f.passes Station)),
      (λ y low lt. (let other : IsNode (length kinds) y = (low, omega (arith, lt, node.1)) in not-found _ (Fault y)
          ((tests y Station other).1) (f.fail (y - 1) Station (omega (arith, lt, low, at))))),
    )

no-node : (kinds : List NodeKind) (test : List NodeKind → NodeKind → Bool) (Fault : ℕ → Type 0) → TestsNodes kinds test Fault
    → first_where test [] kinds ≡ None → (x : ℕ) → IsNode (length kinds) x → ¬ Fault x
no-node kinds test Fault tests e x m =
    not-found _ (Fault x) ((tests x Station m).1) (where-none test kinds e (x - 1) Station (omega (arith, m.0, m.1)))

-- the number of the node behind those before it
number-of : (kinds : List NodeKind) (x : ℕ) → IsNode (length kinds) x → length (take (x - 1) kinds) + 1 ≡ x
number-of kinds x m = let short : x - 1 ≤ length kinds = omega (arith, m.0, m.1) in omega (arith, length-take-le (x - 1) kinds short, m.0)

unconnected-tests : (kinds : List NodeKind) (links : List Link) → TestsNodes kinds (is_unconnected links) (λ y. ¬ Connected links 1 y)
unconnected-tests kinds links x d m =
    let i = length (take (x - 1) kinds) + 1 in
    let is = number-of kinds x m in
    let C : ℕ → Type 0 = λ t. ¬ Connected links 1 t in
    let c = λ (t : ℕ). component links t in (
      (λ e. subst C is (λ j. false≢true (sym (not-flips (c 1 == c i) e) ∙ eqb-same (c 1) (c i) (component-walk links 1 j.0 i j.1)))),
      (λ no. not-true (c 1 == c i) (λ e. subst C (sym is) no (connected-from_component links 1 i (eqb-true (c 1) (c i) e)))),
    )

pub station-is : (kind : NodeKind) → is_station kind ≡ true → kind ≡ Station
station-is kind h1 = grind (arith, false≢true)

kind-at : (kinds : List NodeKind) (i : ℕ) (d e : NodeKind) → i < length kinds → get_or kinds i d ≡ get_or kinds i e
kind-at kinds i d e lt = get_or_default kinds i d e lt

stray-tests : (kinds : List NodeKind) (links : List Link) → TestsNodes kinds (is_stray_station links) (IsStationWithLinks kinds links)
stray-tests kinds links x d m =
    let i = length (take (x - 1) kinds) + 1 in
    let is = number-of kinds x m in
    let kind = get_or kinds (x - 1) d in
    let N : ℕ → ℕ = λ t. length (neighbours links t) in
    let inside : x - 1 < length kinds = omega (arith, m.0, m.1) in
    let S : NodeKind → Type 0 = λ k. is_station k ≡ true in (
      (λ e. (let p = and_parts (is_station kind) (not (N i == 1)) e in (
        (λ f. kind-at kinds (x - 1) f d inside ∙ station-is kind p.0),
        (λ q. false≢true (sym (not-flips (N i == 1) p.1) ∙ eqb-same (N i) 1 (ap N is ∙ q))),
      ))),
      (λ h. (let a : is_station kind ≡ true = subst S (sym (h.0 d)) refl in let b : not (N i == 1)
          ≡ true = not-true (N i == 1) (λ e. h.1 (ap N (sym is) ∙ eqb-true (N i) 1 e)) in rw (a, b))),
    )

crowd-tests : (kinds : List NodeKind) (links : List Link) → TestsNodes kinds (has_too_many_links links) (HasTooManyLinks links)
crowd-tests kinds links x d m =
    let i = length (take (x - 1) kinds) + 1 in
    let is = number-of kinds x m in
    let T : ℕ → Type 0 = λ t. 255 < length (neighbours links t) in
    let B : ℕ → Type 0 = λ t. nat_lt 255 (length (neighbours links t)) ≡ true in
    ((λ e. subst T is (ltb-true 255 (length (neighbours links i)) e)), (λ h. subst B (sym is) (is-less (length (neighbours links x)) h)))
  where
    is-less : (n : ℕ) → 255 < n → nat_lt 255 n ≡ true
    is-less n lt = grind (arith, nat_tests)

-- ---- one check after the other

-- what an answer of the function says
abbrev pub Says : List NodeKind → List Link → Option TreeErr → Type 0
Says kinds links None = IsAccepted kinds links
Says kinds links (Some e) = IsRefusal kinds links e × (e ≢ NoMemory)

refused-by : (P : Option TreeErr → Type 0) (error : ℕ → TreeErr) (found : Option ℕ) (later : Option TreeErr)
    → ((n : ℕ) → found ≡ Some n → P (Some (error n))) → (found ≡ None → P later) → P (refused_or error found later)
refused-by P error None later here next = next refl
refused-by P error (Some n) later here next = here n refl

known-links : (count : ℕ) (links : List Link) → first_where (has_unknown_end count) [] links ≡ None → HasKnownEnds count links
known-links count links e i d lt =
    both-nodes count (get_or links i d) (not-true-false _ (where-none (has_unknown_end count) links e i d lt))

proper-links : (links : List Link) → first_where is_self_link [] links ≡ None → HasNoSelfLink links
proper-links links e = no-link is_self_link IsSelfLink links (λ earlier l f. eqb-same l.a.0 l.b.0 f) e

pub graph-of : (count : ℕ) (links : List Link) → first_where (has_unknown_end count) [] links ≡ None → first_where is_self_link [] links ≡ None
    → first_where is_second_link [] links ≡ None → IsGraph count links
graph-of count links known self second = record {
  known = known-links count links known;
  no_self = proper-links links self;
  no_second = no-link is_second_link IsSecondLink links (λ earlier l f. joined-any earlier l.a.0 l.b.0 f) second;
}

accepted-of : (kinds : List NodeKind) (links : List Link) → IsTree (length kinds) links → HasLeafStations kinds links
    → first_where (has_too_many_links links) [] kinds ≡ None → IsAccepted kinds links
accepted-of kinds links tree leaf crowd = record {
  tree = tree;
  leaf_stations = leaf;
  counted_ports = (λ x m. (let few = no-node kinds (has_too_many_links links) (HasTooManyLinks links)
      (crowd-tests kinds links) crowd x m in not-more (length (neighbours links x)) few));
}
  where
    not-more : (n : ℕ) → ¬ (255 < n) → n ≤ 255
    not-more n few = elim (cases_lt 255 n) [ inl lt ↦ absurd (few lt) | inr le ↦ le ]

all-connected : (kinds : List NodeKind) (links : List Link) → first_where (is_unconnected links) [] kinds ≡ None
    → (x : ℕ) → IsNode (length kinds) x → Connected links 1 x
all-connected kinds links e x m =
    let i = length (take (x - 1) kinds) + 1 in
    let C : ℕ → Type 0 = λ t. Connected links 1 t in
    let same = eqb-true (component links 1) (component links i)
    (not-true-false _ (where-none (is_unconnected links) kinds e (x - 1) Station (omega (arith, m.0, m.1)))) in
    subst C (number-of kinds x m) (connected-from_component links 1 i same)

node_refusal-says : (kinds : List NodeKind) (links : List Link) → IsGraph (length kinds) links → HasNoLoop links → Says kinds links (node_refusal kinds links)
unfolding node_refusal
node_refusal-says kinds links graph free =
    let P : Option TreeErr → Type 0 = λ o. Says kinds links o in
    refused-by P _ _ _ (λ n e. (
      (
        graph,
        free,
        first-node kinds (is_unconnected links) (λ y. ¬ Connected links 1 y) n
            (unconnected-tests kinds links) e,
      ),
      (λ q. cc),
    )) (λ whole.
    (let tree = tree-from_checks (length kinds) links graph free (λ x m. all-connected kinds links whole x m) in
    refused-by P _ _ _ (λ n e. (
      (
        tree,
        first-node kinds (is_stray_station links) (IsStationWithLinks kinds links) n
            (stray-tests kinds links) e,
      ),
      (λ q. cc),
    )) (λ stations.
    (let leaf : HasLeafStations kinds links = no-node kinds (is_stray_station links) (IsStationWithLinks kinds links) (stray-tests kinds links) stations in
    refused-by P _ _ _ (λ n e. (
      (
        tree,
        leaf,
        first-node kinds (has_too_many_links links) (HasTooManyLinks links) n
            (crowd-tests kinds links) e,
      ),
      (λ q. cc),
    )) (λ crowd.
    accepted-of kinds links tree leaf crowd)))))

pub refusal-says : (kinds : List NodeKind) (links : List Link) → Says kinds links (refusal kinds links)
unfolding refusal
refusal-says kinds links =
    let P : Option TreeErr → Type 0 = λ o. Says kinds links o in
    let count = length kinds in
    refused-by P _ _ _ (λ n e. (
      first-link (has_unknown_end count) (HasUnknownEnd count) links n (unknown-end count)
          (end-unknown count) e,
      (λ q. cc),
    )) (λ known.
    (let ends = known-links count links known in
    refused-by P _ _ _ (λ n e. (
      (
        ends,
        first-link is_self_link IsSelfLink links n
            (λ earlier l t. eqb-true l.a.0 l.b.0 t) (λ earlier l f. eqb-same l.a.0 l.b.0 f) e,
      ),
      (λ q. cc),
    )) (λ self.
    refused-by P _ _ _ (λ n e. (
      (
        ends,
        proper-links links self,
        first-link is_second_link IsSecondLink links n
            (λ earlier l t. any-joined earlier l.a.0 l.b.0 t) (λ earlier l f. joined-any earlier l.a.0 l.b.0 f) e,
      ),
      (λ q. cc),
    )) (λ second.
    (let graph = graph-of count links known self second in
    refused-by P _ _ _ (λ n e. ((graph, first-link closes_loop ClosesLoop links n loop-closed closed-loop e), (λ q. cc))) (λ open_ends.
    node_refusal-says kinds links graph (no-link closes_loop ClosesLoop links closed-loop open_ends)))))))

-- the refusal that fits is the one that the function gives
refusal-by : (kinds : List NodeKind) (links : List Link) (e : TreeErr) (o : Option TreeErr) → Says kinds links o
    → IsRefusal kinds links e → e ≢ NoMemory → o ≡ Some e
refusal-by kinds links e o h1 h2 h3 = grind (arith, accepted-refusal, refusals-same)

pub refusal-fits : (kinds : List NodeKind) (links : List Link) (e : TreeErr) → IsRefusal kinds links e → e ≢ NoMemory → refusal kinds links ≡ Some e
refusal-fits kinds links e r m = refusal-by kinds links e (refusal kinds links) (refusal-says kinds links) r m

refusal-none-by : (kinds : List NodeKind) (links : List Link) (o : Option TreeErr) → Says kinds links o → IsAccepted kinds links → o ≡ None
refusal-none-by kinds links o h1 h2 = grind (arith, accepted-refusal)

pub refusal-none : (kinds : List NodeKind) (links : List Link) → IsAccepted kinds links → refusal kinds links ≡ None
refusal-none kinds links a = refusal-none-by kinds links (refusal kinds links) (refusal-says kinds links) a

pub refusal-of : (kinds : List NodeKind) (links : List Link) (e : TreeErr) → refusal kinds links ≡ Some e → IsRefusal kinds links e × (e ≢ NoMemory)
refusal-of kinds links e is = let F : Option TreeErr → Type 0 = λ o. Says kinds links o in subst F is (refusal-says kinds links)

pub accepted-none : (kinds : List NodeKind) (links : List Link) → refusal kinds links ≡ None → IsAccepted kinds links
accepted-none kinds links is = let F : Option TreeErr → Type 0 = λ o. Says kinds links o in subst F is (refusal-says kinds links)
