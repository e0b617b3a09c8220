-- A list of different numbers below n is no longer than n: so a graph has few links.
use Rattle.std.proofs.Common.{◌≡◌, ◌≢◌, ℕ, suc, zero, ◌+◌, ◌*◌, ◌<◌, ◌≤◌, List, [], ◌∷◌, inl, inr, sym, subst, length, get_or, map, arith}
use Rattle.std.proofs.lemmas.{Bool.cases_eq, List.length-map, Nat.mul-add-lt, Nat.same_from_place, List.Elements.All-head, List.Elements.All-tail}
use Rattle.tree_topology.specs.{Link, IsNode, Joined, IsAbsent, HasNoRepeat, HasKnownEnds, IsGraph, neighbours}
use Rattle.tree_topology.proofs.{Links.joined-known, Forests.IsApart, Forests.apart-from_graph, PortFacts.neighbours-differ, PortFacts.neighbour-joined}

-- each number is below n
abbrev pub IsBelow : ℕ → List ℕ → Type 0
IsBelow n [] = Unit {0}
IsBelow n (x ∷ xs) = (x < n) × IsBelow n xs

-- taking a number out leaves a list with one element fewer at most, without the number
record Without (n v : ℕ) (xs : List ℕ) : Type 0 where
  rest : List ℕ
  long : length xs ≤ length rest + 1
  below : IsBelow n rest
  differ : HasNoRepeat rest
  kept : (z : ℕ) → IsAbsent z xs → IsAbsent z rest

lower : (n : ℕ) (xs : List ℕ) → IsBelow (suc n) xs → IsAbsent n xs → IsBelow n xs
lower n [] b a = tt
lower n (x ∷ xs) b a = grind (arith, lower n xs b.1 a.1)

absent-same : (v x : ℕ) (xs : List ℕ) → x ≡ v → IsAbsent x xs → IsAbsent v xs
absent-same v x xs e a = let F : ℕ → Type 0 = λ t. IsAbsent t xs in subst F e a

without : (n : ℕ) (xs : List ℕ) → IsBelow (suc n) xs → HasNoRepeat xs → Without n n xs
without n [] b r = record { rest = []; long = omega arith; below = tt; differ = tt; kept = (λ z a. tt) }
without n (x ∷ xs) b r =
    elim (cases_eq x n) [
      | inl e ↦ record { rest = xs; long = omega arith; below = lower n xs b.1 (absent-same n x xs e r.0); differ = r.1; kept = (λ z a. a.1) }
      | inr ne ↦ (let w = without n xs b.1 r.1 in record {
        rest = x ∷ w.rest;
        long = omega (arith, w.long);
        below = (omega (arith, b.0, ne), w.below);
        differ = (w.kept x r.0, w.differ);
        kept = (λ z a. (a.0, w.kept z a.1));
      })
    ]

pub pigeonholes : (n : ℕ) (xs : List ℕ) → IsBelow n xs → HasNoRepeat xs → length xs ≤ n
pigeonholes zero [] b r = omega arith
pigeonholes zero (x ∷ xs) b r = absurd (omega (arith, b.0))
pigeonholes (suc n) xs b r =
    let w = without n xs b r in omega (arith, w.long, pigeonholes n w.rest w.below w.differ)

below-from : (n : ℕ) (xs : List ℕ) → ((k : ℕ) → k < length xs → get_or xs k 0 < n) → IsBelow n xs
below-from n [] h = tt
below-from n (x ∷ xs) h = (h 0 (omega arith), below-from n xs (λ k lt. h (suc k) (omega (arith, lt))))

-- a node has at most as many links as there are nodes and one
pub few-neighbours : (count : ℕ) (links : List Link) → IsGraph count links → (x : ℕ) → length (neighbours links x) ≤ count + 1
few-neighbours count links graph x =
    let xs = neighbours links x in
    let low : (k : ℕ) → k < length xs → get_or xs k 0 < count + 1 = λ k lt.
    (let j = neighbour-joined links x k 0 lt in let known = (joined-known count links x
    (get_or xs k 0) graph.known j).1 in omega (arith, known.1)) in
    pigeonholes (count + 1) xs (below-from (count + 1) xs low) (neighbours-differ links (apart-from_graph links graph.no_second) x)

-- the ends of links as numbers
codes-below : (count : ℕ) (links : List Link) → HasKnownEnds count links → IsBelow ((count + 1) * (count + 1)) (map (λ l. l.a.0 * (count + 1) + l.b.0) links)
codes-below count [] known = tt
codes-below count (l ∷ links) known =
    let P : Link → Type 0 = λ l. IsNode count l.a.0 × IsNode count l.b.0 in
    let ends : IsNode count l.a.0 × IsNode count l.b.0 = All-head P l links known in
    (mul-add-lt l.a.0 (count + 1) l.b.0 (count + 1) (omega (arith, ends.0)) (omega (arith, ends.1)), codes-below count links (All-tail P l links known))

code-absent : (count : ℕ) (l : Link) (links : List Link) → IsNode count l.a.0 × IsNode count l.b.0
    → HasKnownEnds count links → ¬ Joined links l.a.0 l.b.0
    → IsAbsent (l.a.0 * (count + 1) + l.b.0) (map (λ l. l.a.0 * (count + 1) + l.b.0) links)
code-absent count l [] ends known n = tt
code-absent count l (m ∷ links) ends known n =
    let P : Link → Type 0 = λ l. IsNode count l.a.0 × IsNode count l.b.0 in
    let here : IsNode count m.a.0 × IsNode count m.b.0 = All-head P m links known in (
      (λ e. (let s = same_from_place l.a.0 l.b.0 m.a.0 m.b.0 (count + 1) (omega (arith, ends.1))
          (omega (arith, here.1)) e in n (inl (inl (sym s.0, sym s.1))))),
      code-absent count l links ends (All-tail P m links known) (λ j. n (inr j)),
    )

codes-differ : (count : ℕ) (links : List Link) → HasKnownEnds count links → IsApart links → HasNoRepeat (map (λ l. l.a.0 * (count + 1) + l.b.0) links)
codes-differ count [] known apart = tt
codes-differ count (l ∷ links) known apart =
    let P : Link → Type 0 = λ l. IsNode count l.a.0 × IsNode count l.b.0 in
    (code-absent count l links (All-head P l links known) (All-tail P l links known) apart.0, codes-differ count links (All-tail P l links known) apart.1)

-- a graph has at most as many links as pairs of numbers up to its count
pub few-links : (count : ℕ) (links : List Link) → IsGraph count links → length links ≤ (count + 1) * (count + 1)
few-links count links graph =
    let code : Link → ℕ = λ l. l.a.0 * (count + 1) + l.b.0 in
    omega (
      arith,
      pigeonholes ((count + 1) * (count + 1)) (map code links) (codes-below count links graph.known)
          (codes-differ count links graph.known (apart-from_graph links graph.no_second)),
      length-map links code,
    )
