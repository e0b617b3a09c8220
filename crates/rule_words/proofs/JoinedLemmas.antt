-- The ends of links one after the other, and the components of nodes link by link.
use Rattle.std.proofs.Common.{◌≡◌, ◌∙◌, ℕ, ◌+◌, ◌<◌, ◌==◌, List, [], ◌∷◌, ◌++◌, append-nil, append_assoc, map, length, take, drop, get_or, slice_set, Option, option_map, refl, sym, ap, arith}
use Rattle.std.specs.Prelude.{flat_map}
use Rattle.std.specs.List.{range_with_len}
use Rattle.std.proofs.lemmas.{Grind.get_or_default_zero, List.Concat.flat_map-append, List.Edits.map_over_more, List.FromFn.get_or-map-range_with_len, List.FromFn.length-map-range_with_len}
use Rattle.srp_base.proofs.Lists.{map-map, range-push}
use Rattle.tree_topology.specs.Walk.{component}
use Rattle.rule_words.specs.declared.joined.Ends.{Ends}
use Rattle.rule_words.specs.{are_joined, labels_of, link_of, moved}

-- some ends in front of those that the rest gives
abbrev pub in_front : List Ends → Option (List Ends) → Option (List Ends)
in_front front o = option_map (λ rest. front ++ rest) o

-- ---- components

-- one number more
pub range-next : (a n k : ℕ) → a + n ≡ k → range_with_len a (n + 1) ≡ range_with_len a n ++ k ∷ []
range-next a n k place = range-push a n ∙ ap (λ (j : ℕ). range_with_len a n ++ j ∷ []) place

-- one label more that is written over
pub label-over : (f : ℕ → ℕ) (xs ys : List ℕ) (i r : ℕ) → i < length xs → length ys ≡ length xs → ys ≡ map f (take i xs) ++ drop i xs → r ≡ f (get_or ys i 0)
    → slice_set ys i r ≡ map f (take (i + 1) xs) ++ drop (i + 1) xs
label-over f xs ys i r below long h new =
    let x : ℕ = get_or ys i 0 in
    ap (λ (y : ℕ). slice_set ys i y) new ∙ map_over_more f xs ys i x below h (sym (get_or_default_zero ys i x (omega (arith, below, long))))

-- without links each node is by itself
alone : (xs : List ℕ) → xs ≡ map (component (map link_of [])) xs
alone [] = refl
alone (x ∷ xs) = ap (λ (t : List ℕ). x ∷ t) (alone xs)

pub own-labels : (n : ℕ) → range_with_len 0 n ≡ labels_of n []
own-labels n = alone (range_with_len 0 n)

-- the label at a place is that place's component
pub label-at : (n : ℕ) (links : List Ends) (labels : List ℕ) (a d : ℕ) → labels ≡ labels_of n links → a < length labels
    → get_or labels a d ≡ component (map link_of links) a
label-at n links labels a d is below =
    let C : ℕ → ℕ = λ x. component (map link_of links) x in
    let long : length labels ≡ n = ap (λ (t : List ℕ). length t) is ∙ length-map-range_with_len C 0 n in
    ap (λ (t : List ℕ). get_or t a d) is ∙ get_or-map-range_with_len C 0 n a a d (omega (arith, below, long)) (omega arith)

-- one link more in front
pub labels-join : (n : ℕ) (links : List Ends) (e : Ends) (labels more : List ℕ) (d : ℕ) → e.a < length labels → e.b < length labels → labels ≡ labels_of n links
    → more ≡ map (moved (get_or labels e.b d) (get_or labels e.a d)) labels → more ≡ labels_of n (e ∷ links)
labels-join n links e labels more d a b is new =
    let C : ℕ → ℕ = λ x. component (map link_of links) x in
    new
    ∙ (ap (λ (k : ℕ). map (moved k (get_or labels e.a d)) labels) (label-at n links labels e.b d is b)
    ∙ (ap (λ (k : ℕ). map (moved (C e.b) k) labels) (label-at n links labels e.a d is a)
    ∙ (ap (λ (t : List ℕ). map (moved (C e.b) (C e.a)) t) is
    ∙ map-map (moved (C e.b) (C e.a)) C (range_with_len 0 n))))

-- nodes are joined where their labels are the same
pub same-label : (n : ℕ) (front back : List Ends) (labels : List ℕ) (a b d : ℕ) → labels ≡ labels_of n (front ++ (back ++ [])) → a < length labels → b < length labels
    → (get_or labels a d == get_or labels b d) ≡ are_joined (front ++ back) a b
same-label n front back labels a b d h at to =
    let links : List Ends = front ++ back in
    let is : labels ≡ labels_of n links = h ∙ ap (λ (t : List Ends). labels_of n (front ++ t)) (append-nil back) in
    ap (λ (k : ℕ). k == get_or labels b d) (label-at n links labels a d is at)
    ∙ ap (λ (k : ℕ). component (map link_of links) a == k) (label-at n links labels b d is to)

-- ---- words of numbers

-- those of one number more
pub words-step : (f : ℕ → List ℕ) (i : ℕ) (out before more : List ℕ) → before ≡ out ++ flat_map f (range_with_len 1 i) → more ≡ before ++ f (i + 1)
    → more ≡ out ++ flat_map f (range_with_len 1 (i + 1))
words-step f i out before more h put =
    let all : flat_map f (range_with_len 1 (i + 1)) ≡ flat_map f (range_with_len 1 i) ++ f (i + 1) =
    ap (λ (t : List ℕ). flat_map f t) (range-next 1 i (i + 1) (omega arith)) ∙ (flat_map-append f (range_with_len 1 i) ((i + 1) ∷ [])
    ∙ ap (λ (t : List ℕ). flat_map f (range_with_len 1 i) ++ t) (append-nil (f (i + 1)))) in
    put ∙ (ap (λ (t : List ℕ). t ++ f (i + 1)) h ∙ (append_assoc out (flat_map f (range_with_len 1 i)) (f (i + 1)) ∙ ap (λ (t : List ℕ). out ++ t) (sym all)))
