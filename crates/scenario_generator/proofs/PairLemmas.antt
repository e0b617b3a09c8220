-- Lists whose elements are known by their places.
use Rattle.std.proofs.Common.{◌≡◌, ◌≢◌, ℕ, suc, ◌+◌, ◌≤◌, ◌<◌, Bool, true, false, leb, eqb, ◌&&◌, ◌||◌, List, [], ◌∷◌, ◌++◌, length, get_or, drop, map, refl, sym, ap, ◌∙◌, subst, append_assoc, arith}
use Rattle.std.specs.Prelude.{All, AllPairs, slice_index}
use Rattle.std.specs.{List.flat_map, List.list_all, List.range_with_len, Fmt.decimal}
use Rattle.std.proofs.lemmas.{Bool.and_from, Bool.le-leb, Fmt.decimal_injective, Fmt.decimal_is_IsNumeral, Fmt.length-decimal-le, Str.Parse.digit_at, List.FromFn.length-map-range_with_len, List.FromFn.get_or-map-range_with_len, List.FromFn.map-range_with_len_more}
use Rattle.srp_base.proofs.Lists.{flat-range-more}
use Rattle.topology_file.specs.Entries.{is_name, is_name_char}
use Rattle.scenario_generator.specs.{numbered_name}

-- what is true of f of each number of a range is true of each element of its list
pub all-of-range : {X : Type 0} (P : X → Type 0) (f : ℕ → X) (a n : ℕ) → ((k : ℕ) → k < n → P (f (a + k))) → All P (map f (range_with_len a n))
all-of-range P f a n each k d lt =
    let below : k < n = omega (arith, lt, length-map-range_with_len f a n) in
    subst P (sym (get_or-map-range_with_len f a n k (a + k) d below refl)) (each k below)

-- a list with one more of a range behind it
pub push-more : {X : Type 0} (f : ℕ → X) (a n j : ℕ) (front before after : List X) (x : X) → a + n ≡ j → before ≡ front ++ map f (range_with_len a n) → after ≡ before ++ (x ∷ []) → x ≡ f j
    → after ≡ front ++ map f (range_with_len a (n + 1))
push-more {X} f a n j front before after x place all pushed is =
    pushed ∙ ap (λ (xs : List X). xs ++ (x ∷ [])) all ∙ ap (λ (y : X). (front ++ map f (range_with_len a n)) ++ (y ∷ [])) is
    ∙ append_assoc front (map f (range_with_len a n)) (f j ∷ []) ∙ ap (λ (xs : List X). front ++ xs) (sym (map-range_with_len_more f a n j place))

pub extend-more : {X : Type 0} (f : ℕ → List X) (a n j : ℕ) (front before after : List X) → a + n ≡ j → before ≡ front ++ flat_map f (range_with_len a n) → after ≡ before ++ f j
    → after ≡ front ++ flat_map f (range_with_len a (n + 1))
extend-more {X} f a n j front before after place all pushed =
    let e : suc n ≡ n + 1 = omega arith in
    pushed ∙ ap (λ (xs : List X). xs ++ f j) all ∙ append_assoc front (flat_map f (range_with_len a n)) (f j)
    ∙ ap (λ (xs : List X). front ++ xs) (sym (flat-range-more f n a j place))
    ∙ ap (λ (k : ℕ). front ++ flat_map f (range_with_len a k)) e

-- elements whose keys are known by their places differ where those of different places do
pub pairs-differ : {X K : Type 0} (key : X → K) (known : ℕ → K) (xs : List X) → ((i : ℕ) (d : X) → i < length xs → key (get_or xs i d) ≡ known i)
    → ((i j : ℕ) → i < j → j < length xs → known i ≢ known j) → AllPairs (λ x y. key x ≢ key y) xs
pairs-differ key known xs is apart i j d lt below e =
    apart i j lt below (sym (is i d (omega (arith, lt, below))) ∙ e ∙ is j d below)

-- ---- names

-- a digit may stand in a name
digit-char : (c : ℕ) → 48 ≤ c → c ≤ 57 → is_name_char c ≡ true
digit-char c low high = rw (le-leb 48 c low, le-leb c 57 high) (or-true (leb 97 c && leb c 122))
  where
    or-true : (b : Bool) → (((b || true) || eqb c 45) || eqb c 95) ≡ true
    or-true true = refl
    or-true false = refl

digits-chars : (xs : List ℕ) → ((i : ℕ) → i < length xs → (48 ≤ slice_index xs i) × (slice_index xs i ≤ 57)) → list_all is_name_char xs ≡ true
digits-chars [] each = refl
digits-chars (x ∷ xs) each =
    let h = each 0 (omega arith) in
    and_from _ _ (digit-char x h.0 h.1) (digits-chars xs (λ i lt. each (suc i) (omega (arith, lt))))

-- a letter with a number behind it is a name
pub numbered-is-name : (letter n : ℕ) → is_name_char letter ≡ true → n < 10000 → is_name (numbered_name (letter ∷ []) n) ≡ true
numbered-is-name letter n is small =
    let few = length-decimal-le 5 n (omega arith) (omega (arith, small)) (omega (arith, small)) in
    and_from _ _ (and_from _ _ (le-leb 1 (suc (length (decimal n))) (omega arith)) (le-leb (suc (length (decimal n))) 32 (omega (arith, few))))
    (and_from _ _ is (digits-chars (decimal n) (λ i lt. digit_at (decimal n) i (decimal_is_IsNumeral n (omega (arith, small))).0.1 lt)))

-- names of one letter with different numbers differ, and names of two letters do
pub same-number : (letter m n : ℕ) → m < 10000 → n < 10000 → numbered_name (letter ∷ []) m ≡ numbered_name (letter ∷ []) n → m ≡ n
same-number letter m n low high e = decimal_injective m n (omega (arith, low)) (omega (arith, high)) (ap (drop 1) e)

pub same-letter : (a b m n : ℕ) → numbered_name (a ∷ []) m ≡ numbered_name (b ∷ []) n → a ≡ b
same-letter a b m n e = ap (λ (xs : List ℕ). get_or xs 0 0) e
