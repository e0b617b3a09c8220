-- Lists that grow at their end.
use Rattle.std.proofs.Common.{◌≡◌, ℕ, ◌+◌, ◌<◌, Bool, cond, List, [], ◌∷◌, ◌++◌, length, get_or, take, drop, ◌-◌, map, Option, Some, sym, ◌∙◌, ap, arith, append-nil, append_assoc}
use Rattle.std.specs.Prelude.{find, filter_map, flat_map, count_by}
use Rattle.std.specs.List.{range_with_len}
use Rattle.std.proofs.lemmas.{List.map_more, List.take_more, List.at_drop_more, List.Sums.sum_by_push, List.Concat.flat_map-append, List.Elements.filter_map-append}
use Rattle.srp_base.proofs.Lists.{range-push}

-- what a list of lists gives with one number more
pub flat-range-push : {X : Type 0} (f : ℕ → List X) (a n : ℕ) → flat_map f (range_with_len a (n + 1)) ≡ flat_map f (range_with_len a n) ++ f (a + n)
flat-range-push f a n =
    ap (λ (t : List ℕ). flat_map f t) (range-push a n) ∙ flat_map-append f (range_with_len a n) ((a + n) ∷ []) ∙ ap (λ t. flat_map f (range_with_len a n) ++ t) (append-nil (f (a + n)))

pub flat-range-next : {X : Type 0} (f : ℕ → List X) (n : ℕ) → flat_map f (range_with_len 1 (n + 1)) ≡ flat_map f (range_with_len 1 n) ++ f (n + 1)
flat-range-next f n = flat-range-push f 1 n ∙ ap (λ (k : ℕ). flat_map f (range_with_len 1 n) ++ f k) (omega arith)

-- a count with one number more
pub count-range-push : (p : ℕ → Bool) (n : ℕ) → count_by p (range_with_len 1 (n + 1)) ≡ count_by p (range_with_len 1 n) + cond (p (n + 1)) 1 0
count-range-push p n =
    ap (λ (t : List ℕ). count_by p t) (range-push 1 n) ∙ sum_by_push (λ x. cond (p x) 1 0) (range_with_len 1 n) (1 + n)
    ∙ ap (λ (k : ℕ). count_by p (range_with_len 1 n) + cond (p k) 1 0) (omega arith)

-- what is found in the end of a list that is one element longer
pub find-drop-more : {X : Type 0} (p : X → Bool) (xs : List X) (i : ℕ) (d : X) → i < length xs
    → find p (drop (length xs - (i + 1)) xs) ≡ cond (p (get_or xs (length xs - 1 - i) d)) (Some (get_or xs (length xs - 1 - i) d)) (find p (drop (length xs - i) xs))
find-drop-more p xs i d below =
    let j = length xs - 1 - i in
    let from : length xs - (i + 1) ≡ j = omega arith in
    let to : j + 1 ≡ length xs - i = omega (arith, below) in
    ap (λ (k : ℕ). find p (drop k xs)) from ∙ at_drop_more (λ t. find p t) xs j d (omega (arith, below))
    ∙ ap (λ (k : ℕ). cond (p (get_or xs j d)) (Some (get_or xs j d)) (find p (drop k xs))) to

-- what a list of lists gives with one element more, through another function
pub added-more : {X Y Z : Type 0} (g : Y → Option Z) (h : X → List Y) (xs : List X) (i : ℕ) (d : X) → i < length xs
    → filter_map g (flat_map h (take (i + 1) xs)) ≡ filter_map g (flat_map h (take i xs)) ++ filter_map g (h (get_or xs i d))
added-more {X} {Y} {Z} g h xs i d below =
    ap (λ (t : List X). filter_map g (flat_map h t)) (take_more xs i d below)
    ∙ ap (λ (t : List Y). filter_map g t) (flat_map-append h (take i xs) (get_or xs i d ∷ []) ∙ ap (λ (t : List Y). flat_map h (take i xs) ++ t) (append-nil (h (get_or xs i d))))
    ∙ filter_map-append g (flat_map h (take i xs)) (h (get_or xs i d))

-- a list that has grown twice
pub grown : {X : Type 0} (first mid last ys zs more : List X) → mid ≡ first ++ ys → last ≡ mid ++ zs → more ≡ ys ++ zs → last ≡ first ++ more
grown {X} first mid last ys zs more one two three =
    two ∙ ap (λ (t : List X). t ++ zs) one ∙ append_assoc first ys zs ∙ ap (λ (t : List X). first ++ t) (sym three)

-- a map of a list with one element more
pub pushed-map : {X Y : Type 0} (f : X → Y) (xs : List X) (i : ℕ) (d : X) (before after : List Y) (y : Y) → i < length xs → before ≡ map f (take i xs)
    → after ≡ before ++ y ∷ [] → y ≡ f (get_or xs i d) → after ≡ map f (take (i + 1) xs)
pushed-map {X} {Y} f xs i d before after y below one two is =
    two ∙ ap (λ (t : List Y). t ++ y ∷ []) one ∙ ap (λ (t : Y). map f (take i xs) ++ t ∷ []) is ∙ sym (map_more f xs i d below)

-- what a map gives with one element more, through another function
pub mapped-more : {X Y Z : Type 0} (g : Y → Option Z) (h : X → Y) (xs : List X) (i : ℕ) (d : X) → i < length xs
    → filter_map g (map h (take (i + 1) xs)) ≡ filter_map g (map h (take i xs)) ++ filter_map g (h (get_or xs i d) ∷ [])
mapped-more {X} {Y} {Z} g h xs i d below =
    ap (λ (t : List Y). filter_map g t) (map_more h xs i d below) ∙ filter_map-append g (map h (take i xs)) (h (get_or xs i d) ∷ [])
