-- Facts on lists that many crates take: what stands at a place, what is set, joined and picked out.
use Rattle.std.proofs.Common.{Bool, List, None, Option, [], ap, append-nil, append_assoc, arith, drop, false, get_or, if◌then◌else◌, length, map, refl, subst, suc, sym, take, true, zero, ℕ, ◌++◌, ◌+◌, ◌-◌, ◌<◌, ◌||◌, ◌∙◌, ◌∷◌, ◌≡◌, ◌≢◌, ◌≤◌}
use Rattle.std.proofs.lemmas.Bool.{and_parts, cond-false, eq-eqb, eqb-true, not_from_true}
use Rattle.std.proofs.lemmas.List.{length-append, map-id}
use Rattle.std.proofs.lemmas.List.Elements.{All-append, All-head, All-nil, All-tail}
use Rattle.std.proofs.lemmas.List.FromFn.{map-range_with_len_more}
use Rattle.std.proofs.lemmas.Option.{none-some, same_Some}
use Rattle.std.specs.List.{AllByRecursion, cons_option, list_all, list_any, position_or_len, range_with_len}
use Rattle.std.specs.Prelude.{All, Contains, Some, filter, flat_map, not, option_map, slice_get, slice_set, ◌==◌}

pub All-flat_map : {X Y : Type 0} (P : X → Type 0) (Q : Y → Type 0) (f : X → List Y) → ((x : X) → P x → All Q (f x)) → (xs : List X) → All P xs → All Q (flat_map f xs)
All-flat_map P Q f each [] all = All-nil Q
All-flat_map P Q f each (x ∷ xs) all =
    All-append Q (f x) (flat_map f xs) (each x (All-head P x xs all)) (All-flat_map P Q f each xs (All-tail P x xs all))

pub Each-at : {X : Type 0} (P : X → Type 0) (xs : List X) → AllByRecursion P xs → (i : ℕ) (d : X) → i < length xs → P (get_or xs i d)
Each-at P [] h i d below = absurd (omega arith)
Each-at P (x ∷ xs) h zero d below = h.0
Each-at P (x ∷ xs) h (suc i) d below = Each-at P xs h.1 i d (omega arith)

pub Each-map : {X : Type 0} (P Q : X → Type 0) → ((x : X) → P x → Q x) → (xs : List X) → AllByRecursion P xs → AllByRecursion Q xs
Each-map P Q f [] h = tt
Each-map P Q f (x ∷ xs) h = (f x h.0, Each-map P Q f xs h.1)

pub each_filter : {X : Type 0} (P : X → Type 0) (test : X → Bool) (xs : List X) → AllByRecursion P xs → AllByRecursion P (filter test xs)
each_filter P test [] all = tt
each_filter P test (x ∷ xs) all = grind (arith, each_filter P test xs all.1)

pub filter-along : {X : Type 0} (p q : X → Bool) → ((x : X) → p x ≡ q x) → (xs : List X) → filter p xs ≡ filter q xs
filter-along p q each [] = refl
filter-along {X} p q each (x ∷ xs) = grind (arith, filter-along p q each xs)

pub each_append : {X : Type 0} (P : X → Type 0) (xs ys : List X) → AllByRecursion P xs → AllByRecursion P ys → AllByRecursion P (xs ++ ys)
each_append P [] ys p q = q
each_append P (x ∷ xs) ys p q = (p.0, each_append P xs ys p.1 q)

pub at_each : {X : Type 0} (Q : X → Type 0) (xs : List X) → AllByRecursion Q xs → (i : ℕ) (x : X) → slice_get xs i ≡ Some x → Q x
at_each Q [] hs i x get = cc
at_each Q (y ∷ xs) hs zero x get = let same : y ≡ x = cc in subst Q same hs.0
at_each Q (y ∷ xs) hs (suc i) x get = at_each Q xs hs.1 i x get

pub at_place : (o : Option ℕ) (us : List ℕ) (v : ℕ) → o ≡ Some v → position_or_len (λ u. u == v) (cons_option o us) ≡ 0
at_place None us v is = absurd (none-some v is)
at_place (Some u) us v is = cond-false (not (u == v)) (1 + position_or_len (λ w. w == v) us) 0 (not_from_true (u == v) (eq-eqb u v (same_Some u v is)))

pub behind_same : (xs a b : List ℕ) → xs ++ a ≡ xs ++ b → a ≡ b
behind_same [] a b e = e
behind_same (x ∷ xs) a b e = let rest : xs ++ a ≡ xs ++ b = cc in behind_same xs a b rest

pub drop_none : {X : Type 0} (xs : List X) (i : ℕ) → length xs ≤ i → drop i xs ≡ []
drop_none [] zero end = refl
drop_none [] (suc i) end = refl
drop_none (x ∷ xs) zero end = absurd (omega (arith, end))
drop_none (x ∷ xs) (suc i) end = drop_none xs i (omega (arith, end))

pub each-contained : {X : Type 0} (P : X → Type 0) (xs : List X) → ((x : X) → Contains xs x → P x) → AllByRecursion P xs
each-contained P [] h = tt
each-contained P (x ∷ xs) h = (h x (zero, omega arith, refl), each-contained P xs (λ y at. h y (suc at.0, omega (arith, at.1), at.2)))

pub each-get : {X : Type 0} (P : X → Type 0) (xs : List X) (i : ℕ) (x : X) → AllByRecursion P xs → slice_get xs i ≡ Some x → P x
each-get P [] i x hs at = cc
each-get P (y ∷ xs) zero x hs at = let same : y ≡ x = cc in subst P same hs.0
each-get P (y ∷ xs) (suc i) x hs at = each-get P xs i x hs.1 at

pub each-set : {X : Type 0} (P : X → Type 0) (xs : List X) (i : ℕ) (y : X) → P y → AllByRecursion P xs → AllByRecursion P (slice_set xs i y)
each-set P [] i y h hs = tt
each-set P (x ∷ xs) zero y h hs = (h, hs.1)
each-set P (x ∷ xs) (suc i) y h hs = (hs.0, each-set P xs i y h hs.1)

pub each_of : {X : Type 0} (Q : X → Type 0) (xs : List X) → ((i : ℕ) (x : X) → slice_get xs i ≡ Some x → Q x) → AllByRecursion Q xs
each_of Q [] h = tt
each_of Q (x ∷ xs) h = (h zero x refl, each_of Q xs (λ i y get. h (suc i) y get))

pub all_each : {X : Type 0} (P : X → Type 0) (xs : List X) → All P xs → AllByRecursion P xs
all_each P [] h = tt
all_each P (x ∷ xs) h = (h 0 x (omega arith), all_each P xs (λ k d lt. h (suc k) d (omega (arith, lt))))

pub all_taken : {X : Type 0} (P : X → Type 0) (n : ℕ) (xs : List X) → AllByRecursion P xs → AllByRecursion P (take n xs)
all_taken P zero xs h = tt
all_taken P (suc n) [] h = tt
all_taken P (suc n) (x ∷ xs) h = (h.0, all_taken P n xs h.1)

pub flat-range-more : {X : Type 0} (f : ℕ → List X) (n a j : ℕ) → a + n ≡ j → flat_map f (range_with_len a (suc n)) ≡ flat_map f (range_with_len a n) ++ f j
flat-range-more f zero a j place =
    let e : a ≡ j = omega (arith, place) in
    append-nil (f a) ∙ ap f e
flat-range-more {X} f (suc n) a j place =
    ap (λ (xs : List X). f a ++ xs) (flat-range-more f n (a + 1) j (omega (arith, place)))
    ∙ sym (append_assoc (f a) (flat_map f (range_with_len (a + 1) n)) (f j))

pub get-all : {X : Type 0} (test : X → Bool) (xs : List X) (i : ℕ) (x : X) → list_all test xs ≡ true → slice_get xs i ≡ Some x → test x ≡ true
get-all test [] i x h e = cc
get-all test (y ∷ xs) zero x h e = let same : y ≡ x = cc in ap test (sym same) ∙ (and_parts (test y) (list_all test xs) h).0
get-all test (y ∷ xs) (suc i) x h e = get-all test xs i x (and_parts (test y) (list_all test xs) h).1 e

pub get-map : {X : Type 0} (test : X → Bool) (xs : List X) (j : ℕ) → slice_get (map test xs) j ≡ Some true → (x : X) × (slice_get xs j ≡ Some x) × (test x ≡ true)
get-map test [] j h = cc
get-map test (x ∷ xs) zero h = (x, refl, cc)
get-map test (x ∷ xs) (suc j) h = get-map test xs j h

pub get-place : {X : Type 0} (xs : List X) (i : ℕ) (x : X) → i < length xs → x ≡ get_or xs i x → slice_get xs i ≡ Some x
get-place [] i x below is = absurd (omega arith)
get-place (y ∷ ys) zero x below is = ap Some (sym is)
get-place (y ∷ ys) (suc i) x below is = get-place ys i x (omega arith) is

pub get_set_other : {X : Type 0} (xs : List X) (i j : ℕ) (y : X) → i ≢ j → slice_get (slice_set xs i y) j ≡ slice_get xs j
get_set_other [] i j y ne = refl
get_set_other (x ∷ xs) zero zero y ne = absurd (ne refl)
get_set_other (x ∷ xs) zero (suc j) y ne = refl
get_set_other (x ∷ xs) (suc i) zero y ne = refl
get_set_other (x ∷ xs) (suc i) (suc j) y ne = get_set_other xs i j y (λ e. ne (ap suc e))

pub get-set_same : {X : Type 0} (xs : List X) (i : ℕ) (y z : X) → slice_get (slice_set xs i y) i ≡ Some z → y ≡ z
get-set_same [] i y z h = cc
get-set_same (x ∷ xs) zero y z h = cc
get-set_same (x ∷ xs) (suc i) y z h = get-set_same xs i y z h

pub get_set : {X : Type 0} (xs : List X) (i : ℕ) (x y : X) → slice_get xs i ≡ Some x → slice_get (slice_set xs i y) i ≡ Some y
get_set [] i x y h = cc
get_set (z ∷ xs) zero x y h = refl
get_set (z ∷ xs) (suc i) x y h = get_set xs i x y h

pub length_set : {X : Type 0} (xs : List X) (i : ℕ) (y : X) → length (slice_set xs i y) ≡ length xs
length_set [] i y = refl
length_set (x ∷ xs) zero y = refl
length_set (x ∷ xs) (suc i) y = ap suc (length_set xs i y)

pub list_any-map : {X Y : Type 0} (p : Y → Bool) (f : X → Y) (xs : List X) → list_any p (map f xs) ≡ list_any (λ x. p (f x)) xs
list_any-map p f [] = refl
list_any-map p f (x ∷ xs) = ap (λ b. p (f x) || b) (list_any-map p f xs)

pub map-get : {X : Type 0} (test : X → Bool) (xs : List X) (j : ℕ) (x : X) → slice_get xs j ≡ Some x → test x ≡ true → slice_get (map test xs) j ≡ Some true
map-get test [] j x h e = cc
map-get test (y ∷ xs) zero x h e = let same : y ≡ x = cc in ap Some (ap test same ∙ e)
map-get test (y ∷ xs) (suc j) x h e = map-get test xs j x h e

pub map-map : {X Y Z : Type 0} (f : Y → Z) (g : X → Y) (xs : List X) → map f (map g xs) ≡ map (λ x. f (g x)) xs
map-map f g [] = refl
map-map {X} {Y} {Z} f g (x ∷ xs) = ap (λ (t : List Z). f (g x) ∷ t) (map-map f g xs)

pub map-same : {X Y : Type 0} (f g : X → Y) (xs : List X) → All (λ x. f x ≡ g x) xs → map f xs ≡ map g xs
map-same f g [] all = refl
map-same {X} {Y} f g (x ∷ xs) all =
    let P : X → Type 0 = λ t. f t ≡ g t in
    ap (λ (t : Y). t ∷ map f xs) (All-head P x xs all) ∙ ap (λ (t : List Y). g x ∷ t) (map-same f g xs (All-tail P x xs all))

pub map-set : {X Y : Type 0} (f : X → Y) (xs : List X) (i : ℕ) (y : X) → map f (slice_set xs i y) ≡ slice_set (map f xs) i (f y)
map-set f [] i y = refl
map-set f (x ∷ xs) zero y = refl
map-set f (x ∷ xs) (suc i) y = ap (λ ys. f x ∷ ys) (map-set f xs i y)

pub map-set_same : {X Y : Type 0} (f : X → Y) (xs : List X) (i : ℕ) (x y : X) → slice_get xs i ≡ Some x → f y ≡ f x → map f (slice_set xs i y) ≡ map f xs
map-set_same f [] i x y at e = refl
map-set_same f (z ∷ xs) zero x y at e = let same : z ≡ x = cc in ap (λ w. w ∷ map f xs) (e ∙ ap f (sym same))
map-set_same f (z ∷ xs) (suc i) x y at e = ap (λ ys. f z ∷ ys) (map-set_same f xs i x y at e)

pub mapped : {X : Type 0} (f : X → X) (o : Option X) (x y : X) → o ≡ Some x → option_map f o ≡ Some y → f x ≡ y
mapped f o x y old new = cc (ap (option_map f) old)

pub each_of_map : {X A : Type 0} (P : A → Type 0) (f : X → A) (xs : List X) → AllByRecursion (λ x. P (f x)) xs → AllByRecursion P (map f xs)
each_of_map P f [] h = tt
each_of_map P f (x ∷ xs) h = (h.0, each_of_map P f xs h.1)

pub mapped_length : {X Y : Type 0} (f : X → Y) (xs : List X) → length (map f xs) ≡ length xs
mapped_length f [] = refl
mapped_length f (x ∷ xs) = ap suc (mapped_length f xs)

pub no-length : {X : Type 0} (xs : List X) → (length xs == 0) ≡ true → xs ≡ []
no-length [] h = refl
no-length (x ∷ xs) h = absurd (omega (arith, eqb-true (length (x ∷ xs)) 0 h))

pub no_more : {X : Type 0} (xs : List X) → length xs ≡ 0 → xs ≡ []
no_more [] e = refl
no_more (x ∷ xs) e = absurd cc

pub paired : {X Y : Type 0} (xs : List X) (ys : List Y) (at : ℕ) (y : Y) → length xs ≡ length ys → slice_get ys at ≡ Some y → (x : X) × (slice_get xs at ≡ Some x)
paired [] [] at y e get = cc
paired [] (z ∷ ys) at y e get = absurd (omega arith)
paired (x ∷ xs) [] at y e get = absurd (omega arith)
paired (x ∷ xs) (z ∷ ys) zero y e get = (x, refl)
paired (x ∷ xs) (z ∷ ys) (suc at) y e get = let shorter : length xs ≡ length ys = omega arith in paired xs ys at y shorter get

pub pushed_length : {X : Type 0} (xs ys : List X) (y : X) (a : ℕ) → ys ≡ xs ++ y ∷ [] → length xs ≡ a → length ys ≡ a + 1
pushed_length xs ys y a e h = ap length e ∙ (length-append xs (y ∷ []) ∙ ap (λ (k : ℕ). k + 1) h)

pub range-push : (a n : ℕ) → range_with_len a (n + 1) ≡ range_with_len a n ++ (a + n) ∷ []
range-push a n =
    sym (map-id (range_with_len a (n + 1))) ∙ map-range_with_len_more (λ x. x) a n (a + n) refl ∙ ap (λ (t : List ℕ). t ++ (a + n) ∷ []) (map-id (range_with_len a n))

pub range_more : {B : Type 0} (f : ℕ → B) (a c : ℕ) → 0 < c → map f (range_with_len a c) ≡ f a ∷ map f (range_with_len (a + 1) (c - 1))
range_more f a zero lt = absurd (omega (arith, lt))
range_more f a (suc c) lt = let less : c ≡ suc c - 1 = omega arith in ap (λ (k : ℕ). f a ∷ map f (range_with_len (a + 1) k)) less

pub each_more : {X : Type 0} (P Q : X → Type 0) (xs : List X) → ((x : X) → P x → Q x) → AllByRecursion P xs → AllByRecursion Q xs
each_more P Q [] f h = tt
each_more P Q (x ∷ xs) f h = (f x h.0, each_more P Q xs f h.1)

pub set-same : {X : Type 0} (xs : List X) (i : ℕ) (x : X) → slice_get xs i ≡ Some x → slice_set xs i x ≡ xs
set-same [] i x h = refl
set-same (y ∷ xs) zero x h = let same : y ≡ x = cc in ap (λ z. z ∷ xs) (sym same)
set-same (y ∷ xs) (suc i) x h = ap (λ ys. y ∷ ys) (set-same xs i x h)

pub set_set : {X : Type 0} (xs : List X) (at : ℕ) (x y : X) → slice_set (slice_set xs at x) at y ≡ slice_set xs at y
set_set [] at x y = refl
set_set (z ∷ xs) zero x y = refl
set_set (z ∷ xs) (suc at) x y = ap (λ ys. z ∷ ys) (set_set xs at x y)

pub three_pieces : (o a b c x y z : List ℕ) → a ≡ o ++ x → b ≡ a ++ y → c ≡ b ++ z → c ≡ o ++ (x ++ (y ++ z))
three_pieces o a b c x y z p q r = rw (r, q, p) (simp append_assoc)

pub within : {X : Type 0} (xs : List X) (i : ℕ) → i < length xs → (x : X) × (slice_get xs i ≡ Some x)
within [] i h = absurd (omega arith)
within (x ∷ xs) zero h = (x, refl)
within (x ∷ xs) (suc i) h = let lt : i < length xs = omega arith in within xs i lt
