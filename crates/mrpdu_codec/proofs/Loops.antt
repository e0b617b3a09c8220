-- What loops over octets have at their ends.
use Rattle.std.proofs.Common.{◌≡◌, ℕ, zero, suc, ◌+◌, ◌-◌, ◌<◌, ◌≤◌, min, Bool, true, List, [], ◌∷◌, ◌++◌, length, get_or, take, drop, map, Result, Ok, Err, refl, sym, ap, subst, ◌∙◌, arith}
use Rattle.std.proofs.lemmas.{List.take-append-drop, List.length-take-le, List.length-drop, List.drop_all, List.drop_more, List.take_more, List.flat_map_more, List.map_push, Bool.and_parts}
use Rattle.std.specs.List.{flat_map, list_all}
use Rattle.std.specs.Prelude.{IsErrAnd, IfOk}
use Rattle.mrpdu_codec.specs.{AllUpTo, OctetBreaks, packed_at}
use Rattle.mrpdu_codec.proofs.SpelledVectors.{packed_reads, packed_stops}

stops : (limit n i : ℕ) (octets : List ℕ) → i < n → i ≤ length octets → AllUpTo limit (take i octets) → OctetBreaks limit (drop i octets) → packed_at limit n octets ≡ Err (length octets - i)
stops limit n i octets lt le all h =
    ap (λ (o : List ℕ). packed_at limit n o) (sym (take-append-drop i octets))
    ∙ packed_stops limit n (take i octets) (drop i octets) (omega (arith, length-take-le i octets le)) all h
    ∙ ap (λ (k : ℕ). let e : Result (List ℕ × List ℕ) ℕ = Err k in e) (length-drop i octets)

pub packed_ends : (limit n i : ℕ) (octets : List ℕ) → i < n → i ≡ length octets → AllUpTo limit (take i octets) → packed_at limit n octets ≡ Err 0
packed_ends limit n i octets lt e all = grind (arith, drop_all, stops)

pub packed_above : (limit n i : ℕ) (octets : List ℕ) → i < n → i < length octets → AllUpTo limit (take i octets) → limit < get_or octets i 0 → packed_at limit n octets ≡ Err (length octets - i)
packed_above limit n i octets lt le all h = grind (arith, stops, drop_more)

pub packed_whole : (limit n : ℕ) (octets : List ℕ) → n ≤ length octets → AllUpTo limit (take n octets) → packed_at limit n octets ≡ Ok (take n octets, drop n octets)
packed_whole limit n octets le all =
    ap (λ (o : List ℕ). packed_at limit n o) (sym (take-append-drop n octets)) ∙ packed_reads limit n (take n octets) (drop n octets) (length-take-le n octets le) all

-- ---- the first n items of a list that grows

pub take-take-append : {A : Type 0} (n : ℕ) (xs ys : List A) → take n (take n xs ++ ys) ≡ take n (xs ++ ys)
take-take-append zero xs ys = refl
take-take-append (suc n) [] ys = refl
take-take-append {A = A} (suc n) (x ∷ xs) ys = ap (λ (zs : List A). x ∷ zs) (take-take-append n xs ys)

-- what goes behind a list up to n items in all
take_same : {A : Type 0} (n k : ℕ) (ys : List A) → min (length ys) n ≡ k → take n ys ≡ take k ys
take_same zero zero ys e = refl
take_same zero (suc k) ys e = absurd (omega (arith, e))
take_same (suc n) zero [] e = refl
take_same (suc n) zero (y ∷ ys) e = absurd (omega (arith, e))
take_same (suc n) (suc k) [] e = absurd (omega (arith, e))
take_same {A = A} (suc n) (suc k) (y ∷ ys) e = ap (λ (zs : List A). y ∷ zs) (take_same n k ys (omega (arith, e)))

pub take_behind : {A : Type 0} (n k : ℕ) (xs more : List A) → min (length more) (n - length xs) ≡ k → length xs ≤ n → take n (xs ++ more) ≡ xs ++ take k more
take_behind n k [] more e le = take_same n k more (omega (arith, e))
take_behind zero k (x ∷ xs) more e le = absurd (omega (arith, le))
take_behind {A = A} (suc n) k (x ∷ xs) more e le = ap (λ (zs : List A). x ∷ zs) (take_behind n k xs more (omega (arith, e)) (omega (arith, le)))

-- one octet more is unpacked
pub unpacked_more : {A : Type 0} (f : ℕ → List A) (n i : ℕ) (octets : List ℕ) (items more : List A) → i < length octets → items ≡ take n (flat_map f (take i octets))
    → more ≡ take n (items ++ f (get_or octets i 0))
    → more ≡ take n (flat_map f (take (i + 1) octets))
unpacked_more {A = A} f n i octets items more lt e g =
    g ∙ ap (λ (zs : List A). take n (zs ++ f (get_or octets i 0))) e ∙ take-take-append n (flat_map f (take i octets)) (f (get_or octets i 0))
    ∙ ap (λ (zs : List A). take n zs) (flat_map_more f [] (take i octets) (get_or octets i 0) ∙ ap (λ (os : List ℕ). flat_map f os) (sym (take_more octets i 0 lt)))

-- one item more is spelled
pub spelled_more : {X Y : Type 0} (f : Y → List ℕ) (g : X → Y) (front : List ℕ) (xs : List X) (i : ℕ) (x : X) (out new : List ℕ) → i < length xs → x ≡ get_or xs i x
    → out ≡ front ++ flat_map f (map g (take i xs)) → new ≡ out ++ f (g x) → new ≡ front ++ flat_map f (map g (take (i + 1) xs))
spelled_more f g front xs i x out new below is so_far more =
    more ∙ ap (λ o. o ++ f (g x)) so_far ∙ flat_map_more f front (map g (take i xs)) (g x)
    ∙ ap (λ l. front ++ flat_map f l) (sym (ap (map g) (take_more xs i x below ∙ ap (λ y. take i xs ++ y ∷ []) (sym is)) ∙ map_push g (take i xs) x))

-- one item more is mapped
pub mapped_more : {X Y : Type 0} (f : X → Y) (xs : List X) (i : ℕ) (d : X) (done new : List Y) (y : Y) → i < length xs → done ≡ map f (take i xs) → y ≡ f (get_or xs i d)
    → new ≡ done ++ y ∷ [] → new ≡ map f (take (i + 1) xs)
mapped_more f xs i d done new y below so_far one pushed =
    pushed ∙ ap (λ l. l ++ y ∷ []) so_far ∙ ap (λ z. map f (take i xs) ++ z ∷ []) one
    ∙ sym (ap (map f) (take_more xs i d below) ∙ map_push f (take i xs) (get_or xs i d))

-- what holds of all items holds of the one at hand
pub all-at : {X : Type 0} (p : X → Bool) (xs : List X) (i : ℕ) (x : X) → list_all p xs ≡ true → i < length xs → x ≡ get_or xs i x → p x ≡ true
all-at p [] i x h below is = absurd (omega arith)
all-at p (y ∷ ys) zero x h below is = ap p is ∙ (and_parts (p y) (list_all p ys) h).0
all-at p (y ∷ ys) (suc i) x h below is = all-at p ys i x (and_parts (p y) (list_all p ys) h).1 (omega arith) is

-- ---- a call that fails

-- what is promised of an answer that isn't an error
pub of_error : {T E : Type 0} (r : Result T E) (P : T → Type 0) (Q : E → Type 0) → IsErrAnd r Q → IfOk r P
of_error (Ok x) P Q h = absurd h
of_error (Err y) P Q h = tt
