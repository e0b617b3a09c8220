-- Copies in order: there is one list of the same copies that is, `in_order` of them.
use Rattle.std.proofs.Common.{◌≡◌, ℕ, ◌+◌, ◌<◌, ◌≤◌, ◌⊎◌, inl, inr, Bool, true, false, cond, List, [], ◌∷◌, length, get_or, Some, refl, sym, ◌∙◌, ap, arith}
use Rattle.std.specs.Prelude.{All, sum_by, nat_lt, nat_le, ◌==◌, ◌&&◌, ◌||◌}
use Rattle.std.specs.{List.AllAdjacentBelow, List.Sorted.IsPermutation, List.Sorted.IsSortedByKey, Cmp.IsTotalOrder, Cmp.nat_cmp_total, Cmp.on_total, Cmp.then_total, Ordering.nat_cmp, Ordering.ordering_then, Ordering.is_lt, declared.cmp.Ordering.Ordering}
use Rattle.std.proofs.lemmas.{Bool.cond_both, Bool.cases_Bool, Bool.cases_lt, Bool.cases_order, Bool.lt-ltb, Bool.le-ltb, Bool.eq-eqb, Bool.ne_eqb, Bool.le-leb, Bool.lt-leb, Bool.or_left, Bool.or_right, Bool.or_from, Bool.and_from, Bool.and_left, Bool.and_right, Bool.false≢true, List.Sums.sum_by-cons, List.Sorted.IsPermutation-refl, List.Sorted.IsPermutation-sym, List.Sorted.IsPermutation-trans, List.Sorted.IsPermutation-cons, List.Sorted.IsPermutation-middle, List.Sorted.sum_by-IsPermutation, List.Sorted.All-permutation, List.Sorted.sorted_far, List.Sorted.ranks_by, List.Elements.All-nil, List.Elements.All-cons, List.Elements.All-head, List.Elements.All-tail, List.Elements.All-weaker, List.Kept.AllPairs-cons}
use Rattle.srp_base.proofs.Arithmetic.{less_is_below as cmp-less, same_is_equal as cmp-equal}
use Rattle.credit_shaper.proofs.PairLemmas.{pairs-head, pairs-tail, pairs-none, pairs-from-adjacent}
use Rattle.frame_flow.specs.{Frame, FrameCopy, IsKnown, is_not_after, with_copy, in_order, frame_of, IsInOrder}

-- ---- pairs of numbers, by the first and then by the second

abbrev pub lex : ℕ → ℕ → ℕ → ℕ → Bool
lex a b c d = nat_lt a c || (a == c) && nat_le b d

pub lex-less : (a b c d : ℕ) → a < c → lex a b c d ≡ true
lex-less a b c d h = or_left (nat_lt a c) ((a == c) && nat_le b d) (lt-ltb a c h)

pub lex-tied : (a b c d : ℕ) → a ≡ c → b ≤ d → lex a b c d ≡ true
lex-tied a b c d e h =
    or_right (nat_lt a c) ((a == c) && nat_le b d) (and_from (a == c) (nat_le b d) (eq-eqb a c e) (le-leb b d h))

pub lex-more : (a b c d : ℕ) → c < a → lex a b c d ≡ false
lex-more a b c d h =
    or_from (nat_lt a c) ((a == c) && nat_le b d) (le-ltb a c (omega arith)) (and_left (a == c) (nat_le b d) (ne_eqb a c (λ e. omega arith)))

pub lex-over : (a b c d : ℕ) → a ≡ c → d < b → lex a b c d ≡ false
lex-over a b c d e h =
    or_from (nat_lt a c) ((a == c) && nat_le b d) (le-ltb a c (omega arith)) (and_right (a == c) (nat_le b d) (lt-leb b d h))

pub lex-is : (a b c d : ℕ) → lex a b c d ≡ true → (a < c) ⊎ ((a ≡ c) × (b ≤ d))
lex-is a b c d is =
    elim (cases_order a c) [
      | inl e ↦ elim (cases_lt d b) [
        | inl h ↦ absurd (false≢true (sym (lex-over a b c d e h) ∙ is))
        | inr h ↦ inr (e, h)
      ]
      | inr (inl h) ↦ inl h
      | inr (inr h) ↦ absurd (false≢true (sym (lex-more a b c d h) ∙ is))
    ]

pub lex-total : (a b c d : ℕ) → lex a b c d ≡ false → lex c d a b ≡ true
lex-total a b c d nay =
    elim (cases_order a c) [
      | inl e ↦ elim (cases_lt d b) [
        | inl h ↦ lex-tied c d a b (sym e) (omega arith)
        | inr h ↦ absurd (false≢true (sym nay ∙ lex-tied a b c d e h))
      ]
      | inr (inl h) ↦ absurd (false≢true (sym nay ∙ lex-less a b c d h))
      | inr (inr h) ↦ lex-less c d a b h
    ]

pub lex-along : (a b c d e f : ℕ) → lex a b c d ≡ true → lex c d e f ≡ true → lex a b e f ≡ true
lex-along a b c d e f one two =
    elim (lex-is a b c d one) [
      | inl h ↦ elim (lex-is c d e f two) [ inl k ↦ lex-less a b e f (omega arith) | inr k ↦ lex-less a b e f (omega (arith, k.0)) ]
      | inr h ↦ elim (lex-is c d e f two) [
        | inl k ↦ lex-less a b e f (omega (arith, h.0))
        | inr k ↦ lex-tied a b e f (h.0 ∙ k.0) (omega (arith, h.1, k.1))
      ]
    ]

pub lex-both : (a b c d : ℕ) → lex a b c d ≡ true → lex c d a b ≡ true → (a ≡ c) × (b ≡ d)
lex-both a b c d one two =
    elim (lex-is a b c d one) [
      | inl h ↦ elim (lex-is c d a b two) [ inl k ↦ absurd (omega arith) | inr k ↦ absurd (omega (arith, k.0)) ]
      | inr h ↦ elim (lex-is c d a b two) [
        | inl k ↦ absurd (omega (arith, h.0))
        | inr k ↦ (h.0, omega (arith, h.1, k.1))
      ]
    ]

-- ---- copies

pub after-total : (x y : FrameCopy) → is_not_after x y ≡ false → is_not_after y x ≡ true
after-total x y nay = lex-total x.bit x.frame.number y.bit y.frame.number nay

pub after-along : (x y z : FrameCopy) → is_not_after x y ≡ true → is_not_after y z ≡ true → is_not_after x z ≡ true
after-along x y z one two =
    lex-along x.bit x.frame.number y.bit y.frame.number z.bit z.frame.number one two

pub after-itself : (x : FrameCopy) → is_not_after x x ≡ true
after-itself x = lex-tied x.bit x.frame.number x.bit x.frame.number refl (omega arith)

-- ---- what a sort by bit time and number gives

abbrev pub copy_key : FrameCopy → ℕ × ℕ
copy_key c = (c.bit, c.frame.number)

abbrev pub key_cmp : ℕ × ℕ → ℕ × ℕ → Ordering
key_cmp x y = ordering_then (nat_cmp x.0 y.0) (nat_cmp x.1 y.1)

pub key-total : IsTotalOrder key_cmp
key-total = then_total (on_total (λ (p : ℕ × ℕ). p.0) nat_cmp_total) (on_total (λ (p : ℕ × ℕ). p.1) nat_cmp_total)

pub lex-from_cmp : (a b c d : ℕ) → is_lt (ordering_then (nat_cmp c a) (nat_cmp d b)) ≡ false → lex a b c d ≡ true
lex-from_cmp a b c d nay =
    elim (cases_order a c) [
      | inl e ↦ elim (cases_lt d b) [
        | inl h ↦ (
            let is : is_lt (ordering_then (nat_cmp c a) (nat_cmp d b)) ≡ true =
            ap (λ (o : Ordering). is_lt (ordering_then o (nat_cmp d b))) (cmp-equal c a (sym e)) ∙ ap (λ (o : Ordering). is_lt o) (cmp-less d b h) in
            absurd (false≢true (sym nay ∙ is)))
        | inr h ↦ lex-tied a b c d e h
      ]
      | inr (inl h) ↦ lex-less a b c d h
      | inr (inr h) ↦ absurd (false≢true (sym nay ∙ ap (λ (o : Ordering). is_lt (ordering_then o (nat_cmp d b))) (cmp-less c a h)))
    ]

-- sorted by these keys is in order
pub order-from_sort : (xs : List FrameCopy) → IsSortedByKey copy_key key_cmp xs → IsInOrder xs
order-from_sort xs up i j d lt below =
    lex-from_cmp (get_or xs i d).bit (get_or xs i d).frame.number (get_or xs j d).bit (get_or xs j d).frame.number
    (sorted_far (λ x y. is_lt (key_cmp (copy_key x) (copy_key y))) (ranks_by key-total copy_key) xs up i j d (omega (arith, lt)) below)

-- each is in order with the next
pub order-from-next : (copies : List FrameCopy) → AllAdjacentBelow (λ x y. is_not_after x y ≡ true) copies (length copies) → IsInOrder copies
order-from-next copies next = pairs-from-adjacent (λ x y. is_not_after x y ≡ true) (λ x y z one two. after-along x y z one two) copies next

-- ---- a copy more, and all of them

pub All-with_copy : (P : FrameCopy → Type 0) (x : FrameCopy) (ys : List FrameCopy) → P x → All P ys → All P (with_copy x ys)
All-with_copy P x [] p all = All-cons P x [] p all
All-with_copy P x (y ∷ ys) p all =
    cond_both (is_not_after x y) (x ∷ y ∷ ys) (y ∷ with_copy x ys) (λ t. All P t)
    (λ e. All-cons P x (y ∷ ys) p all)
    (λ e. All-cons P y (with_copy x ys) (All-head P y ys all) (All-with_copy P x ys p (All-tail P y ys all)))

pub All-in_order : (P : FrameCopy → Type 0) (xs : List FrameCopy) → All P xs → All P (in_order xs)
All-in_order P [] all = all
All-in_order P (x ∷ xs) all =
    All-with_copy P x (in_order xs) (All-head P x xs all) (All-in_order P xs (All-tail P x xs all))

abbrev NotAfter : FrameCopy → FrameCopy → Type 0
NotAfter x y = is_not_after x y ≡ true

order-with_copy : (x : FrameCopy) (ys : List FrameCopy) → IsInOrder ys → IsInOrder (with_copy x ys)
order-with_copy x [] o = AllPairs-cons NotAfter x [] (All-nil (NotAfter x)) o
order-with_copy x (y ∷ ys) o =
    cond_both (is_not_after x y) (x ∷ y ∷ ys) (y ∷ with_copy x ys) IsInOrder
    (λ e. AllPairs-cons NotAfter x (y ∷ ys)
    (All-cons (NotAfter x) y ys e (All-weaker (NotAfter y) (NotAfter x) (λ z h. after-along x y z e h) ys (pairs-head NotAfter y ys o))) o)
    (λ e. AllPairs-cons NotAfter y (with_copy x ys)
    (All-with_copy (NotAfter y) x ys (after-total x y e) (pairs-head NotAfter y ys o))
    (order-with_copy x ys (pairs-tail NotAfter y ys o)))

pub order-in_order : (xs : List FrameCopy) → IsInOrder (in_order xs)
order-in_order [] = pairs-none NotAfter
order-in_order (x ∷ xs) = order-with_copy x (in_order xs) (order-in_order xs)

sum-with_copy : (f : FrameCopy → ℕ) (x : FrameCopy) (ys : List FrameCopy) → sum_by f (with_copy x ys) ≡ f x + sum_by f ys
sum-with_copy f x [] = sum_by-cons f x []
sum-with_copy f x (y ∷ ys) =
    cond_both (is_not_after x y) (x ∷ y ∷ ys) (y ∷ with_copy x ys) (λ t. sum_by f t ≡ f x + sum_by f (y ∷ ys))
    (λ e. sum_by-cons f x (y ∷ ys))
    (λ e. omega (arith, sum_by-cons f y (with_copy x ys), sum_by-cons f y ys, sum-with_copy f x ys))

pub sum-in_order : (f : FrameCopy → ℕ) (xs : List FrameCopy) → sum_by f (in_order xs) ≡ sum_by f xs
sum-in_order f [] = refl
sum-in_order f (x ∷ xs) =
    omega (arith, sum-with_copy f x (in_order xs), sum-in_order f xs, sum_by-cons f x xs)

-- ---- two lists in order with the same copies are one

abbrev SameSums : List FrameCopy → List FrameCopy → Type 0
SameSums xs ys = (f : FrameCopy → ℕ) → sum_by f xs ≡ sum_by f ys

-- 1 for a copy that isn't after this one
abbrev upto : FrameCopy → FrameCopy → ℕ
upto x z = cond (is_not_after z x) 1 0

none-upto : (x : FrameCopy) (ys : List FrameCopy) → All (λ z. is_not_after z x ≡ false) ys → sum_by (upto x) ys ≡ 0
none-upto x [] all = refl
none-upto x (y ∷ ys) all =
    let P : FrameCopy → Type 0 = λ z. is_not_after z x ≡ false in
    let here : upto x y ≡ 0 = ap (λ (b : Bool). cond b 1 0) (All-head P y ys all) in
    omega (arith, sum_by-cons (upto x) y ys, none-upto x ys (All-tail P y ys all), here)

not-upto : (x y : FrameCopy) (ys : List FrameCopy) → IsInOrder (y ∷ ys) → is_not_after y x ≡ false → All (λ z. is_not_after z x ≡ false) (y ∷ ys)
not-upto x y ys o nay =
    let P : FrameCopy → Type 0 = λ z. is_not_after z x ≡ false in
    All-cons P y ys nay (All-weaker (NotAfter y) P
    (λ z h. elim (cases_Bool (is_not_after z x)) [ inl yes_ ↦ absurd (false≢true (sym nay ∙ after-along y z x h yes_)) | inr e ↦ e ])
    ys (pairs-head NotAfter y ys o))

first-upto : (x : FrameCopy) (xs : List FrameCopy) (y : FrameCopy) (ys : List FrameCopy) → SameSums (x ∷ xs) (y ∷ ys) → IsInOrder (y ∷ ys)
    → is_not_after y x ≡ true
first-upto x xs y ys same o =
    elim (cases_Bool (is_not_after y x)) [
      | inl h ↦ h
      | inr nay ↦ (
          let here : upto x x ≡ 1 = ap (λ (b : Bool). cond b 1 0) (after-itself x) in
          absurd (omega (arith, none-upto x (y ∷ ys) (not-upto x y ys o nay), same (upto x), sum_by-cons (upto x) x xs, here)))
    ]

-- the frame of a copy is the one of its number
abbrev pub IsKnownCopy : List Frame → FrameCopy → Type 0
IsKnownCopy frames c = IsKnown frames c.frame

same-copy : (frames : List Frame) (x y : FrameCopy) → IsKnownCopy frames x → IsKnownCopy frames y → is_not_after x y ≡ true → is_not_after y x ≡ true → x ≡ y
same-copy frames x y known_x known_y one two =
    let both = lex-both x.bit x.frame.number y.bit y.frame.number one two in
    let some : Some x.frame ≡ Some y.frame = sym known_x ∙ ap (λ (n : ℕ). frame_of frames n) both.1 ∙ known_y in
    let frame : x.frame ≡ y.frame = cc in
    let to : ℕ → Frame → FrameCopy = λ b f. record { bit = b; frame = f } in
    ap (λ (b : ℕ). to b x.frame) both.0 ∙ ap (λ (f : Frame). to y.bit f) frame

pub ordered-one : (frames : List Frame) (xs ys : List FrameCopy) → SameSums xs ys → IsInOrder xs → IsInOrder ys → All (IsKnownCopy frames) xs → All (IsKnownCopy frames) ys → xs ≡ ys
ordered-one frames [] [] same one two kx ky = refl
ordered-one frames [] (y ∷ ys) same one two kx ky =
    absurd (omega (arith, same (λ c. 1), sum_by-cons (λ c. 1) y ys))
ordered-one frames (x ∷ xs) [] same one two kx ky =
    absurd (omega (arith, same (λ c. 1), sum_by-cons (λ c. 1) x xs))
ordered-one frames (x ∷ xs) (y ∷ ys) same one two kx ky =
    let K : FrameCopy → Type 0 = IsKnownCopy frames in
    let first = same-copy frames x y (All-head K x xs kx) (All-head K y ys ky)
    (first-upto y ys x xs (λ f. sym (same f)) one) (first-upto x xs y ys same two) in
    let rest : SameSums xs ys = λ f. omega (arith, same f, sum_by-cons f x xs, sum_by-cons f y ys, ap f first) in
    ap (λ (c : FrameCopy). c ∷ xs) first
    ∙ ap (λ (cs : List FrameCopy). y ∷ cs) (ordered-one frames xs ys rest (pairs-tail NotAfter x xs one) (pairs-tail NotAfter y ys two) (All-tail K x xs kx) (All-tail K y ys ky))

-- what a sort gives
pub sorted-is : (frames : List Frame) (xs ys : List FrameCopy) → All (IsKnownCopy frames) xs → IsPermutation xs ys → IsInOrder ys → ys ≡ in_order xs
sorted-is frames xs ys known moved o =
    let K : FrameCopy → Type 0 = IsKnownCopy frames in
    ordered-one frames ys (in_order xs) (λ f. sum_by-IsPermutation f xs ys moved ∙ sym (sum-in_order f xs)) o (order-in_order xs)
    (All-permutation K xs ys moved known) (All-in_order K xs known)

-- ---- in order they are the same copies, each as often

same-with_copy : (x : FrameCopy) (ys : List FrameCopy) → IsPermutation (x ∷ ys) (with_copy x ys)
same-with_copy x [] = IsPermutation-refl (x ∷ [])
same-with_copy x (y ∷ ys) =
    cond_both (is_not_after x y) (x ∷ y ∷ ys) (y ∷ with_copy x ys) (λ t. IsPermutation (x ∷ y ∷ ys) t)
    (λ e. IsPermutation-refl (x ∷ y ∷ ys))
    (λ e. IsPermutation-trans (x ∷ y ∷ ys) (y ∷ x ∷ ys) (y ∷ with_copy x ys)
    (IsPermutation-sym (y ∷ x ∷ ys) (x ∷ y ∷ ys) (IsPermutation-middle (y ∷ []) x ys))
    (IsPermutation-cons y (x ∷ ys) (with_copy x ys) (same-with_copy x ys)))

pub same-in_order : (xs : List FrameCopy) → IsPermutation xs (in_order xs)
same-in_order [] = IsPermutation-refl []
same-in_order (x ∷ xs) =
    IsPermutation-trans (x ∷ xs) (x ∷ in_order xs) (with_copy x (in_order xs))
    (IsPermutation-cons x xs (in_order xs) (same-in_order xs)) (same-with_copy x (in_order xs))
