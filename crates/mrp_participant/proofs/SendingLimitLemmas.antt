-- The rows before the first one that finds no room are those that are taken: those up to which the octets
-- of the order fit.
use Rattle.std.proofs.Common.{◌≡◌, ℕ, ◌+◌, ◌<◌, Bool, true, false, not, ◌&&◌, ◌||◌, if◌then◌else◌, nat_le, nat_lt, ◌==◌, List, [], ◌∷◌, ◌++◌, filter, refl, sym, ap, ◌∙◌, subst, arith, inl, inr}
use Rattle.std.specs.Prelude.{◌⊎◌}
use Rattle.std.specs.{declared.option.Option.Option, declared.option.Option.TheVariants.Some, declared.cmp.Ordering.Ordering, declared.cmp.Ordering.TheVariants.Less, declared.cmp.Ordering.TheVariants.Equal, declared.cmp.Ordering.TheVariants.Greater, Ordering.is_eq, Ordering.is_lt, Ordering.ordering_reverse, Cmp.IsTotalOrder, List.filter_map, List.AllByRecursion}
use Rattle.std.proofs.lemmas.{Cmp.tied_itself, List.Sums.sum_by-cons, Bool.Decides.nat_tests}
use Rattle.std.proofs.Common.{eqb-true, eq-eqb}
use Rattle.srp_base.proofs.Lists.{each_append as Each-append, each_filter as Each-filtered}
use Rattle.applicant.specs.declared.Applicant.{Applicant}
use Rattle.applicant.specs.declared.Applicant.TheVariants.{Vo, Vp, Vn, An, Aa, Qa, La}
use Rattle.mrp_participant.specs.declared.row.Row.{Row}
use Rattle.mrp_participant.specs.{Ascends, key_of, same, find, round, is_tried, rows_of_round, order, octets_of, up_to, is_taken, limit_at, is_ahead, is_before, is_in_room, first_limit}
use Rattle.mrp_participant.proofs.Lookups.{same_is, find-same}

-- ---- membership

-- an element of a list
abbrev pub In : {X : Type 0} → X → List X → Type 0
In x [] = ⊥
In x (y ∷ ys) = (x ≡ y) ⊎ In x ys

pub In-filter : {X : Type 0} (p : X → Bool) (x : X) (xs : List X) → p x ≡ true → In x xs → In x (filter p xs)
In-filter p x [] h at = absurd at
In-filter p x (y ∷ ys) h (inl e) = rw (subst (λ z. p z ≡ true) e h) (inl e)
In-filter p x (y ∷ ys) h (inr at) = elim (p y) as
    (λ b. In x (if b then y ∷ filter p ys else filter p ys)) [
      | true ↦ inr
          (In-filter p x ys h at)
      | false ↦ In-filter p x ys h at
    ]

pub In-left : {X : Type 0} (x : X) (xs ys : List X) → In x xs → In x (xs ++ ys)
In-left x [] ys at = absurd at
In-left x (z ∷ xs) ys (inl e) = inl e
In-left x (z ∷ xs) ys (inr at) = inr (In-left x xs ys at)

pub In-right : {X : Type 0} (x : X) (xs ys : List X) → In x ys → In x (xs ++ ys)
In-right x [] ys at = at
In-right x (z ∷ xs) ys at = inr (In-right x xs ys at)

pub Each-in : {X : Type 0} (P : X → Type 0) (x : X) (xs : List X) → AllByRecursion P xs → In x xs → P x
Each-in P x [] h at = absurd at
Each-in P x (y ∷ ys) h (inl e) = subst P (sym e) h.0
Each-in P x (y ∷ ys) h (inr at) = Each-in P x ys h.1 at

pub Each-from_in : {X : Type 0} (P : X → Type 0) (xs : List X) → ((x : X) → In x xs → P x) → AllByRecursion P xs
Each-from_in P [] f = tt
Each-from_in P (x ∷ xs) f = (f x (inl refl), Each-from_in P xs (λ y at. f y (inr at)))

-- each element of a filtered list passes the test and was in the list
filtered_in : {X : Type 0} (p : X → Bool) (x y : X) (ys : List X) (b : Bool) → p y ≡ b
    → (In x (filter p ys) → (p x ≡ true) × In x ys) → In x (if b then y ∷ filter p ys else filter p ys) → (p x ≡ true)
    × In x (y ∷ ys)
filtered_in p x y ys true h rest (inl e) = (subst (λ z. p z ≡ true) (sym e) h, inl e)
filtered_in p x y ys true h rest (inr at) = ((rest at).0, inr (rest at).1)
filtered_in p x y ys false h rest at = ((rest at).0, inr (rest at).1)

pub In-filtered : {X : Type 0} (p : X → Bool) (x : X) (xs : List X) → In x (filter p xs) → (p x ≡ true) × In x xs
In-filtered p x [] at = absurd at
In-filtered p x (y ∷ ys) at = filtered_in p x y ys (p y) refl (In-filtered p x ys) at

pub In-append : {X : Type 0} (x : X) (xs ys : List X) → In x (xs ++ ys) → In x xs ⊎ In x ys
In-append x [] ys at = inr at
In-append x (z ∷ xs) ys (inl e) = inl (inl e)
In-append x (z ∷ xs) ys (inr at) = elim (In-append x xs ys at) [ inl h ↦ inl (inr h) | inr h ↦ inr h ]

-- ---- lists in which each element stands in a relation to all later ones

abbrev pub Lined : {X : Type 0} → (X → X → Type 0) → List X → Type 0
Lined R [] = Unit {0}
Lined R (x ∷ xs) = AllByRecursion (R x) xs × Lined R xs

Lined-append : {X : Type 0} (R : X → X → Type 0) (xs ys : List X) → Lined R xs → Lined R ys → ((x y : X) → In x xs → In y ys → R x y) → Lined R (xs ++ ys)
Lined-append R [] ys h k cross = k
Lined-append R (x ∷ xs) ys h k cross =
    (Each-append (R x) xs ys h.0 (Each-from_in (R x) ys (λ y at. cross x y (inl refl) at)), Lined-append R xs ys h.1 k (λ a b at bt. cross a b (inr at) bt))

Lined-filtered : {X : Type 0} (R : X → X → Type 0) (p : X → Bool) (xs : List X) → Lined R xs → Lined R (filter p xs)
Lined-filtered R p [] h = tt
Lined-filtered R p (x ∷ xs) h =
    elim (p x) as (λ b. Lined R (if b then x ∷ filter p xs else filter p xs)) [
      | true ↦ (
        Each-filtered (R x) p xs h.0,
        Lined-filtered R p xs h.1,
      )
      | false ↦ Lined-filtered R p xs h.1
    ]

Lined-in : {X : Type 0} (R S : X → X → Type 0) (xs : List X) → ((x y : X) → In x xs → In y xs → R x y → S x y) → Lined R xs → Lined S xs
Lined-in R S [] f h = tt
Lined-in R S (x ∷ xs) f h =
    (Each-from_in (S x) xs (λ y at. f x y (inl refl) (inr at) (Each-in (R x) y xs h.0 at)), Lined-in R S xs (λ a b at bt. f a b (inr at) (inr bt)) h.1)

-- ---- keys of ascending rows

-- a key below another, and the other below the first, cannot be
less_once : {K : Type 0} {cmp : K → K → Ordering} → IsTotalOrder cmp → (a b : K) → cmp a b ≡ Less → cmp b a ≡ Less → ⊥
less_once {cmp = cmp} o a b h k = let e : cmp a b ≡ Greater = o.antisymm a b ∙ ap ordering_reverse k in cc

pub same_refl : {K : Type 0} {cmp : K → K → Ordering} → IsTotalOrder cmp → (k : K) → same cmp k k ≡ true
same_refl o k = ap is_eq (tied_itself o k)

below_is_not_same : {K : Type 0} (cmp : K → K → Ordering) (a b : K) → cmp a b ≡ Less → same cmp a b ≡ false
below_is_not_same cmp a b h = ap is_eq h

module _ {K C : Type 0} {cmp : K → K → Ordering} (o : IsTotalOrder cmp) where
  -- the rows of a list each have the key that finds them
  pub find-in : (r : Row K C) (rows : List (Row K C)) → Ascends cmp key_of rows → In r rows → find cmp r.key rows ≡ Some r
  find-in r [] up at = absurd at
  find-in r (x ∷ rows) up (inl e) = subst (λ z. find cmp z.key (x ∷ rows) ≡ Some z) (sym e) (rw (same_refl o x.key) refl)
  find-in r (x ∷ rows) up (inr at) = rw (below_is_not_same cmp x.key r.key (Each-in (λ y. cmp x.key y.key ≡ Less) r rows up.0 at)) (find-in r rows up.1 at)

  -- two rows of one list with one key are one row
  one_row : (r s : Row K C) (rows : List (Row K C)) → Ascends cmp key_of rows → In r rows → In s rows → cmp r.key s.key ≡ Equal → r ≡ s
  one_row r s rows up at bt e = grind (arith, find-in, find-same)

-- ---- before and after in the order

lt_is : (c : Ordering) → is_lt c ≡ true → c ≡ Less
lt_is Less h = refl
lt_is Equal h = cc
lt_is Greater h = cc

asym_by : (a b : ℕ) (c d : Bool) → (c ≡ true → d ≡ true → ⊥) → (nat_lt a b || (a == b && c)) ≡ true → (nat_lt b a || (b == a && d)) ≡ false
asym_by a b true true never h = absurd (never refl refl)
asym_by a b true false never h = grind (arith, nat_tests)
asym_by a b false true never h = grind (arith, nat_tests)
asym_by a b false false never h = grind (arith, nat_tests)

irrefl_by : (a : ℕ) (c : Bool) → c ≡ false → (nat_lt a a || (a == a && c)) ≡ false
irrefl_by a c h = grind (arith, nat_tests)

earlier_by : (a b : ℕ) (c : Bool) → a < b → (nat_lt a b || (a == b && c)) ≡ true
earlier_by a b c h = grind (arith, nat_tests)

together_by : (a b : ℕ) (c : Bool) → a ≡ b → c ≡ true → (nat_lt a b || (a == b && c)) ≡ true
together_by a b c h k = grind (arith, nat_tests)

rounds_are : (a : Bool) (b : Applicant) → not (round a b == 0) ≡ true → (round a b ≡ 1) ⊎ ((round a b ≡ 2) ⊎ (round a b ≡ 3))
rounds_are a Vo h = elim a as (λ a. not (round a Vo == 0) ≡ true → (round a Vo ≡ 1)
    ⊎ ((round a Vo ≡ 2) ⊎ (round a Vo ≡ 3))) [ true ↦ λ h. cc | false ↦ λ h. cc ] h
rounds_are true Vp h = inl refl
rounds_are false Vp h = inl refl
rounds_are true Vn h = inl refl
rounds_are false Vn h = inl refl
rounds_are true An h = inr (inl refl)
rounds_are false An h = inr (inl refl)
rounds_are true Aa h = inr (inl refl)
rounds_are false Aa h = inr (inl refl)
rounds_are true Qa h = inr (inr refl)
rounds_are false Qa h = cc
rounds_are true La h = cc
rounds_are false La h = inl refl

module _ {K C : Type 0} {cmp : K → K → Ordering} (o : IsTotalOrder cmp) (leave_all : Bool) (octets : C → ℕ) where
  -- a row is tried before another, and has another key
  abbrev pub Ahead : Row K C → Row K C → Type 0
  Ahead x y = (is_ahead cmp leave_all (limit_at leave_all y) x ≡ true) × (same cmp x.key y.key ≡ false)

  pub ahead_once : (x y : Row K C) → Ahead x y → is_ahead cmp leave_all (limit_at leave_all x) y ≡ false
  ahead_once x y ahead = grind (arith, asym_by, lt_is)

  pub not_ahead_of_itself : (x : Row K C) → is_ahead cmp leave_all (limit_at leave_all x) x ≡ false
  not_ahead_of_itself x = irrefl_by (round leave_all x.applicant) (is_lt (cmp x.key x.key)) (ap is_lt (tied_itself o x.key))

  -- a row that is ahead of all of some rows is before the first of them that finds no room
  pub first_is_before : (used : ℕ) (xs : List (Row K C)) (x : Row K C) → AllByRecursion (Ahead x) xs
      → is_before cmp leave_all (first_limit leave_all octets used xs) x ≡ true
  first_is_before used [] x ahead = refl
  first_is_before used (y ∷ ys) x ahead = grind (arith, first_is_before (used + octets y.content) ys x ahead.1, nat_le)

  -- the octets up to a row, and whether it is before the limit, at the first of some rows
  here_by : (used : ℕ) (x : Row K C) (xs : List (Row K C)) (b : Bool) → nat_le (used + octets x.content) 1500 ≡ b
      → AllByRecursion (Ahead x) xs → b ≡ is_before cmp leave_all (if b then first_limit leave_all octets
      (used + octets x.content) xs else Some (limit_at leave_all x)) x
  here_by used x xs true e ahead = sym (first_is_before (used + octets x.content) xs x ahead)
  here_by used x xs false e ahead = sym (not_ahead_of_itself x)

  later_by : (used rest : ℕ) (x r : Row K C) (xs : List (Row K C)) (b : Bool)
      → nat_le (used + octets x.content) 1500 ≡ b → is_ahead cmp leave_all (limit_at leave_all x) r ≡ false
      → nat_le (used + octets x.content + rest) 1500
      ≡ is_before cmp leave_all (first_limit leave_all octets (used + octets x.content) xs) r
      → nat_le (used + octets x.content + rest) 1500
      ≡ is_before cmp leave_all (if b then first_limit leave_all octets (used + octets x.content) xs else Some
      (limit_at leave_all x)) r
  later_by used rest x r xs true e late step = step
  later_by used rest x r xs false e late step = grind (arith, nat_le, nat_tests)

  pub fits_before : (used : ℕ) (xs : List (Row K C)) (r : Row K C) → Lined Ahead xs → In r xs
      → nat_le (used + octets_of octets (up_to cmp r.key xs)) 1500
      ≡ is_before cmp leave_all (first_limit leave_all octets used xs) r
  fits_before used [] r lined at = absurd at
  fits_before used (x ∷ xs) r lined (inl e) = grind (arith, nat_le, same_refl, here_by)
  fits_before used (x ∷ xs) r lined (inr at) =
      let ahead : Ahead x r = Each-in (Ahead x) r xs lined.0 at in
      rw ahead.1
      (ap (λ n. nat_le n 1500) (more (up_to cmp r.key xs))
      ∙ later_by used (octets_of octets (up_to cmp r.key xs)) x r xs (nat_le (used + octets x.content) 1500) refl (ahead_once x r ahead)
      (fits_before (used + octets x.content) xs r lined.1 at))
    where
      more : (ys : List (Row K C)) → used + octets_of octets (x ∷ ys) ≡ used + octets x.content + octets_of octets ys
      more ys = let e = sum_by-cons (λ (y : Row K C). octets y.content) x ys in omega arith

  -- ---- the order

  pub of_round : (n : ℕ) (rows : List (Row K C)) (r : Row K C) → In r (rows_of_round leave_all n rows) → (round leave_all r.applicant ≡ n) × In r rows
  of_round n rows r at = let h = In-filtered (λ (x : Row K C). round leave_all x.applicant == n) r rows at in
      (eqb-true (round leave_all r.applicant) n h.0, h.1)

  apart : (rows : List (Row K C)) → Ascends cmp key_of rows → (x y : Row K C) (n m : ℕ) → n < m
      → In x (rows_of_round leave_all n rows) → In y (rows_of_round leave_all m rows) → Ahead x y
  apart rows up x y n m less at bt =
      let a = of_round n rows x at in
      let b = of_round m rows y bt in
      let rounds : round leave_all x.applicant < round leave_all y.applicant = omega arith in (
        earlier_by (round leave_all x.applicant) (round leave_all y.applicant) (is_lt (cmp x.key y.key)) rounds,
        differ (same cmp x.key y.key) refl rounds a.1 b.1,
      )
    where
      differ : (b : Bool) → same cmp x.key y.key ≡ b → round leave_all x.applicant < round leave_all y.applicant → In x rows → In y rows → b ≡ false
      differ false e rounds at bt = refl
      differ true e rounds at bt =
          let one : x ≡ y = one_row o x y rows up at bt (same_is cmp x.key y.key e) in
          let tied : round leave_all x.applicant ≡ round leave_all y.applicant = ap (λ (r : Row K C). round leave_all r.applicant) one in
          absurd (omega arith)

  lined_rows : (rows : List (Row K C)) → Ascends cmp key_of rows → Lined (λ (x y : Row K C). cmp x.key y.key ≡ Less) rows
  lined_rows [] up = tt
  lined_rows (r ∷ rows) up = (up.0, lined_rows rows up.1)

  lined_round : (n : ℕ) (rows : List (Row K C)) → Ascends cmp key_of rows → Lined Ahead (rows_of_round leave_all n rows)
  lined_round n rows up =
      Lined-in (λ x y. cmp x.key y.key ≡ Less) Ahead (rows_of_round leave_all n rows)
      (λ x y at bt less. (
        together_by (round leave_all x.applicant) (round leave_all y.applicant) (is_lt (cmp x.key y.key))
            ((of_round n rows x at).0 ∙ sym (of_round n rows y bt).0) (ap is_lt less),
        below_is_not_same cmp x.key y.key less,
      ))
      (Lined-filtered (λ x y. cmp x.key y.key ≡ Less) (λ x. round leave_all x.applicant == n) rows (lined_rows rows up))

  pub lined_order : (rows : List (Row K C)) → Ascends cmp key_of rows → Lined Ahead (order leave_all rows)
  lined_order rows up =
      Lined-append Ahead (rows_of_round leave_all 1 rows) (rows_of_round leave_all 2 rows ++ rows_of_round leave_all 3 rows) (lined_round 1 rows up)
      (Lined-append Ahead (rows_of_round leave_all 2 rows) (rows_of_round leave_all 3 rows) (lined_round 2 rows up) (lined_round 3 rows up)
      (λ x y at bt. apart rows up x y 2 3 (omega arith) at bt))
      (λ x y at bt. after_first x y at (In-append y (rows_of_round leave_all 2 rows) (rows_of_round leave_all 3 rows) bt))
    where
      after_first : (x y : Row K C) → In x (rows_of_round leave_all 1 rows) → In y (rows_of_round leave_all 2 rows)
          ⊎ In y (rows_of_round leave_all 3 rows) → Ahead x y
      after_first x y at (inl bt) = apart rows up x y 1 2 (omega arith) at bt
      after_first x y at (inr bt) = apart rows up x y 1 3 (omega arith) at bt

  -- ---- the rows before the limit are those that are taken

  in_round : (n : ℕ) (r : Row K C) (rows : List (Row K C)) → round leave_all r.applicant ≡ n → In r rows → In r (rows_of_round leave_all n rows)
  in_round n r rows e at = In-filter (λ x. round leave_all x.applicant == n) r rows (eq-eqb (round leave_all r.applicant) n e) at

  pub in_order : (r : Row K C) (rows : List (Row K C)) → is_tried leave_all r ≡ true → In r rows → In r (order leave_all rows)
  in_order r rows tried at = place (rounds_are leave_all r.applicant tried)
    where
      place : (round leave_all r.applicant ≡ 1) ⊎ ((round leave_all r.applicant ≡ 2) ⊎ (round leave_all r.applicant ≡ 3)) → In r (order leave_all rows)
      place (inl e) = In-left r (rows_of_round leave_all 1 rows) (rows_of_round leave_all 2 rows ++ rows_of_round leave_all 3 rows) (in_round 1 r rows e at)
      place (inr (inl e)) = In-right r (rows_of_round leave_all 1 rows)
          (rows_of_round leave_all 2 rows ++ rows_of_round leave_all 3 rows)
          (In-left r (rows_of_round leave_all 2 rows) (rows_of_round leave_all 3 rows) (in_round 2 r rows e at))
      place (inr (inr e)) = In-right r (rows_of_round leave_all 1 rows)
          (rows_of_round leave_all 2 rows ++ rows_of_round leave_all 3 rows)
          (In-right r (rows_of_round leave_all 2 rows) (rows_of_round leave_all 3 rows) (in_round 3 r rows e at))

  in_room_by : (base : ℕ) (rows : List (Row K C)) (r : Row K C) (b : Bool) → is_tried leave_all r ≡ b
      → Ascends cmp key_of rows → In r rows → (b && is_before cmp leave_all
      (first_limit leave_all octets base (order leave_all rows)) r)
      ≡ (b && nat_le (base + octets_of octets (up_to cmp r.key (order leave_all rows))) 1500)
  in_room_by base rows r true tried up at = sym (fits_before base (order leave_all rows) r (lined_order rows up) (in_order r rows tried at))
  in_room_by base rows r false tried up at = refl

  pub in_room : (base : ℕ) (rows : List (Row K C)) (r : Row K C) → Ascends cmp key_of rows → In r rows
      → is_in_room cmp leave_all (first_limit leave_all octets base (order leave_all rows)) r
      ≡ is_taken base octets cmp leave_all rows r
  in_room base rows r up at = in_room_by base rows r (is_tried leave_all r) refl up at

-- what a function makes of a list depends on what it makes of its elements
pub filter_map-same : {X Y : Type 0} (f g : X → Option Y) (xs : List X) → ((x : X) → In x xs → f x ≡ g x) → filter_map f xs ≡ filter_map g xs
filter_map-same f g [] same_at = refl
filter_map-same f g (x ∷ xs) same_at = grind (arith, filter_map-same f g xs (λ y at. same_at y (inr at)))
