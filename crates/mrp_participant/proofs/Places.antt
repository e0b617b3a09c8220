-- What is made of a key's row at its place, or of the gap where it has none, is what `put` makes of it; and loops
-- over rows that keep something of some.
use Rattle.std.proofs.Common.{◌≡◌, ◌≢◌, ℕ, zero, suc, ◌+◌, ◌<◌, ◌≤◌, ◌&&◌, nat_le, Bool, true, false, if◌then◌else◌, List, [], ◌∷◌, ◌++◌, length, map, filter, get_or, take, drop, sym, ap, refl, ◌∙◌, append_assoc, arith}
use Rattle.std.proofs.lemmas.{Bool.eq-eqb, Bool.ne_eqb, Bool.Decides.nat_tests, List.append-nil, List.drop_all, List.take-append-drop, List.at_drop_more}
use Rattle.std.specs.{declared.option.Option.Option, declared.option.Option.TheVariants.None, declared.option.Option.TheVariants.Some, declared.cmp.Ordering.Ordering, List.cons_option, List.filter_map, List.list_all, List.slice_get}
use Rattle.mrp_participant.specs.declared.row.Row.{Row}
use Rattle.mrp_participant.specs.{key_of, find, put, IsRowAt, IsGapAt, leave_is_due, round, rows_of_round, first_limit}

module _ {K C : Type 0} {cmp : K → K → Ordering} {k : K} (rows slice : List (Row K C)) (i : ℕ) (all : slice ≡ rows) where
  -- the key's row stands at the place
  pub found-at_row : (r : Row K C) → IsRowAt cmp k slice i → r ≡ get_or rows i r → find cmp k rows ≡ Some r
  found-at_row r at is = ap (find cmp k) (sym all) ∙ at.found r ∙ ap (λ l. Some (get_or l i r)) all ∙ ap Some (sym is)

  pub absent-at_gap : IsGapAt cmp k slice i → find cmp k rows ≡ None
  absent-at_gap at = ap (find cmp k) (sym all) ∙ at.absent

  -- another row, or none, in the place of the key's row
  pub put-at_row : (f : Option (Row K C) → Option (Row K C)) (new : List (Row K C)) (r : Row K C)
      (changed : Option (Row K C)) → IsRowAt cmp k slice i → r ≡ get_or rows i r → changed ≡ f (Some r)
      → new ≡ take i rows ++ cons_option changed (drop (suc i) rows) → new ≡ put cmp k (f (find cmp k rows)) rows
  put-at_row f new r changed at is made new_is = grind (arith, found-at_row)

  -- a row, or none, in the gap
  pub put-at_gap : (f : Option (Row K C) → Option (Row K C)) (new : List (Row K C)) (changed : Option (Row K C))
      → IsGapAt cmp k slice i → changed ≡ f None → new ≡ take i rows ++ cons_option changed (drop i rows)
      → new ≡ put cmp k (f (find cmp k rows)) rows
  put-at_gap f new changed at made new_is = grind (arith, absent-at_gap)

  -- nothing is made of a key without a row
  pub put-none : (f : Option (Row K C) → Option (Row K C)) → IsGapAt cmp k slice i → None ≡ f None → rows ≡ put cmp k (f (find cmp k rows)) rows
  put-none f at made = put-at_gap f rows None at made (sym (take-append-drop i rows))

-- ---- what stands at a place

module _ {X Y : Type 0} (f : X → Y) where
  pub at-place : (xs : List X) (i : ℕ) (x : X) → i < length xs → x ≡ get_or xs i x → Some (f x) ≡ slice_get (map f xs) i
  at-place [] i x below is = absurd (omega arith)
  at-place (y ∷ ys) zero x below is = ap (λ z. Some (f z)) is
  at-place (y ∷ ys) (suc i) x below is = at-place ys i x (omega arith) is

  pub past-last : (xs : List X) (i : ℕ) → length xs ≤ i → None ≡ slice_get (map f xs) i
  past-last [] i past = refl
  past-last (y ∷ ys) zero past = absurd (omega arith)
  past-last (y ∷ ys) (suc i) past = past-last ys i (omega arith)

-- ---- loops

module _ {X : Type 0} (p : X → Bool) (xs : List X) (i : ℕ) (x : X) (below : i < length xs) (is : x ≡ get_or xs i x) where
  -- one more element that is kept, and one that isn't
  pub filter-front : p x ≡ true → filter p (drop i xs) ≡ x ∷ filter p (drop (i + 1) xs)
  filter-front e = at_drop_more (filter p) xs i x below ∙ ap (λ y. filter p (y ∷ drop (i + 1) xs)) (sym is) ∙ front where
    front : filter p (x ∷ drop (i + 1) xs) ≡ x ∷ filter p (drop (i + 1) xs)
    front = rw e refl

  pub filter-over : p x ≡ false → filter p (drop i xs) ≡ filter p (drop (i + 1) xs)
  filter-over e = at_drop_more (filter p) xs i x below ∙ ap (λ y. filter p (y ∷ drop (i + 1) xs)) (sym is) ∙ over where
    over : filter p (x ∷ drop (i + 1) xs) ≡ filter p (drop (i + 1) xs)
    over = rw e refl

  pub all-front : list_all p (drop i xs) ≡ (p x && list_all p (drop (i + 1) xs))
  all-front = at_drop_more (list_all p) xs i x below ∙ ap (λ y. list_all p (y ∷ drop (i + 1) xs)) (sym is)

module _ {X Y : Type 0} (f : X → Y) (p : X
    → Bool) (xs : List X) (whole done : List Y) (i : ℕ) (x : X) (below : i < length xs) (is : x ≡ get_or xs i x)
    (so_far : whole ≡ done ++ map f (filter p (drop i xs))) where
  pub kept_more : (b : Bool) → b ≡ p x → b ≡ true → (new : List Y) → new ≡ done ++ f x ∷ [] → whole ≡ new ++ map f (filter p (drop (i + 1) xs))
  kept_more b test passed new pushed = grind (arith, filter-front, append_assoc)

  pub passed_over : (b : Bool) → b ≡ p x → b ≡ false → whole ≡ done ++ map f (filter p (drop (i + 1) xs))
  passed_over b test fails = so_far ∙ ap (λ l. done ++ map f l) (filter-over p xs i x below is (sym test ∙ fails))

-- and at the end
pub all_kept : {X Y : Type 0} (f : X → Y) (p : X → Bool) (xs : List X) (whole done : List Y) (i : ℕ) → length xs ≤ i
    → whole ≡ done ++ map f (filter p (drop i xs)) → done ≡ whole
all_kept f p xs whole done i past so_far = grind (arith, drop_all, append-nil)

-- a loop that keeps what is made of each element, if anything is
module _ {Y : Type 0} where
  append-cons_option : (xs : List Y) (o : Option Y) (ys : List Y) → (xs ++ cons_option o []) ++ ys ≡ xs ++ cons_option o ys
  append-cons_option xs None ys = ap (λ l. l ++ ys) (append-nil xs)
  append-cons_option xs (Some y) ys = append_assoc xs (y ∷ []) ys

module _ {X Y : Type 0} (f : X → Option Y) (xs : List X) (whole done : List Y) (i : ℕ) where
  pub made_more : (x : X) → i < length xs → x ≡ get_or xs i x → whole ≡ done ++ filter_map f (drop i xs)
      → (made : Option Y) → made ≡ f x → (new : List Y) → new ≡ done ++ cons_option made []
      → whole ≡ new ++ filter_map f (drop (i + 1) xs)
  made_more x below is so_far made by new pushed =
      so_far
      ∙ ap (λ l. done ++ l) (at_drop_more (filter_map f) xs i x below ∙ ap (λ y. filter_map f (y ∷ drop (i + 1) xs)) (sym is))
      ∙ ap (λ o. done ++ cons_option o (filter_map f (drop (i + 1) xs))) (sym by)
      ∙ sym (append-cons_option done made (filter_map f (drop (i + 1) xs)))
      ∙ ap (λ l. l ++ filter_map f (drop (i + 1) xs)) (sym pushed)

  pub all_made : length xs ≤ i → whole ≡ done ++ filter_map f (drop i xs) → done ≡ whole
  all_made past so_far = sym (so_far ∙ ap (λ l. done ++ filter_map f l) (drop_all i xs past) ∙ append-nil done)

-- ---- a row that is tried finds room, or none

module _ {K C : Type 0} (leave_all : Bool) (octets : C
    → ℕ) (n total : ℕ) (rows : List (Row K C)) (i : ℕ) (r : Row K C) (below : i < length rows) (is : r
    ≡ get_or rows i r) where
  pub in_round : round leave_all r.applicant ≡ n → (rest : List (Row K C))
      → first_limit leave_all octets total (rows_of_round leave_all n (drop i rows) ++ rest)
      ≡ first_limit leave_all octets total (r ∷ rows_of_round leave_all n (drop (i + 1) rows) ++ rest)
  in_round at rest = grind (arith, filter-front, eq-eqb)

  pub not_in_round : round leave_all r.applicant ≢ n → (rest : List (Row K C))
      → first_limit leave_all octets total (rows_of_round leave_all n (drop i rows) ++ rest)
      ≡ first_limit leave_all octets total (rows_of_round leave_all n (drop (i + 1) rows) ++ rest)
  not_in_round at rest = grind (arith, filter-over, ne_eqb)

  pub finds_room : round leave_all r.applicant ≡ n → total + octets r.content ≤ 1500 → (rest : List (Row K C))
      → first_limit leave_all octets total (rows_of_round leave_all n (drop i rows) ++ rest)
      ≡ first_limit leave_all octets (total + octets r.content)
      (rows_of_round leave_all n (drop (i + 1) rows) ++ rest)
  finds_room at few rest = grind (arith, in_round, nat_le, nat_tests)

  pub finds_none : round leave_all r.applicant ≡ n → 1500 < total + octets r.content → (rest : List (Row K C))
      → first_limit leave_all octets total (rows_of_round leave_all n (drop i rows) ++ rest)
      ≡ Some (record { round = n; key = r.key })
  finds_none at many rest = grind (arith, in_round, nat_le, nat_tests)

-- ---- keys that leave

keys_of_leaving_by : {K C : Type 0} (now : ℕ) (r : Row K C) (rows : List (Row K C)) (b : Bool)
    → leave_is_due now r ≡ b → filter_map (λ (r : Row K C). if leave_is_due now r then Some r.key else None) rows
    ≡ map key_of (filter (leave_is_due now) rows)
    → filter_map (λ (r : Row K C). if leave_is_due now r then Some r.key else None) (r ∷ rows)
    ≡ map key_of (filter (leave_is_due now) (r ∷ rows))
keys_of_leaving_by now r rows true due rest = rw due (ap (λ l. r.key ∷ l) rest)
keys_of_leaving_by now r rows false due rest = rw due rest

pub keys_of_leaving : {K C : Type 0} (now : ℕ) (rows : List (Row K C))
    → filter_map (λ (r : Row K C). if leave_is_due now r then Some r.key else None) rows
    ≡ map key_of (filter (leave_is_due now) rows)
keys_of_leaving now [] = refl
keys_of_leaving now (r ∷ rows) = keys_of_leaving_by now r rows (leave_is_due now r) refl (keys_of_leaving now rows)
