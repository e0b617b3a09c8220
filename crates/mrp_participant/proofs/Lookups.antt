-- Rows ascending by key: the place of a key, and what `put` leaves at each key.
use Rattle.std.proofs.Common.{◌≡◌, ℕ, zero, suc, ◌+◌, ◌<◌, ◌≤◌, Bool, true, false, if◌then◌else◌, List, [], ◌∷◌, length, map, filter, fold, drop, drop-cons, get_or, refl, sym, ap, ◌∙◌, subst, arith, add-one}
use Rattle.std.specs.{declared.option.Option.Option, declared.option.Option.TheVariants.None, declared.option.Option.TheVariants.Some, declared.cmp.Ordering.Ordering, declared.cmp.Ordering.TheVariants.Less, declared.cmp.Ordering.TheVariants.Equal, declared.cmp.Ordering.TheVariants.Greater, Ordering.is_eq, Ordering.is_lt, Ordering.ordering_index, Ordering.ordering_reverse, Cmp.IsTotalOrder, List.cons_option, List.filter_map, List.Sorted.IsPartitionPoint, List.Sorted.IsNonDecreasingBy, List.Sorted.IsSortedBy, List.AllByRecursion}
use Rattle.std.proofs.lemmas.{Cmp.alike_right, Cmp.tied_back, List.Sorted.searchable_from_sorted}
use Rattle.srp_base.proofs.Lists.{Each-map, Each-at}
use Rattle.mrp_participant.specs.declared.row.Row.{Row}
use Rattle.mrp_participant.specs.{Ascends, key_of, same, find, put, put_at, IsRowAt, IsGapAt, is_live, AreRows}

-- ---- a fact of each element

pub Each-mapped : {X Y : Type 0} (P : X → Type 0) (Q : Y → Type 0) (f : X → Y) → ((x : X) → P x → Q (f x))
    → (xs : List X) → AllByRecursion P xs → AllByRecursion Q (map f xs)
Each-mapped P Q f step [] h = tt
Each-mapped P Q f step (x ∷ xs) h = (step x h.0, Each-mapped P Q f step xs h.1)

pub Each-cons_option : {X : Type 0} (P : X → Type 0) (new : Option X) (xs : List X) → ((x : X) → new ≡ Some x → P x)
    → AllByRecursion P xs → AllByRecursion P (cons_option new xs)
Each-cons_option P None xs n h = h
Each-cons_option P (Some x) xs n h = (n x refl, h)

pub Each-kept : {X Y : Type 0} (P : X → Type 0) (Q : Y → Type 0) (f : X → Option Y)
    → ((x : X) (y : Y) → P x → f x ≡ Some y → Q y) → (xs : List X) → AllByRecursion P xs
    → AllByRecursion Q (filter_map f xs)
Each-kept P Q f step [] h = tt
Each-kept P Q f step (x ∷ xs) h = Each-cons_option Q (f x) (filter_map f xs) (λ y e. step x y h.0 e) (Each-kept P Q f step xs h.1)

Ascends-consed : {Y K : Type 0} (cmp : K → K → Ordering) (key : Y → K) (new : Option Y) (ys : List Y)
    → ((y : Y) → new ≡ Some y → AllByRecursion (λ z. cmp (key y) (key z) ≡ Less) ys) → Ascends cmp key ys
    → Ascends cmp key (cons_option new ys)
Ascends-consed cmp key None ys above up = up
Ascends-consed cmp key (Some y) ys above up = (above y refl, up)

-- what is kept of ascending elements, each with its key, ascends
pub Ascends-kept : {X Y K : Type 0} (cmp : K → K → Ordering) (key : X → K) (new_key : Y → K) (f : X → Option Y)
    → ((x : X) (y : Y) → f x ≡ Some y → new_key y ≡ key x) → (xs : List X) → Ascends cmp key xs
    → Ascends cmp new_key (filter_map f xs)
Ascends-kept cmp key new_key f keeps [] up = tt
Ascends-kept cmp key new_key f keeps (x ∷ xs) up =
    Ascends-consed cmp new_key (f x) (filter_map f xs)
    (λ y e. Each-kept (λ z. cmp (key x) (key z) ≡ Less) (λ z. cmp (new_key y) (new_key z) ≡ Less) f
    (λ a b h e'. subst (λ k. cmp k (new_key b) ≡ Less) (sym (keeps x y e))
    (subst (λ k. cmp (key x) k ≡ Less) (sym (keeps a b e')) h)) xs up.0)
    (Ascends-kept cmp key new_key f keeps xs up.1)

-- what no element passes keeps none
pub filter-none : {X : Type 0} (p : X → Bool) (xs : List X) → AllByRecursion (λ x. p x ≡ false) xs → filter p xs ≡ []
filter-none p [] h = refl
filter-none p (x ∷ xs) h = ap (λ b. if b then x ∷ filter p xs else filter p xs) h.0 ∙ filter-none p xs h.1

-- ---- a loop that folds a list

pub fold-step : {A B : Type 0} (f : B → A → B) (start at : B) (xs : List A) (i : ℕ) (x : A) → i < length xs
    → x ≡ get_or xs i x → fold f start xs ≡ fold f at (drop i xs)
    → fold f start xs ≡ fold f (f at x) (drop (i + 1) xs)
fold-step f start at xs i x below is h = grind (arith, add-one, drop-cons)

-- a key below another is not the same, seen from the other
pub above_is_not_same : {K : Type 0} {cmp : K → K → Ordering} → IsTotalOrder cmp → (a b : K) → cmp a b ≡ Less → same cmp b a ≡ false
above_is_not_same o a b h = ap is_eq (o.antisymm b a ∙ ap ordering_reverse h)

same_by : {K : Type 0} (cmp : K → K → Ordering) (a b : K) (c : Ordering) → cmp a b ≡ c → is_eq c ≡ true → cmp a b ≡ Equal
same_by cmp a b Less e h = cc
same_by cmp a b Equal e h = e
same_by cmp a b Greater e h = cc

pub same_is : {K : Type 0} (cmp : K → K → Ordering) (a b : K) → same cmp a b ≡ true → cmp a b ≡ Equal
same_is cmp a b h = same_by cmp a b (cmp a b) refl h

pub same_left : {K : Type 0} {cmp : K → K → Ordering} → IsTotalOrder cmp → (a b q : K) → cmp a b ≡ Equal → same cmp a q ≡ same cmp b q
same_left o a b q e = ap is_eq (o.congr a b q e)

swap_tests : {X : Type 0} (a b : Bool) (x y z : X) → (a ≡ true → b ≡ true → ⊥)
    → (if a then x else (if b then y else z)) ≡ (if b then y else (if a then x else z))
swap_tests true true x y z never = absurd (never refl refl)
swap_tests true false x y z never = refl
swap_tests false b x y z never = refl

same_tests : {X : Type 0} (a b : Bool) (x y z : X) → b ≡ a → (if a then x else z) ≡ (if a then x else (if b then y else z))
same_tests true b x y z e = refl
same_tests false b x y z e = rw e refl

module _ {K C : Type 0} {cmp : K → K → Ordering} (o : IsTotalOrder cmp) where
  pub find-above : (k : K) (rows : List (Row K C)) → AllByRecursion (λ y. cmp k y.key ≡ Less) rows → find cmp k rows ≡ None
  find-above k [] h = refl
  find-above k (r ∷ rows) h = rw (above_is_not_same o k r.key h.0) (find-above k rows h.1)

  put-above : (k : K) (new : Option (Row K C)) (rows : List (Row K C)) → AllByRecursion (λ y. cmp k y.key ≡ Less) rows
      → put cmp k new rows ≡ cons_option new rows
  put-above k new [] h = refl
  put-above k new (r ∷ rows) h = rw (o.antisymm r.key k ∙ ap ordering_reverse h.0) refl

  -- the row at a place whose key is k
  pub row_at : (k : K) (rows : List (Row K C)) (i : ℕ) → Ascends cmp key_of rows → i < length rows
      → ((d : Row K C) → cmp (get_or rows i d).key k ≡ Equal) → IsRowAt cmp k rows i
  row_at k [] i up below at = absurd (omega arith)
  row_at k (r ∷ rows) zero up below at =
      record { within = below; found = λ d. rw (at d) refl; replaced = λ new. rw (at r) refl }
  row_at k (r ∷ rows) (suc i) up below at =
      let less : cmp r.key k ≡ Less = sym (alike_right o (get_or rows i r).key k r.key (at r)) ∙ Each-at _ rows up.0 i r (omega arith) in
      let rest : IsRowAt cmp k rows i = row_at k rows i up.1 (omega arith) at in
      record {
        within = below;
        found = λ d. rw less (rest.found d);
        replaced = λ new. rw less (ap (λ later. r ∷ later) (rest.replaced new));
      }

  -- all rows after one that is above k are above k
  pub above_all : (k : K) (r : Row K C) (rows : List (Row K C)) → cmp k r.key ≡ Less
      → AllByRecursion (λ y. cmp r.key y.key ≡ Less) rows → AllByRecursion (λ y. cmp k y.key ≡ Less) rows
  above_all k r rows less up = Each-map _ _ (λ y h. o.trans k r.key y.key less h) rows up

  -- the gap between the rows below k and those above it
  pub gap_at : (k : K) (rows : List (Row K C)) (i : ℕ) → Ascends cmp key_of rows → i ≤ length rows
      → IsPartitionPoint (λ (y : Row K C). cmp y.key k ≡ Less) (λ y. cmp y.key k ≡ Greater) rows i
      → IsGapAt cmp k rows i
  gap_at k [] zero up below at = record { within = below; absent = refl; filled = λ new. refl }
  gap_at k [] (suc i) up below at = absurd (omega arith)
  gap_at k (r ∷ rows) zero up below at =
      let greater : cmp r.key k ≡ Greater = at.1 zero r (omega arith) (omega arith) in
      let less : cmp k r.key ≡ Less = o.antisymm k r.key ∙ ap ordering_reverse greater in
      record {
        within = below;
        absent = rw greater (find-above k rows (above_all k r rows less up.0));
        filled = λ new. rw greater refl;
      }
  gap_at k (r ∷ rows) (suc i) up below at =
      let less : cmp r.key k ≡ Less = at.0 zero r (omega arith) (omega arith) in
      let rest : IsGapAt cmp k rows i =
      gap_at k rows i up.1 (omega arith) (
        λ j d low high. at.0 (suc j) d (omega arith) (omega arith),
        λ j d low high. at.1 (suc j) d (omega arith) (omega arith),
      ) in
      record {
        within = below;
        absent = rw less rest.absent;
        filled = λ new. rw less (ap (λ later. r ∷ later) (rest.filled new));
      }

  -- rows that ascend by key are in order for a binary search
  pub rises : (k : K) (rows : List (Row K C)) → Ascends cmp key_of rows → IsNonDecreasingBy (λ (y : Row K C). ordering_index (cmp y.key k)) rows
  rises k rows up = searchable_from_sorted o key_of rows k (sorted rows up)
    where
      sorted : (rows : List (Row K C)) → Ascends cmp key_of rows → IsSortedBy (λ (a b : Row K C). is_lt (cmp a.key b.key)) rows
      sorted [] up i d low high = absurd (omega arith)
      sorted (r ∷ []) up zero d low high = absurd (omega arith)
      sorted (r ∷ q ∷ rows) up zero d low high = ap is_lt (o.antisymm q.key r.key ∙ ap ordering_reverse up.0.0)
      sorted (r ∷ rows) up (suc i) d low high = rw (add-one (suc i)) (rw (add-one i) at (sorted rows up.1 i d (omega arith) (omega arith)))

  -- ---- what is kept at each key

  -- rows above a key are above each key that is the same
  pub above_same : (k q : K) (rows : List (Row K C)) → cmp k q ≡ Equal → AllByRecursion (λ y. cmp k y.key ≡ Less) rows
      → AllByRecursion (λ y. cmp q y.key ≡ Less) rows
  above_same k q rows e up = Each-map _ _ (λ y h. sym (o.congr k q y.key e) ∙ h) rows up

  -- the row is one of the key
  abbrev pub IsOf : K → Option (Row K C) → Type 0
  IsOf k new = (r : Row K C) → new ≡ Some r → cmp r.key k ≡ Equal

  pub none_above : (k q : K) (rows : List (Row K C)) → AllByRecursion (λ y. cmp k y.key ≡ Less) rows → same cmp k q ≡ true → find cmp q rows ≡ None
  none_above k q rows up e = find-above q rows (above_same k q rows (same_is cmp k q e) up)

  find-front_by : (k q : K) (new : Option (Row K C)) (rows : List (Row K C)) (b : Bool) → same cmp k q ≡ b
      → (b ≡ true → find cmp q rows ≡ None) → IsOf k new
      → find cmp q (cons_option new rows) ≡ (if b then new else find cmp q rows)
  find-front_by k q None rows true e none of = none refl
  find-front_by k q None rows false e none of = refl
  find-front_by k q (Some n) rows b e none of = ap (λ t. if t then Some n else find cmp q rows) (same_left o n.key k q (of n refl) ∙ e)

  find-front : (k q : K) (new : Option (Row K C)) (rows : List (Row K C))
      → (same cmp k q ≡ true → find cmp q rows ≡ None) → IsOf k new
      → find cmp q (cons_option new rows) ≡ (if same cmp k q then new else find cmp q rows)
  find-front k q new rows none of = find-front_by k q new rows (same cmp k q) refl none of

  find-put_at : (k q : K) (new : Option (Row K C)) (r : Row K C) (rows later : List (Row K C)) (c : Ordering)
      → cmp r.key k ≡ c → IsOf k new → Ascends cmp key_of (r ∷ rows)
      → find cmp q later ≡ (if same cmp k q then new else find cmp q rows)
      → find cmp q (put_at c new r rows later) ≡ (if same cmp k q then new else find cmp q (r ∷ rows))
  find-put_at k q new r rows later Less c of up rest = grind (arith, swap_tests, alike_right, same_is)
  find-put_at k q new r rows later Equal c of up rest =
      find-front k q new rows (λ e. none_above r.key q rows up.0 (same_left o r.key k q c ∙ e)) of
      ∙ same_tests (same cmp k q) (same cmp r.key q) new (Some r) (find cmp q rows) (same_left o r.key k q c)
  find-put_at k q new r rows later Greater c of up rest =
      let less : cmp k r.key ≡ Less = o.antisymm k r.key ∙ ap ordering_reverse c in
      find-front k q new (r ∷ rows) (none_above k q (r ∷ rows) (less, above_all k r rows less up.0)) of

  -- a key has what was put for it, and each other key has what it had
  pub find-put : (k q : K) (new : Option (Row K C)) (rows : List (Row K C)) → IsOf k new → Ascends cmp key_of rows
      → find cmp q (put cmp k new rows) ≡ (if same cmp k q then new else find cmp q rows)
  find-put k q new [] of up = find-front k q new [] (λ e. refl) of
  find-put k q new (r ∷ rows) of up = find-put_at k q new r rows (put cmp k new rows) (cmp r.key k) refl of up (find-put k q new rows of up.1)

  -- ---- rows stay rows

  Each-put_at : (P : Row K C → Type 0) (new : Option (Row K C)) (r : Row K C) (rows later : List (Row K C))
      (c : Ordering) → ((n : Row K C) → new ≡ Some n → P n) → AllByRecursion P (r ∷ rows) → AllByRecursion P later
      → AllByRecursion P (put_at c new r rows later)
  Each-put_at P new r rows later Less n h rest = (h.0, rest)
  Each-put_at P new r rows later Equal n h rest = Each-cons_option P new rows n h.1
  Each-put_at P new r rows later Greater n h rest = Each-cons_option P new (r ∷ rows) n h

  pub Each-put : (P : Row K C → Type 0) (k : K) (new : Option (Row K C)) (rows : List (Row K C))
      → ((n : Row K C) → new ≡ Some n → P n) → AllByRecursion P rows → AllByRecursion P (put cmp k new rows)
  Each-put P k new [] n h = Each-cons_option P new [] n tt
  Each-put P k new (r ∷ rows) n h = Each-put_at P new r rows (put cmp k new rows) (cmp r.key k) n h (Each-put P k new rows n h.1)

  Ascends-front : (k : K) (new : Option (Row K C)) (rows : List (Row K C)) → IsOf k new
      → AllByRecursion (λ y. cmp k y.key ≡ Less) rows → Ascends cmp key_of rows
      → Ascends cmp key_of (cons_option new rows)
  Ascends-front k None rows of above up = up
  Ascends-front k (Some n) rows of above up = (above_same k n.key rows (tied_back o n.key k (of n refl)) above, up)

  Ascends-put_at : (k : K) (new : Option (Row K C)) (r : Row K C) (rows later : List (Row K C)) (c : Ordering)
      → cmp r.key k ≡ c → IsOf k new → Ascends cmp key_of (r ∷ rows)
      → (cmp r.key k ≡ Less → AllByRecursion (λ y. cmp r.key y.key ≡ Less) later) → Ascends cmp key_of later
      → Ascends cmp key_of (put_at c new r rows later)
  Ascends-put_at k new r rows later Less c of up above rest = (above c, rest)
  Ascends-put_at k new r rows later Equal c of up above rest = Ascends-front k new rows of (above_same r.key k rows c up.0) up.1
  Ascends-put_at k new r rows later Greater c of up above rest =
      let less : cmp k r.key ≡ Less = o.antisymm k r.key ∙ ap ordering_reverse c in
      Ascends-front k new (r ∷ rows) of (less, above_all k r rows less up.0) up

  pub Ascends-put : (k : K) (new : Option (Row K C)) (rows : List (Row K C)) → IsOf k new → Ascends cmp key_of rows → Ascends cmp key_of (put cmp k new rows)
  Ascends-put k new [] of up = Ascends-front k new [] of tt tt
  Ascends-put k new (r ∷ rows) of up =
      Ascends-put_at k new r rows (put cmp k new rows) (cmp r.key k) refl of up
      (λ c. Each-put (λ y. cmp r.key y.key ≡ Less) k new rows (λ n e. alike_right o n.key k r.key (of n e) ∙ c) up.0) (Ascends-put k new rows of up.1)

  -- a row of the key that keeps something
  pub record Fits (k : K) (new : Option (Row K C)) : Type 0 where
    pub is_of : IsOf k new
    pub lives : (r : Row K C) → new ≡ Some r → is_live r ≡ true

  pub AreRows-put : (k : K) (new : Option (Row K C)) (rows : List (Row K C)) → Fits k new → AreRows cmp rows → AreRows cmp (put cmp k new rows)
  AreRows-put k new rows fits are = (Ascends-put k new rows fits.is_of are.0, Each-put (λ r. is_live r ≡ true) k new rows fits.lives are.1)

  -- the row that is found is one of the key, and keeps something
  find-is_of_by : (k : K) (r : Row K C) (rows : List (Row K C)) (b : Bool) → same cmp r.key k ≡ b → is_live r ≡ true
      → AllByRecursion (λ r. is_live r ≡ true) rows → Fits k (find cmp k rows)
      → Fits k (if b then Some r else find cmp k rows)
  find-is_of_by k r rows true e live lives rest =
      record {
        is_of = λ n h. let same_row : r
            ≡ n = cc in subst (λ x. cmp x.key k ≡ Equal) same_row (same_is cmp r.key k e);
        lives = λ n h. let same_row : r ≡ n = cc in subst (λ x. is_live x ≡ true) same_row live;
      }
  find-is_of_by k r rows false e live lives rest = rest

  pub find-fits : (k : K) (rows : List (Row K C)) → AllByRecursion (λ r. is_live r ≡ true) rows → Fits k (find cmp k rows)
  find-fits k [] live = record { is_of = λ n h. cc; lives = λ n h. cc }
  find-fits k (r ∷ rows) live = find-is_of_by k r rows (same cmp r.key k) refl live.0 live.1 (find-fits k rows live.1)

  -- keys that are the same have the same row
  pub find-same : (a b : K) (rows : List (Row K C)) → cmp a b ≡ Equal → find cmp a rows ≡ find cmp b rows
  find-same a b [] e = refl
  find-same a b (r ∷ rows) e = rw (ap is_eq (alike_right o a b r.key e)) (ap (λ t. if same cmp r.key b then Some r else t) (find-same a b rows e))
