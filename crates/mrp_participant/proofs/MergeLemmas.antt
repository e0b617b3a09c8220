-- Two ascending lists of rows as one: how many rows that has, its last row, and the merge from the back, in the place
-- of the second list.
use Rattle.std.proofs.Common.{◌≡◌, ℕ, zero, suc, ◌+◌, ◌-◌, ◌<◌, ◌≤◌, Bool, true, false, if◌then◌else◌, List, [], ◌∷◌, ◌++◌, append_assoc, length, take, drop, get_or, slice_set, replicate, refl, sym, ap, ◌∙◌, subst, arith}
use Rattle.std.specs.{declared.option.Option.Option, declared.option.Option.TheVariants.None, declared.option.Option.TheVariants.Some, declared.cmp.Ordering.Ordering, declared.cmp.Ordering.TheVariants.Less, declared.cmp.Ordering.TheVariants.Equal, declared.cmp.Ordering.TheVariants.Greater, Ordering.match_ordering, Cmp.IsTotalOrder, List.AllByRecursion}
use Rattle.std.proofs.lemmas.{Cmp.alike_right, List.take_more, List.take-set-le, List.take-take, List.take_all, List.take_at, List.drop-set, List.length-set, List.length_push, List.length-take-le, List.length-append, List.length-replicate, List.take-append-drop}
use Rattle.srp_base.proofs.Lists.{Each-map}
use Rattle.mrp_participant.specs.declared.row.Row.{Row}
use Rattle.mrp_participant.specs.{Ascends, key_of, same, find, first_of, rows_as_one}
use Rattle.mrp_participant.proofs.{Lookups.same_is, Lookups.same_left, Hearings.less_back, Hearings.first-none, Hearings.first-if, Hearings.rows-same, Hearings.find-merged, Hearings.each-merged, Hearings.Ascends-merged}

-- ---- the first so many, and a last one

module _ {X : Type 0} (P : X → Type 0) where
  each-before : (xs : List X) (x : X) → AllByRecursion P (xs ++ x ∷ []) → AllByRecursion P xs
  each-before [] x h = tt
  each-before (y ∷ xs) x h = (h.0, each-before xs x h.1)

  each-last : (xs : List X) (x : X) → AllByRecursion P (xs ++ x ∷ []) → P x
  each-last [] x h = h.0
  each-last (y ∷ xs) x h = each-last xs x h.1

  each-pushed : (xs : List X) (x : X) → AllByRecursion P xs → P x → AllByRecursion P (xs ++ x ∷ [])
  each-pushed [] x h last = (last, tt)
  each-pushed (y ∷ xs) x h last = (h.0, each-pushed xs x h.1 last)

  each-front : (xs : List X) (n : ℕ) → AllByRecursion P xs → AllByRecursion P (take n xs)
  each-front [] zero h = tt
  each-front [] (suc n) h = tt
  each-front (x ∷ xs) zero h = tt
  each-front (x ∷ xs) (suc n) h = (h.0, each-front xs n h.1)

-- the first so many with the last of them apart
pub split-last : {X : Type 0} (xs : List X) (j : ℕ) (x : X) → 0 < j → j ≤ length xs → x ≡ get_or xs (j - 1) x → take j xs ≡ take (j - 1) xs ++ x ∷ []
split-last xs j x more within is = grind (arith, take_more)

module _ {K C : Type 0} (cmp : K → K → Ordering) where
  -- all of some rows are below a key
  abbrev pub AllBelow : K → List (Row K C) → Type 0
  AllBelow k rows = AllByRecursion (λ y. cmp y.key k ≡ Less) rows

  pub Ascends-front : (rows : List (Row K C)) (n : ℕ) → Ascends cmp key_of rows → Ascends cmp key_of (take n rows)
  Ascends-front [] zero up = tt
  Ascends-front [] (suc n) up = tt
  Ascends-front (r ∷ rows) zero up = tt
  Ascends-front (r ∷ rows) (suc n) up = (each-front (λ y. cmp r.key y.key ≡ Less) rows n up.0, Ascends-front rows n up.1)

  ascends-before : (rows : List (Row K C)) (x : Row K C) → Ascends cmp key_of (rows ++ x ∷ []) → Ascends cmp key_of rows
  ascends-before [] x up = tt
  ascends-before (r ∷ rows) x up = (each-before (λ y. cmp r.key y.key ≡ Less) rows x up.0, ascends-before rows x up.1)

  below-last : (rows : List (Row K C)) (x : Row K C) → Ascends cmp key_of (rows ++ x ∷ []) → AllBelow x.key rows
  below-last [] x up = tt
  below-last (r ∷ rows) x up = (each-last (λ y. cmp r.key y.key ≡ Less) rows x up.0, below-last rows x up.1)

  Ascends-pushed : (rows : List (Row K C)) (x : Row K C) → Ascends cmp key_of rows → AllBelow x.key rows → Ascends cmp key_of (rows ++ x ∷ [])
  Ascends-pushed [] x up below = (tt, tt)
  Ascends-pushed (r ∷ rows) x up below =
      (each-pushed (λ y. cmp r.key y.key ≡ Less) rows x up.0 below.0, Ascends-pushed rows x up.1 below.1)

  find-append : (k : K) (xs ys : List (Row K C)) → find cmp k (xs ++ ys) ≡ first_of (find cmp k xs) (find cmp k ys)
  find-append k [] ys = refl
  find-append k (x ∷ xs) ys = grind (arith, find-append k xs ys, first-if)

  find-below : (k : K) (rows : List (Row K C)) → AllBelow k rows → find cmp k rows ≡ None
  find-below k [] h = refl
  find-below k (r ∷ rows) h = rw h.0 (find-below k rows h.1)

  -- ---- how many rows two lists are as one

  long-step : (x y : Row K C) (ys first second rest : List (Row K C)) (c : Ordering) → length (y ∷ ys) ≤ length first
      → length ys ≤ length second → length ys ≤ length rest
      → length (y ∷ ys) ≤ length (match_ordering c (x ∷ first) (x ∷ second) (y ∷ rest))
  long-step x y ys first second rest Less a b d = omega arith
  long-step x y ys first second rest Equal a b d = omega arith
  long-step x y ys first second rest Greater a b d = omega arith

  long-merged_into : (x : Row K C) (xs ys : List (Row K C))
      → ((ys : List (Row K C)) → length ys ≤ length (rows_as_one cmp xs ys))
      → length ys ≤ length (rows_as_one cmp (x ∷ xs) ys)
  long-merged_into x xs [] rest = omega arith
  long-merged_into x xs (y ∷ ys) rest = grind (arith, long-merged_into x xs ys rest, long-step)

  -- they are as many as the second has, or more
  pub long-merged : (xs ys : List (Row K C)) → length ys ≤ length (rows_as_one cmp xs ys)
  long-merged [] ys = omega arith
  long-merged (x ∷ xs) ys = long-merged_into x xs ys (long-merged xs)

-- ---- the last row of two lists as one

module _ {X : Type 0} where
  first-assoc : (a b c : Option X) → first_of a (first_of b c) ≡ first_of (first_of a b) c
  first-assoc None b c = refl
  first-assoc (Some x) b c = refl

  later_first : (b : Bool) (x : X) (a f : Option X) → (b ≡ true → f ≡ None)
      → first_of (first_of a (if b then Some x else None)) f ≡ first_of (first_of a f) (if b then Some x else None)
  later_first true x None f none = ap (λ g. first_of g (Some x)) (sym (none refl))
  later_first true x (Some y) f none = refl
  later_first false x a f none = ap (λ g. first_of g f) (first-none a) ∙ sym (first-none (first_of a f))

  later_both : (b b' : Bool) (x y : X) (a f : Option X) → b ≡ b' → (b ≡ true → f ≡ None)
      → first_of (first_of a (if b then Some x else None)) (first_of f (if b' then Some y else None))
      ≡ first_of (first_of a f) (if b then Some x else None)
  later_both true b' x y None f e none = ap (λ g. first_of g (Some x)) (sym (none refl))
  later_both true b' x y (Some z) f e none = refl
  later_both false true x y a f e none = cc
  later_both false false x y a f e none = grind (arith, first-none)

module _ {K C : Type 0} {cmp : K → K → Ordering} (o : IsTotalOrder cmp) where
  below_more : (k q : K) (rows : List (Row K C)) → cmp k q ≡ Less → AllBelow cmp k rows → AllBelow cmp q rows
  below_more k q rows less h = Each-map _ _ (λ y h. o.trans y.key k q h less) rows h

  below_same : (k q : K) (rows : List (Row K C)) → cmp k q ≡ Equal → AllBelow cmp k rows → AllBelow cmp q rows
  below_same k q rows e h = Each-map _ _ (λ y h. sym (alike_right o k q y.key e) ∙ h) rows h

  none_below : (k q : K) (rows : List (Row K C)) → AllBelow cmp k rows → same cmp k q ≡ true → find cmp q rows ≡ None
  none_below k q rows h at = find-below cmp q rows (below_same k q rows (same_is cmp k q at) h)

  -- a row is the last where it is above all others, and each key has what it had
  last_by : (xs ys before before' : List (Row K C)) (z : Row K C) → Ascends cmp key_of xs → Ascends cmp key_of ys
      → Ascends cmp key_of before → Ascends cmp key_of before' → AllBelow cmp z.key before → AllBelow cmp z.key before'
      → ((k : K) → first_of (find cmp k xs) (find cmp k ys)
      ≡ first_of (first_of (find cmp k before) (find cmp k before')) (find cmp k (z ∷ [])))
      → rows_as_one cmp xs ys ≡ rows_as_one cmp before before' ++ z ∷ []
  last_by xs ys before before' z up up' front front' below below' each =
      rows-same o (rows_as_one cmp xs ys) (rows_as_one cmp before before' ++ z ∷ []) (Ascends-merged o xs ys up up')
      (Ascends-pushed cmp (rows_as_one cmp before before') z (Ascends-merged o before before' front front')
      (each-merged o (λ y. cmp y.key z.key ≡ Less) before before' below below'))
      (λ k. find-merged o k xs ys up up'
      ∙ (each k
      ∙ sym (find-append cmp k (rows_as_one cmp before before') (z ∷ [])
      ∙ ap (λ f. first_of f (find cmp k (z ∷ []))) (find-merged o k before before' front front'))))

  module _ (xs ys before before' : List (Row K C)) (x y : Row K C) (is : xs ≡ before ++ x ∷ [])
      (is' : ys ≡ before' ++ y ∷ []) (up : Ascends cmp key_of xs) (up' : Ascends cmp key_of ys) where
    front : Ascends cmp key_of before
    front = ascends-before cmp before x (subst (Ascends cmp key_of) is up)

    front' : Ascends cmp key_of before'
    front' = ascends-before cmp before' y (subst (Ascends cmp key_of) is' up')

    below : AllBelow cmp x.key before
    below = below-last cmp before x (subst (Ascends cmp key_of) is up)

    below' : AllBelow cmp y.key before'
    below' = below-last cmp before' y (subst (Ascends cmp key_of) is' up')

    has : (k : K) → find cmp k xs ≡ first_of (find cmp k before) (find cmp k (x ∷ []))
    has k = ap (find cmp k) is ∙ find-append cmp k before (x ∷ [])

    has' : (k : K) → find cmp k ys ≡ first_of (find cmp k before') (find cmp k (y ∷ []))
    has' k = ap (find cmp k) is' ∙ find-append cmp k before' (y ∷ [])

    pub last-of_second : cmp x.key y.key ≡ Less → rows_as_one cmp xs ys ≡ rows_as_one cmp xs before' ++ y ∷ []
    last-of_second less =
        last_by xs ys xs before' y up up' up front'
        (subst (AllBelow cmp y.key) (sym is)
        (each-pushed (λ z. cmp z.key y.key ≡ Less) before x (below_more x.key y.key before less below) less)) below'
        (λ k. ap (first_of (find cmp k xs)) (has' k) ∙ first-assoc (find cmp k xs) (find cmp k before') (find cmp k (y ∷ [])))

    pub last-of_both : cmp x.key y.key ≡ Equal → rows_as_one cmp xs ys ≡ rows_as_one cmp before before' ++ x ∷ []
    last-of_both e =
        let under : AllBelow cmp x.key before' = Each-map _ _ (λ z h. alike_right o x.key y.key z.key e ∙ h) before' below' in
        last_by xs ys before before' x up up' front front' below under
        (λ k. ap (λ f. first_of f (find cmp k ys)) (has k)
        ∙ (ap (first_of (first_of (find cmp k before) (find cmp k (x ∷ [])))) (has' k)
        ∙ later_both (same cmp x.key k) (same cmp y.key k) x y (find cmp k before) (find cmp k before')
        (same_left o x.key y.key k e) (none_below x.key k before' under)))

    pub last-of_first : cmp x.key y.key ≡ Greater → rows_as_one cmp xs ys ≡ rows_as_one cmp before ys ++ x ∷ []
    last-of_first greater =
        let less : cmp y.key x.key ≡ Less = less_back o x.key y.key greater in
        let under : AllBelow cmp x.key ys = subst (AllBelow cmp x.key) (sym is')
        (each-pushed (λ z. cmp z.key x.key ≡ Less) before' y (below_more y.key x.key before' less below') less) in
        last_by xs ys before ys x up up' front up' below under
        (λ k. ap (λ f. first_of f (find cmp k ys)) (has k)
        ∙ later_first (same cmp x.key k) x (find cmp k before) (find cmp k ys) (none_below x.key k ys under))

-- ---- the merge from the back

-- what is made is the first j of xs and the first i of the rows as one, and behind that the rows from w on
pub record MergesBack {K C : Type 0} (cmp : K → K → Ordering) (xs made rows : List (Row K C)) (i j w : ℕ) : Type 0 where
  pub whole : made ≡ rows_as_one cmp (take j xs) (take i rows) ++ drop w rows
  pub place : w ≡ length (rows_as_one cmp (take j xs) (take i rows))
  pub ascends : Ascends cmp key_of (take i rows)
  pub before : i ≤ length rows
  pub over : j ≤ length xs
  pub end : w ≤ length rows

module _ {K C : Type 0} (cmp : K → K → Ordering) (xs made rows : List (Row K C)) (i j w : ℕ) (so_far : MergesBack cmp xs made rows i j w) where
  -- one row more is in its place
  module _ (row : Row K C) (i' j' : ℕ) (fewer : i' ≤ i) (fewer' : j' ≤ j)
      (last : rows_as_one cmp (take j xs) (take i rows) ≡ rows_as_one cmp (take j' xs) (take i' rows) ++ row ∷ []) where
    place-before : w ≡ length (rows_as_one cmp (take j' xs) (take i' rows)) + 1
    place-before = so_far.place ∙ ap length last ∙ length_push (rows_as_one cmp (take j' xs) (take i' rows)) row

    pub some-before : 0 < w
    some-before = let place = place-before in omega arith

    read_before : i' ≤ w - 1
    read_before =
        let place = place-before in
        let within = so_far.before in
        let count : length (take i' rows) ≡ i' = length-take-le i' rows (omega arith) in
        let long = long-merged cmp (take j' xs) (take i' rows) in
        omega arith

    pub back-more : (new : List (Row K C)) → new ≡ slice_set rows (w - 1) row → MergesBack cmp xs made new i' j' (w - 1)
    back-more new is =
        let place = place-before in
        let some = some-before in
        let read = read_before in
        let within = so_far.before in
        let within' = so_far.over in
        let under = so_far.end in
        let long : length new ≡ length rows = ap length is ∙ length-set rows (w - 1) row in
        let on : w - 1 + 1 ≡ w = omega arith in
        let same_front : take i' new ≡ take i' rows = ap (take i') is ∙ take-set-le i' rows (w - 1) row read in
        let behind : drop (w - 1) new ≡ row ∷ drop w rows =
        ap (drop (w - 1)) is ∙ drop-set rows (w - 1) row (omega arith) ∙ ap (λ n. row ∷ drop n rows) on in
        record {
          whole =
              so_far.whole
              ∙ ap (λ l. l ++ drop w rows) last
              ∙ append_assoc (rows_as_one cmp (take j' xs) (take i' rows)) (row ∷ []) (drop w rows)
              ∙ ap (λ l. rows_as_one cmp (take j' xs) (take i' rows) ++ l) (sym behind)
              ∙ ap (λ l. rows_as_one cmp (take j' xs) l ++ drop (w - 1) new) (sym same_front);
          place = subst (λ l. w - 1 ≡ length (rows_as_one cmp (take j' xs) l)) (sym same_front) (omega arith);
          ascends =
              subst (Ascends cmp key_of) (sym same_front)
              (subst (Ascends cmp key_of) (take-take i' i rows fewer) (Ascends-front cmp (take i rows) i' so_far.ascends));
          before = omega arith;
          over = omega arith;
          end = omega arith;
        }

  -- none is left to put in
  pub back-all : j ≡ 0 → rows ≡ made
  back-all none = grind (arith, length-take-le, take-append-drop)

-- ---- the room

-- the rows with room for those of xs: a row is put behind them so often that there are n
module _ {K C : Type 0} (cmp : K → K → Ordering) (xs rows slice new : List (Row K C)) (row : Row K C) (n m count : ℕ)
    (is : new ≡ take n rows ++ replicate (n - m) row) (all : m ≡ length rows) (at : count ≡ m)
    (same_rows : slice ≡ rows) (counted : n ≡ length (rows_as_one cmp xs slice)) where
  long : n ≡ length (rows_as_one cmp xs rows)
  long = counted ∙ ap (λ l. length (rows_as_one cmp xs l)) same_rows

  behind-rows : new ≡ rows ++ replicate (n - m) row
  behind-rows = let more = long-merged cmp xs rows in let wanted = long in is ∙ ap (λ l. l ++ replicate (n - m) row) (take_all n rows (omega arith))

  room-length : length new ≡ n
  room-length = grind (arith, long-merged, long, behind-rows, length-append, length-replicate)

  pub room-front : take count new ≡ rows
  room-front = ap (take count) behind-rows ∙ take_at rows (replicate (n - m) row) count (omega arith)

  pub room-within : count ≤ length new
  room-within = let more = long-merged cmp xs rows in let wanted = long in let all_new = room-length in omega arith

  pub room-for_all : length new ≡ length (rows_as_one cmp xs (take count new))
  room-for_all = room-length ∙ long ∙ ap (λ l. length (rows_as_one cmp xs l)) (sym room-front)
