-- Rows found beside others and put over them are what the events make of the rows one after the other.
use Rattle.std.proofs.Common.{◌≡◌, ℕ, zero, suc, ◌+◌, ◌<◌, Bool, true, false, not, ◌&&◌, if◌then◌else◌, List, [], ◌∷◌, length, map, filter, fold, drop, drop-cons, get_or, refl, sym, ap, ◌∙◌, subst, arith, add-one, inl, inr, option_map}
use Rattle.std.specs.Prelude.{IsSome}
use Rattle.std.specs.{declared.option.Option.Option, declared.option.Option.TheVariants.None, declared.option.Option.TheVariants.Some, declared.cmp.Ordering.Ordering, declared.cmp.Ordering.TheVariants.Less, declared.cmp.Ordering.TheVariants.Equal, declared.cmp.Ordering.TheVariants.Greater, Ordering.ordering_reverse, Ordering.match_ordering, Cmp.IsTotalOrder, Cmp.IsEquivalence, List.AllByRecursion, List.list_all, Option.is_some, Option.option_eq}
use Rattle.std.proofs.lemmas.{Cmp.tied_itself, Cmp.tied_back, List.drop_more}
use Rattle.srp_base.proofs.Lists.{Each-map}
use Rattle.srp_base.specs.declared.{numbers.Cs.Cs, mrp.MrpEvent.MrpEvent}
use Rattle.registrar.proofs.RegistrarLemmas.{leave_all-registered}
use Rattle.mrp_participant.specs.declared.row.Row.{Row}
use Rattle.mrp_participant.specs.{Ascends, key_of, same, find, put, is_live, leave_all_row, after_hear, row_hearing, row_after_receive, registered_in, AreRows, rows_after_receive, changed_keys, first_of, begun_row, row_so_far, heard_with, heard_rows, rows_as_one, put_over}
use Rattle.mrp_participant.proofs.{Lookups.Fits, Lookups.filter-none, Lookups.AreRows-put, Lookups.Ascends-put, Lookups.find-fits, Lookups.find-above, Lookups.above_all, Lookups.above_same, Lookups.none_above, Lookups.find-put, Lookups.find-same, Lookups.same_is, Lookups.same_left, SendingLimitLemmas.In, SendingLimitLemmas.Each-from_in, SendingLimitLemmas.same_refl, SendingLimitLemmas.find-in, Transitions.hear-fits, Transitions.leave_all-live, Transitions.Ascends-mapped, Transitions.AreRows-mapped, Transitions.AreRows-receive, EachKey.each-mapped, EachKey.each-receive, Changes.option_eq-refl}

pub less_back : {K : Type 0} {cmp : K → K → Ordering} → IsTotalOrder cmp → (a b : K) → cmp a b ≡ Greater → cmp b a ≡ Less
less_back o a b e = o.antisymm b a ∙ ap ordering_reverse e

-- ---- the first of two

module _ {X : Type 0} where
  pub first-none : (x : Option X) → first_of x None ≡ x
  first-none None = refl
  first-none (Some x) = refl

  first-twice : (x y : Option X) → first_of x (first_of x y) ≡ first_of x y
  first-twice None y = refl
  first-twice (Some x) y = refl

  pub first-if : (b : Bool) (x : X) (h f : Option X) → (if b then Some x else first_of h f) ≡ first_of (if b then Some x else h) f
  first-if true x h f = refl
  first-if false x h f = refl

  -- what is mapped where the first has none
  first-mapped : (f : X → X) (h a b : Option X) → first_of h a ≡ first_of h b → first_of h (option_map f a) ≡ first_of h (option_map f b)
  first-mapped f None a b e = ap (option_map f) e
  first-mapped f (Some x) a b e = refl

-- ---- ascending rows are known by what each key has

module _ {K C : Type 0} {cmp : K → K → Ordering} (o : IsTotalOrder cmp) where
  find-first : (x : Row K C) (xs : List (Row K C)) → find cmp x.key (x ∷ xs) ≡ Some x
  find-first x xs = ap (λ b. if b then Some x else find cmp x.key xs) (same_refl o x.key)

  never-found : (x y : Row K C) (xs ys : List (Row K C)) → Ascends cmp key_of (y ∷ ys) → cmp x.key y.key ≡ Less
      → find cmp x.key (x ∷ xs) ≡ find cmp x.key (y ∷ ys) → ⊥
  never-found x y xs ys up less h =
      let none : find cmp x.key (y ∷ ys) ≡ None = find-above o x.key (y ∷ ys) (less, above_all o x.key y ys less up.0) in
      let some : Some x ≡ None = sym (find-first x xs) ∙ (h ∙ none) in
      cc

  tails_by : (x y : Row K C) (xs ys : List (Row K C)) (k : K) (b : Bool) → x ≡ y → same cmp x.key k ≡ b
      → Ascends cmp key_of (x ∷ xs) → Ascends cmp key_of (y ∷ ys)
      → (if b then Some x else find cmp k xs) ≡ (if same cmp y.key k then Some y else find cmp k ys)
      → find cmp k xs ≡ find cmp k ys
  tails_by x y xs ys k true one at up up' h =
      none_above o x.key k xs up.0 at ∙ sym (none_above o y.key k ys up'.0 (ap (λ (r : Row K C). same cmp r.key k) (sym one) ∙ at))
  tails_by x y xs ys k false one at up up' h = grind arith

  heads_by : (x y : Row K C) (xs ys : List (Row K C)) (c : Ordering) → cmp x.key y.key ≡ c
      → Ascends cmp key_of (x ∷ xs) → Ascends cmp key_of (y ∷ ys)
      → ((k : K) → find cmp k (x ∷ xs) ≡ find cmp k (y ∷ ys)) → x ≡ y
  heads_by x y xs ys Less e up up' h = absurd (never-found x y xs ys up' e (h x.key))
  heads_by x y xs ys Equal e up up' h = grind (arith, find-same, find-first)
  heads_by x y xs ys Greater e up up' h = absurd (never-found y x ys xs up (o.antisymm y.key x.key ∙ ap ordering_reverse e) (sym (h y.key)))

  -- two ascending lists in which each key has the same are one
  pub rows-same : (xs ys : List (Row K C)) → Ascends cmp key_of xs → Ascends cmp key_of ys → ((k : K) → find cmp k xs ≡ find cmp k ys) → xs ≡ ys
  rows-same [] [] up up' h = refl
  rows-same [] (y ∷ ys) up up' h = let none : None ≡ Some y = h y.key ∙ find-first y ys in cc
  rows-same (x ∷ xs) [] up up' h = let none : Some x ≡ None = sym (find-first x xs) ∙ h x.key in cc
  rows-same (x ∷ xs) (y ∷ ys) up up' h =
      let one : x ≡ y = heads_by x y xs ys (cmp x.key y.key) refl up up' h in
      ap (λ z. z ∷ xs) one ∙ ap (λ zs. y ∷ zs) (rows-same xs ys up.1 up'.1 (λ k. tails_by x y xs ys k (same cmp x.key k) one refl up up' (h k)))

  -- ---- two lists as one

  later_by : (b : Bool) (y : Row K C) (h f : Option (Row K C)) → (b ≡ true → h ≡ None)
      → (if b then Some y else first_of h f) ≡ first_of h (if b then Some y else f)
  later_by true y h f none = ap (λ x. first_of x (Some y)) (sym (none refl))
  later_by false y h f none = refl

  both_by : (b b' : Bool) (x y : Row K C) (h f : Option (Row K C)) → b ≡ b'
      → (if b then Some x else first_of h f) ≡ first_of (if b then Some x else h) (if b' then Some y else f)
  both_by true b' x y h f e = refl
  both_by false true x y h f e = cc
  both_by false false x y h f e = refl

  find-step : (k : K) (x y : Row K C) (xs ys rest : List (Row K C)) (c : Ordering) → cmp x.key y.key ≡ c
      → Ascends cmp key_of (x ∷ xs) → Ascends cmp key_of (y ∷ ys)
      → find cmp k (rows_as_one cmp xs (y ∷ ys)) ≡ first_of (find cmp k xs) (find cmp k (y ∷ ys))
      → find cmp k (rows_as_one cmp xs ys) ≡ first_of (find cmp k xs) (find cmp k ys)
      → find cmp k rest ≡ first_of (find cmp k (x ∷ xs)) (find cmp k ys)
      → find cmp k (match_ordering c (x ∷ rows_as_one cmp xs (y ∷ ys)) (x ∷ rows_as_one cmp xs ys) (y ∷ rest))
      ≡ first_of (find cmp k (x ∷ xs)) (find cmp k (y ∷ ys))
  find-step k x y xs ys rest Less e up up' a b d = grind (arith, first-if)
  find-step k x y xs ys rest Equal e up up' a b d = grind (arith, both_by, same_left)
  find-step k x y xs ys rest Greater e up up' a b d =
      ap (λ t. if same cmp y.key k then Some y else t) d
      ∙ later_by (same cmp y.key k) y (find cmp k (x ∷ xs)) (find cmp k ys)
      (λ at. none_above o y.key k (x ∷ xs) (less_back o x.key y.key e, above_all o y.key x xs (less_back o x.key y.key e) up.0) at)

  find-merged_into : (k : K) (x : Row K C) (xs ys : List (Row K C)) → Ascends cmp key_of (x ∷ xs)
      → Ascends cmp key_of ys → ((ys : List (Row K C)) → Ascends cmp key_of ys
      → find cmp k (rows_as_one cmp xs ys) ≡ first_of (find cmp k xs) (find cmp k ys))
      → find cmp k (rows_as_one cmp (x ∷ xs) ys) ≡ first_of (find cmp k (x ∷ xs)) (find cmp k ys)
  find-merged_into k x xs [] up up' rest = sym (first-none (find cmp k (x ∷ xs)))
  find-merged_into k x xs (y ∷ ys) up up' rest = grind (arith, find-merged_into k x xs ys up up'.1 rest, find-step)

  -- in two lists as one each key has what the first list has, or else the second
  pub find-merged : (k : K) (xs ys : List (Row K C)) → Ascends cmp key_of xs → Ascends cmp key_of ys
      → find cmp k (rows_as_one cmp xs ys) ≡ first_of (find cmp k xs) (find cmp k ys)
  find-merged k [] ys up up' = refl
  find-merged k (x ∷ xs) ys up up' = find-merged_into k x xs ys up up' (λ ys up'. find-merged k xs ys up.1 up')

  each-step : (P : Row K C → Type 0) (x y : Row K C) (first second rest : List (Row K C)) (c : Ordering) → P x → P y
      → AllByRecursion P first → AllByRecursion P second → AllByRecursion P rest
      → AllByRecursion P (match_ordering c (x ∷ first) (x ∷ second) (y ∷ rest))
  each-step P x y first second rest Less px py a b d = (px, a)
  each-step P x y first second rest Equal px py a b d = (px, b)
  each-step P x y first second rest Greater px py a b d = (py, d)

  each-merged_into : (P : Row K C → Type 0) (x : Row K C) (xs ys : List (Row K C)) → AllByRecursion P (x ∷ xs)
      → AllByRecursion P ys → ((ys : List (Row K C)) → AllByRecursion P ys → AllByRecursion P (rows_as_one cmp xs ys))
      → AllByRecursion P (rows_as_one cmp (x ∷ xs) ys)
  each-merged_into P x xs [] h h' rest = h
  each-merged_into P x xs (y ∷ ys) h h' rest = grind (arith, each-merged_into P x xs ys h h'.1 rest, each-step)

  pub each-merged : (P : Row K C → Type 0) (xs ys : List (Row K C)) → AllByRecursion P xs → AllByRecursion P ys → AllByRecursion P (rows_as_one cmp xs ys)
  each-merged P [] ys h h' = h'
  each-merged P (x ∷ xs) ys h h' = each-merged_into P x xs ys h h' (λ ys h'. each-merged P xs ys h.1 h')

  ascends-step : (x y : Row K C) (xs ys : List (Row K C)) (c : Ordering) → cmp x.key y.key ≡ c
      → Ascends cmp key_of (x ∷ xs) → Ascends cmp key_of (y ∷ ys) → Ascends cmp key_of (rows_as_one cmp xs (y ∷ ys))
      → Ascends cmp key_of (rows_as_one cmp xs ys) → Ascends cmp key_of (rows_as_one cmp (x ∷ xs) ys)
      → Ascends cmp key_of (match_ordering c (x ∷ rows_as_one cmp xs (y ∷ ys)) (x ∷ rows_as_one cmp xs ys)
      (y ∷ rows_as_one cmp (x ∷ xs) ys))
  ascends-step x y xs ys Less e up up' a b d = (each-merged (λ z. cmp x.key z.key ≡ Less) xs (y ∷ ys) up.0 (e, above_all o x.key y ys e up'.0), a)
  ascends-step x y xs ys Equal e up up' a b d = (
    each-merged (λ z. cmp x.key z.key ≡ Less) xs ys up.0
        (above_same o y.key x.key ys (tied_back o x.key y.key e) up'.0),
    b,
  )
  ascends-step x y xs ys Greater e up up' a b d =
      (each-merged (λ z. cmp y.key z.key ≡ Less) (x ∷ xs) ys (less_back o x.key y.key e, above_all o y.key x xs (less_back o x.key y.key e) up.0) up'.0, d)

  Ascends-merged_into : (x : Row K C) (xs ys : List (Row K C)) → Ascends cmp key_of (x ∷ xs) → Ascends cmp key_of ys
      → ((ys : List (Row K C)) → Ascends cmp key_of ys → Ascends cmp key_of (rows_as_one cmp xs ys))
      → Ascends cmp key_of (rows_as_one cmp (x ∷ xs) ys)
  Ascends-merged_into x xs [] up up' rest = up
  Ascends-merged_into x xs (y ∷ ys) up up' rest = ascends-step x y xs ys (cmp x.key y.key) refl up up'
      (rest (y ∷ ys) up') (rest ys up'.1) (Ascends-merged_into x xs ys up up'.1 rest)

  pub Ascends-merged : (xs ys : List (Row K C)) → Ascends cmp key_of xs → Ascends cmp key_of ys → Ascends cmp key_of (rows_as_one cmp xs ys)
  Ascends-merged [] ys up up' = up'
  Ascends-merged (x ∷ xs) ys up up' = Ascends-merged_into x xs ys up up' (λ ys up'. Ascends-merged xs ys up.1 up')

  -- ---- rows in the places of others

  over_by : (b : Bool) (u : Row K C) (h f : Option (Row K C)) → (b ≡ true → h ≡ None)
      → first_of h (if b then Some u else f) ≡ first_of (if b then Some u else h) f
  over_by true u h f none = ap (λ x. first_of x (Some u)) (none refl)
  over_by false u h f none = refl

  is_of_itself : (u r : Row K C) → Some u ≡ Some r → cmp r.key u.key ≡ Equal
  is_of_itself u r e = let one : u ≡ r = cc in subst (λ x. cmp x.key u.key ≡ Equal) one (tied_itself o u.key)

  pub find-put_over : (k : K) (us rows : List (Row K C)) → Ascends cmp key_of us → Ascends cmp key_of rows
      → find cmp k (put_over cmp us rows) ≡ first_of (find cmp k us) (find cmp k rows)
  find-put_over k [] rows up up' = refl
  find-put_over k (u ∷ us) rows up up' =
      find-put_over k us (put cmp u.key (Some u) rows) up.1 (Ascends-put o u.key (Some u) rows (is_of_itself u) up')
      ∙ (ap (first_of (find cmp k us)) (find-put o u.key k (Some u) rows (is_of_itself u) up')
      ∙ over_by (same cmp u.key k) u (find cmp k us) (find cmp k rows) (λ at. none_above o u.key k us up.0 at))

  pub Ascends-put_row : (u : Row K C) (rows : List (Row K C)) → Ascends cmp key_of rows → Ascends cmp key_of (put cmp u.key (Some u) rows)
  Ascends-put_row u rows up = Ascends-put o u.key (Some u) rows (is_of_itself u) up

  pub Ascends-put_over : (us rows : List (Row K C)) → Ascends cmp key_of rows → Ascends cmp key_of (put_over cmp us rows)
  Ascends-put_over [] rows up = up
  Ascends-put_over (u ∷ us) rows up = Ascends-put_over us (put cmp u.key (Some u) rows) (Ascends-put_row u rows up)

  -- each of some rows has a row of its key among others
  abbrev pub AreKnown : List (Row K C) → List (Row K C) → Type 0
  AreKnown us rows = AllByRecursion (λ u. IsSome (find cmp u.key rows)) us

  known_by : (b : Bool) (u : Row K C) (f : Option (Row K C)) → IsSome f → IsSome (if b then Some u else f)
  known_by true u f h = refl
  known_by false u f h = h

  -- those that are known stay so when a row is put
  pub known-put : (u : Row K C) (us rows : List (Row K C)) → Ascends cmp key_of rows → AreKnown us rows → AreKnown us (put cmp u.key (Some u) rows)
  known-put u us rows up known = grind (arith, Each-map, find-put, is_of_itself, known_by)

  pub known-merged : (us rows : List (Row K C)) → Ascends cmp key_of us → Ascends cmp key_of rows → AreKnown us (rows_as_one cmp us rows)
  known-merged us rows up up' =
      Each-from_in (λ u. IsSome (find cmp u.key (rows_as_one cmp us rows))) us
      (λ u at. subst IsSome (sym (find-merged u.key us rows up up' ∙ ap (λ x. first_of x (find cmp u.key rows)) (find-in o u us up at))) refl)

-- all that pass a test
passes_by : {X : Type 0} (p : X → Bool) (x : X) (xs : List X) (b : Bool) → p x ≡ b → (b && list_all p xs) ≡ true
    → (list_all p xs ≡ true → AllByRecursion (λ x. p x ≡ true) xs) → AllByRecursion (λ x. p x ≡ true) (x ∷ xs)
passes_by p x xs true e h rest = (e, rest h)
passes_by p x xs false e h rest = cc

pub each-passes : {X : Type 0} (p : X → Bool) (xs : List X) → list_all p xs ≡ true → AllByRecursion (λ x. p x ≡ true) xs
each-passes p [] h = tt
each-passes p (x ∷ xs) h = passes_by p x xs (p x) refl h (each-passes p xs)

-- at a place of a list of which each element has a fact
pub each-at_drop : {X : Type 0} (P : X → Type 0) (xs : List X) (i : ℕ) (x : X) → i < length xs → x ≡ get_or xs i x
    → AllByRecursion P (drop i xs) → P x × AllByRecursion P (drop (i + 1) xs)
each-at_drop P xs i x below is h =
    let split : drop i xs ≡ x ∷ drop (suc i) xs = drop-cons xs i x below ∙ ap (λ y. y ∷ drop (suc i) xs) (sym is) in
    rw (add-one i) (subst (AllByRecursion P) split h)

-- ---- what was heard, beside the rows

module _ {K C : Type 0} where
  begun-key : (leave_all : Bool) (leave : Cs) (r : Row K C) → (begun_row leave_all leave r).key ≡ r.key
  begun-key true leave r = refl
  begun-key false leave r = refl

  begun-live : (leave_all : Bool) (leave : Cs) (r : Row K C) → is_live r ≡ true → is_live (begun_row leave_all leave r) ≡ true
  begun-live true leave r live = leave_all-live leave r live
  begun-live false leave r live = live

  pub AreRows-begun : (cmp : K → K → Ordering) (leave_all : Bool) (leave : Cs) (rows : List (Row K C))
      → AreRows cmp rows → AreRows cmp (map (begun_row leave_all leave) rows)
  AreRows-begun cmp leave_all leave rows are = AreRows-mapped cmp (begun_row leave_all leave) (begun-key leave_all leave) (begun-live leave_all leave) rows are

  -- an event of a key that has a row beside the rows, or in them
  hear_first : (event : MrpEvent) (k : K) (c : C) (leave : Cs) (h f : Option (Row K C))
      → first_of (after_hear event k c leave (first_of h f)) f ≡ after_hear event k c leave (first_of h f)
  hear_first event k c leave (Some r) f = refl
  hear_first event k c leave None (Some r) = refl
  hear_first event k c leave None None = first-none (after_hear event k c leave None)

  begin_by : (leave_all : Bool) (leave : Cs) (r : Option (Row K C))
      → option_map (begun_row leave_all leave) r ≡ (if leave_all then option_map (leave_all_row leave) r else r)
  begin_by true leave None = refl
  begin_by true leave (Some r) = refl
  begin_by false leave None = refl
  begin_by false leave (Some r) = refl

module _ {K C : Type 0} {cmp : K → K → Ordering} (o : IsTotalOrder cmp) (leave_all : Bool) (leave : Cs) (rows : List (Row K C)) (are : AreRows cmp rows) where
  first-fits : (k : K) (h f : Option (Row K C)) → Fits o k h → Fits o k f → Fits o k (first_of h f)
  first-fits k None f a b = b
  first-fits k (Some r) f a b = a

  so_far-same : (heard : List (Row K C)) (a b : K) → cmp a b ≡ Equal → row_so_far cmp leave_all leave rows heard a ≡ row_so_far cmp leave_all leave rows heard b
  so_far-same heard a b e = grind (arith, option_map, find-same)

  so_far-fits : (heard : List (Row K C)) (k : K) → AreRows cmp heard → Fits o k (row_so_far cmp leave_all leave rows heard k)
  so_far-fits heard k beside =
      first-fits k (find cmp k heard) (option_map (begun_row leave_all leave) (find cmp k rows)) (find-fits o k heard beside.1)
      (subst (Fits o k) (each-mapped o (begun_row leave_all leave) (begun-key leave_all leave) rows k)
      (find-fits o k (map (begun_row leave_all leave) rows) (AreRows-begun cmp leave_all leave rows are).1))

  -- what was heard stays rows
  pub AreRows-heard : (heard : List (Row K C)) (event : MrpEvent) (k : K) (c : C) → AreRows cmp heard
      → AreRows cmp (put cmp k (after_hear event k c leave (row_so_far cmp leave_all leave rows heard k)) heard)
  AreRows-heard heard event k c beside = AreRows-put o k _ heard (hear-fits o event k c leave _ (so_far-fits heard k beside)) beside

  step_by : (heard : List (Row K C)) (event : MrpEvent) (key k : K) (c : C) (b : Bool) → same cmp key k ≡ b
      → first_of
      (if b then after_hear event key c leave (row_so_far cmp leave_all leave rows heard key) else find cmp k heard)
      (option_map (begun_row leave_all leave) (find cmp k rows))
      ≡ (if b then after_hear event key c leave
      (row_so_far cmp leave_all leave rows heard k) else row_so_far cmp leave_all leave rows heard k)
  step_by heard event key k c true e = grind (arith, option_map, so_far-same, same_is, hear_first)
  step_by heard event key k c false e = refl

  heard-step : (heard : List (Row K C)) (e : MrpEvent × K × C) (k : K) → AreRows cmp heard
      → row_so_far cmp leave_all leave rows (heard_with cmp leave_all leave rows heard e) k
      ≡ row_hearing cmp leave k (row_so_far cmp leave_all leave rows heard k) e
  heard-step heard e k beside =
      ap (λ x. first_of x (option_map (begun_row leave_all leave) (find cmp k rows)))
      (find-put o e.1 k _ heard (hear-fits o e.0 e.1 e.2 leave _ (so_far-fits heard e.1 beside)).is_of beside.0)
      ∙ step_by heard e.0 e.1 k e.2 (same cmp e.1 k) refl

  heard-fold : (events : List (MrpEvent × K × C)) (heard : List (Row K C)) (k : K) → AreRows cmp heard
      → row_so_far cmp leave_all leave rows (fold (heard_with cmp leave_all leave rows) heard events) k
      ≡ fold (row_hearing cmp leave k) (row_so_far cmp leave_all leave rows heard k) events
  heard-fold [] heard k beside = refl
  heard-fold (e ∷ events) heard k beside =
      heard-fold events (heard_with cmp leave_all leave rows heard e) k (AreRows-heard heard e.0 e.1 e.2 beside)
      ∙ ap (λ x. fold (row_hearing cmp leave k) x events) (heard-step heard e k beside)

  -- what was heard, put over the rows, is at each key what the events make of its row
  pub heard-each : (events : List (MrpEvent × K × C)) (k : K)
      → row_so_far cmp leave_all leave rows (heard_rows cmp leave_all leave rows events) k
      ≡ row_after_receive cmp leave leave_all events k (find cmp k rows)
  heard-each events k = heard-fold events [] k (tt, tt) ∙ ap (λ x. fold (row_hearing cmp leave k) x events) (begin_by leave_all leave (find cmp k rows))

  -- some rows have what the events make of each key that they speak of
  abbrev pub HasHeard : List (MrpEvent × K × C) → List (Row K C) → Type 0
  HasHeard events heard = (k : K) → row_so_far cmp leave_all leave rows heard k ≡ row_after_receive cmp leave leave_all events k (find cmp k rows)

  -- ascending rows in which each key has that are the rows after receiving
  pub received-rows : (events : List (MrpEvent × K × C)) (heard new : List (Row K C)) → HasHeard events heard
      → Ascends cmp key_of new → ((k : K) → find cmp k new ≡ row_so_far cmp leave_all leave rows heard k)
      → new ≡ rows_after_receive cmp leave leave_all events rows
  received-rows events heard new of_each up each = grind (arith, rows-same, AreRows-receive, each-receive)

  merged-received : (events : List (MrpEvent × K × C)) (heard : List (Row K C)) → HasHeard events heard
      → Ascends cmp key_of heard → rows_as_one cmp heard (map (begun_row leave_all leave) rows)
      ≡ rows_after_receive cmp leave leave_all events rows
  merged-received events heard of_each up =
      let begun = AreRows-begun cmp leave_all leave rows are in
      received-rows events heard (rows_as_one cmp heard (map (begun_row leave_all leave) rows)) of_each
      (Ascends-merged o heard (map (begun_row leave_all leave) rows) up begun.0)
      (λ k. find-merged o k heard (map (begun_row leave_all leave) rows) up begun.0
      ∙ ap (first_of (find cmp k heard)) (each-mapped o (begun_row leave_all leave) (begun-key leave_all leave) rows k))

-- ---- the keys that are told are among those of the events

module _ {K C : Type 0} (cmp : K → K → Ordering) (p : Row K C → Bool) where
  filter-step : (x y : Row K C) (first second rest xs : List (Row K C)) (c : Ordering) → p y ≡ false
      → filter p first ≡ filter p xs → filter p second ≡ filter p xs → filter p rest ≡ filter p (x ∷ xs)
      → filter p (match_ordering c (x ∷ first) (x ∷ second) (y ∷ rest)) ≡ filter p (x ∷ xs)
  filter-step x y first second rest xs Less fails a b d = ap (λ l. if p x then x ∷ l else l) a
  filter-step x y first second rest xs Equal fails a b d = ap (λ l. if p x then x ∷ l else l) b
  filter-step x y first second rest xs Greater fails a b d = ap (λ t. if t then y ∷ filter p rest else filter p rest) fails ∙ d

  filter-merged_into : (x : Row K C) (xs ys : List (Row K C)) → AllByRecursion (λ y. p y ≡ false) ys
      → ((ys : List (Row K C)) → AllByRecursion (λ y. p y ≡ false) ys
      → filter p (rows_as_one cmp xs ys) ≡ filter p xs) → filter p (rows_as_one cmp (x ∷ xs) ys) ≡ filter p (x ∷ xs)
  filter-merged_into x xs [] h rest = refl
  filter-merged_into x xs (y ∷ ys) h rest = grind (arith, filter-merged_into x xs ys h.1 rest, filter-step)

  -- of two lists as one those pass that pass of the first, where none passes of the second
  filter-merged : (xs ys : List (Row K C)) → AllByRecursion (λ y. p y ≡ false) ys → filter p (rows_as_one cmp xs ys) ≡ filter p xs
  filter-merged [] ys h = filter-none p ys h
  filter-merged (x ∷ xs) ys h = filter-merged_into x xs ys h (filter-merged xs)

module _ {K C : Type 0} where
  begun-registered : (leave_all : Bool) (leave : Cs) (r : Row K C) → registered_in (Some (begun_row leave_all leave r)) ≡ registered_in (Some r)
  begun-registered true leave r = ap (λ b. if b then Some r.heard else None) (leave_all-registered r.registrar)
  begun-registered false leave r = refl

module _ {K C : Type 0} {cmp : K → K → Ordering} (o : IsTotalOrder cmp) (eq : C → C → Bool) (laws : IsEquivalence eq) where
  -- a LeaveAll alone changes no registration
  begun-told : (leave_all : Bool) (leave : Cs) (rows : List (Row K C)) (r : Row K C) → Ascends cmp key_of rows
      → In r rows → not (option_eq eq (registered_in (find cmp (begun_row leave_all leave r).key rows))
      (registered_in (Some (begun_row leave_all leave r)))) ≡ false
  begun-told leave_all leave rows r up at = grind (arith, begun-key, find-in, begun-registered, option_eq-refl)

  each-mapped_to : {X Y : Type 0} (P : Y → Type 0) (f : X → Y) (xs : List X) → ((x : X) → In x xs → P (f x)) → AllByRecursion P (map f xs)
  each-mapped_to P f [] h = tt
  each-mapped_to P f (x ∷ xs) h = (h x (inl refl), each-mapped_to P f xs (λ y at. h y (inr at)))

  -- the keys that change are among those that were heard of
  pub changed-heard : (leave_all : Bool) (leave : Cs) (events : List (MrpEvent × K × C)) (heard rows : List (Row K C))
      (are : AreRows cmp rows) → HasHeard o leave_all leave rows are events heard → Ascends cmp key_of heard
      → changed_keys cmp eq rows heard ≡ changed_keys cmp eq rows (rows_after_receive cmp leave leave_all events rows)
  changed-heard leave_all leave events heard rows are of_each up =
      ap (map key_of)
      (sym (filter-merged cmp _ heard (map (begun_row leave_all leave) rows)
      (each-mapped_to _ (begun_row leave_all leave) rows (λ r at. begun-told leave_all leave rows r are.0 at))))
      ∙ ap (changed_keys cmp eq rows) (merged-received o leave_all leave rows are events heard of_each up)

-- ---- the steps of the loops

drop_all : {X : Type 0} (xs : List X) (i : ℕ) → i ≡ length xs → drop i xs ≡ []
drop_all [] zero e = refl
drop_all [] (suc i) e = refl
drop_all (x ∷ xs) zero e = absurd (omega arith)
drop_all (x ∷ xs) (suc i) e = drop_all xs i (omega arith)

module _ {K C : Type 0} (cmp : K → K → Ordering) where
  merged-alone : (xs : List (Row K C)) → rows_as_one cmp xs [] ≡ xs
  merged-alone [] = refl
  merged-alone (x ∷ xs) = refl

  -- the next of two lists, where the second is at its end
  pub next-of_first : (xs ys : List (Row K C)) (i j : ℕ) (x : Row K C) → i ≡ length ys → j < length xs
      → x ≡ get_or xs j x → rows_as_one cmp (drop j xs) (drop i ys)
      ≡ x ∷ rows_as_one cmp (drop (j + 1) xs) (drop i ys)
  next-of_first xs ys i j x end below is = grind (arith, drop_all, merged-alone, drop-cons, add-one)

-- the next of two lists, of which neither is at its end, or the first is
module _ {K C : Type 0} (cmp : K → K → Ordering) (xs ys : List (Row K C)) (i j : ℕ) (within : i < length ys) where
  pub next-of_second : (y : Row K C) → j ≡ length xs → y ≡ get_or ys i y
      → rows_as_one cmp (drop j xs) (drop i ys) ≡ y ∷ rows_as_one cmp (drop j xs) (drop (i + 1) ys)
  next-of_second y end is = rw (drop_all xs j end) (drop_more ys i y within ∙ ap (λ z. z ∷ drop (i + 1) ys) (sym is))

  -- by how their first rows compare
  pub next-of_both : (c : Ordering) (x y : Row K C) → j < length xs → x ≡ get_or xs j x → y ≡ get_or ys i y
      → cmp x.key y.key ≡ c → rows_as_one cmp (drop j xs) (drop i ys)
      ≡ match_ordering c (x ∷ rows_as_one cmp (drop (j + 1) xs) (drop i ys))
      (x ∷ rows_as_one cmp (drop (j + 1) xs) (drop (i + 1) ys)) (y ∷ rows_as_one cmp (drop j xs) (drop (i + 1) ys))
  next-of_both c x y below is is' at = grind (arith, drop_more)

-- ---- what the code has at hand

pub map-begun_false : {K C : Type 0} (leave : Cs) (rows : List (Row K C)) → rows ≡ map (begun_row false leave) rows
map-begun_false leave [] = refl
map-begun_false leave (r ∷ rows) = ap (λ l. r ∷ l) (map-begun_false leave rows)

module _ {K C : Type 0} {cmp : K → K → Ordering} (o : IsTotalOrder cmp) (us rows : List (Row K C)) where
  pub known-of : (slice : List (Row K C)) → slice ≡ rows → (answer : Bool)
      → answer ≡ list_all (λ u. is_some (find cmp u.key slice)) us → answer ≡ true → AreKnown o us rows
  known-of slice is answer e h = subst (AreKnown o us) is (each-passes (λ u. is_some (find cmp u.key slice)) us (sym e ∙ h))

  module _ (new : List (Row K C)) (is : new ≡ rows_as_one cmp us rows) (up : Ascends cmp key_of us) (up' : Ascends cmp key_of rows) where
    pub known-after : AreKnown o us new
    known-after = subst (AreKnown o us) (sym is) (known-merged o us rows up up')

    pub each-after : (k : K) → first_of (find cmp k us) (find cmp k new) ≡ first_of (find cmp k us) (find cmp k rows)
    each-after k = grind (arith, find-merged, first-twice)

    pub ascends-after : Ascends cmp key_of new
    ascends-after = subst (Ascends cmp key_of) (sym is) (Ascends-merged o us rows up up')

module _ {K C : Type 0} {cmp : K → K → Ordering} (o : IsTotalOrder cmp) (leave_all : Bool) (leave : Cs)
    (us old rows begun : List (Row K C)) (is : begun ≡ map (begun_row leave_all leave) rows)
    (up : Ascends cmp key_of us) (up' : Ascends cmp key_of rows) where
  begun-find : (k : K) → find cmp k begun ≡ option_map (begun_row leave_all leave) (find cmp k rows)
  begun-find k = ap (find cmp k) is ∙ each-mapped o (begun_row leave_all leave) (begun-key leave_all leave) rows k

  pub begun-ascends : Ascends cmp key_of begun
  begun-ascends = subst (Ascends cmp key_of) (sym is) (Ascends-mapped cmp (begun_row leave_all leave) (begun-key leave_all leave) rows up')

  mapped_some : (r : Option (Row K C)) → IsSome r → IsSome (option_map (begun_row leave_all leave) r)
  mapped_some None h = cc
  mapped_some (Some r) h = refl

  pub begun-known : AreKnown o us rows → AreKnown o us begun
  begun-known known = Each-map _ _ (λ u h. subst IsSome (sym (begun-find u.key)) (mapped_some (find cmp u.key rows) h)) us known

  module _ (new : List (Row K C)) (e : new ≡ put_over cmp us begun) where
    pub put-each : ((k : K) → first_of (find cmp k us) (find cmp k rows) ≡ first_of (find cmp k us) (find cmp k old))
        → (k : K) → find cmp k new ≡ row_so_far cmp leave_all leave old us k
    put-each same_rows k =
        ap (find cmp k) e
        ∙ (find-put_over o k us begun up begun-ascends
        ∙ (ap (first_of (find cmp k us)) (begun-find k)
        ∙ first-mapped (begun_row leave_all leave) (find cmp k us) (find cmp k rows) (find cmp k old)
        (same_rows k)))

    pub put-ascends : Ascends cmp key_of new
    put-ascends = subst (Ascends cmp key_of) (sym e) (Ascends-put_over o us begun begun-ascends)

module _ {K C : Type 0} {cmp : K → K → Ordering} (o : IsTotalOrder cmp) (leave_all : Bool) (leave : Cs)
    (events : List (MrpEvent × K × C)) (rows slice heard heard_slice : List (Row K C)) (is : slice ≡ rows)
    (slice_is : heard_slice ≡ heard) (are : AreRows cmp rows) (each : (k : K)
    → row_so_far cmp leave_all leave slice heard k
    ≡ row_after_receive cmp leave leave_all events k (find cmp k slice)) where
  what_was_heard : HasHeard o leave_all leave rows are events heard_slice
  what_was_heard k = grind arith

  -- the rows that the code leaves are those after receiving
  pub rows-received : (new : List (Row K C)) → Ascends cmp key_of new
      → ((k : K) → find cmp k new ≡ row_so_far cmp leave_all leave rows heard_slice k)
      → new ≡ rows_after_receive cmp leave leave_all events rows
  rows-received new up of_new = received-rows o leave_all leave rows are events heard_slice new what_was_heard up of_new

  -- the keys that it tells are those that change
  pub keys-told : (eq : C → C → Bool) → IsEquivalence eq → (other : List (Row K C)) (keys : List K)
      → Ascends cmp key_of heard → other ≡ rows → keys ≡ changed_keys cmp eq other heard_slice
      → keys ≡ changed_keys cmp eq rows (rows_after_receive cmp leave leave_all events rows)
  keys-told eq laws other keys up other_is told =
      told
      ∙ (ap (λ l. changed_keys cmp eq l heard_slice) other_is
      ∙ changed-heard o eq laws leave_all leave events heard_slice rows are what_was_heard (subst (Ascends cmp key_of) (sym slice_is) up))
