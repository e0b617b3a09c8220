-- Sets that are changed in place, one after the other.
use Rattle.std.proofs.Common.{◌≡◌, ◌≤◌, ◌<◌, ◌+◌, ℕ, zero, suc, Bool, if◌then◌else◌, List, [], ◌∷◌, length, map, get_or, set, refl, ap, sym, subst, ◌∙◌, arith}
use Rattle.std.specs.Prelude.{◌==◌}
use Rattle.std.specs.{List.AllByRecursion, declared.cmp.Ordering.Ordering}
use Rattle.attribute_propagation.specs.{KeySet, all_marked, HasRoom, keys_in, marked_from, marked_everywhere}

module _ {K : Type 0} where
  -- the first so many of these sets, the first at place n, have become others, each as its place asks; the rest are as they were
  abbrev pub AreDone : (ℕ → KeySet K → KeySet K → Type 0) → ℕ → ℕ → List (KeySet K) → List (KeySet K) → Type 0
  AreDone Becomes n zero old new = new ≡ old
  AreDone Becomes n (suc i) [] [] = Unit {0}
  AreDone Becomes n (suc i) [] (y ∷ new) = ⊥
  AreDone Becomes n (suc i) (x ∷ old) [] = ⊥
  AreDone Becomes n (suc i) (x ∷ old) (y ∷ new) = Becomes n x y × AreDone Becomes (n + 1) i old new

  -- none has yet
  pub none_yet : (Becomes : ℕ → KeySet K → KeySet K → Type 0) (n : ℕ) (sets : List (KeySet K)) → AreDone Becomes n 0 sets sets
  none_yet Becomes n sets = refl

  -- there are as many
  pub as_many : (Becomes : ℕ → KeySet K → KeySet K → Type 0) (n i : ℕ) (old new : List (KeySet K)) → AreDone Becomes n i old new → length new ≡ length old
  as_many Becomes n zero old new done = ap (λ (xs : List (KeySet K)). length xs) done
  as_many Becomes n (suc i) [] [] done = refl
  as_many Becomes n (suc i) [] (y ∷ new) done = absurd done
  as_many Becomes n (suc i) (x ∷ old) [] done = absurd done
  as_many Becomes n (suc i) (x ∷ old) (y ∷ new) done = ap suc (as_many Becomes (n + 1) i old new done.1)

  -- what holds of each set that was there holds of the next one
  pub next : (Holds : KeySet K → Type 0) (Becomes : ℕ → KeySet K → KeySet K → Type 0) (n i : ℕ) (old new : List (KeySet K)) (d : KeySet K)
      → AreDone Becomes n i old new → AllByRecursion Holds old → i < length new → Holds (get_or new i d)
  next Holds Becomes n zero old [] d done all below = absurd (omega arith)
  next Holds Becomes n zero [] (y ∷ new) d done all below = absurd (suc_not_zero (ap (λ (xs : List (KeySet K)). length xs) done))
    where
      suc_not_zero : suc (length new) ≡ zero → ⊥
      suc_not_zero e = omega (arith, e)
  next Holds Becomes n zero (x ∷ old) (y ∷ new) d done all below = subst (λ (xs : List (KeySet K)). Holds (get_or xs 0 d)) (sym done) all.0
  next Holds Becomes n (suc i) [] [] d done all below = absurd (omega arith)
  next Holds Becomes n (suc i) [] (y ∷ new) d done all below = absurd done
  next Holds Becomes n (suc i) (x ∷ old) [] d done all below = absurd done
  next Holds Becomes n (suc i) (x ∷ old) (y ∷ new) d done all below = next Holds Becomes (n + 1) i old new d done.1 all.1 (omega (arith, below))

  -- one set more has become another
  one_more_done : (Becomes : ℕ → KeySet K → KeySet K → Type 0) (n i : ℕ) (old new : List (KeySet K)) (d y : KeySet K)
      → AreDone Becomes n i old new → i < length new → Becomes (n + i) (get_or new i d) y → AreDone Becomes n (suc i) old (set new i y)
  one_more_done Becomes n zero [] [] d y done below to = absurd (omega arith)
  one_more_done Becomes n zero (x ∷ old) [] d y done below to = absurd (omega arith)
  one_more_done Becomes n zero [] (z ∷ new) d y done below to = absurd (suc_not_zero (ap (λ (xs : List (KeySet K)). length xs) done))
    where
      suc_not_zero : suc (length new) ≡ zero → ⊥
      suc_not_zero e = omega (arith, e)
  one_more_done Becomes n zero (x ∷ old) (z ∷ new) d y done below to = (
    subst (λ (w : KeySet K). Becomes n w y) (ap (λ (xs : List (KeySet K)). get_or xs 0 x) done) (subst (λ m. Becomes m z y) (plus_zero n) to),
    ap (λ (xs : List (KeySet K)). rest_of xs) done,
  )
    where
      plus_zero : (m : ℕ) → m + 0 ≡ m
      plus_zero m = omega arith

      rest_of : List (KeySet K) → List (KeySet K)
      rest_of [] = []
      rest_of (w ∷ ws) = ws
  one_more_done Becomes n (suc i) [] [] d y done below to = absurd (omega arith)
  one_more_done Becomes n (suc i) [] (z ∷ new) d y done below to = absurd done
  one_more_done Becomes n (suc i) (x ∷ old) [] d y done below to = absurd done
  one_more_done Becomes n (suc i) (x ∷ old) (z ∷ new) d y done below to =
      (done.0, one_more_done Becomes (n + 1) i old new d y done.1 (omega (arith, below)) (subst (λ m. Becomes m (get_or new i d) y) (next_place n i) to))
    where
      next_place : (m j : ℕ) → m + suc j ≡ m + 1 + j
      next_place m j = omega arith

  pub one_more : (Becomes : ℕ → KeySet K → KeySet K → Type 0) (i : ℕ) (old new : List (KeySet K)) (d y : KeySet K)
      → AreDone Becomes 0 i old new → i < length new → Becomes i (get_or new i d) y → AreDone Becomes 0 (i + 1) old (set new i y)
  one_more Becomes i old new d y done below to =
      let place : i ≡ 0 + i = omega arith in
      let more : suc i ≡ i + 1 = omega arith in
      subst (λ j. AreDone Becomes 0 j old (set new i y)) more
      (one_more_done Becomes 0 i old new d y done below (subst (λ m. Becomes m (get_or new i d) y) place to))

  -- what each is, where all have become others, by what each was
  pub all_hold : (Held Holds : KeySet K → Type 0) (Becomes : ℕ → KeySet K → KeySet K → Type 0) (n i : ℕ) (old new : List (KeySet K))
      → AreDone Becomes n i old new → length new ≤ i → ((m : ℕ) (x y : KeySet K) → Becomes m x y → Held x → Holds y)
      → AllByRecursion Held old → AllByRecursion Holds new
  all_hold Held Holds Becomes n i old [] done end each were = tt
  all_hold Held Holds Becomes n zero old (y ∷ new) done end each were = absurd (omega (arith, end))
  all_hold Held Holds Becomes n (suc i) [] (y ∷ new) done end each were = absurd done
  all_hold Held Holds Becomes n (suc i) (x ∷ old) (y ∷ new) done end each were =
      (each n x y done.0 were.0, all_hold Held Holds Becomes (n + 1) i old new done.1 (omega (arith, end)) each were.1)

  -- what asks nothing holds of each set
  pub ask_nothing : (sets : List (KeySet K)) → AllByRecursion (λ set. Unit {0}) sets
  ask_nothing [] = tt
  ask_nothing (x ∷ sets) = (tt, ask_nothing sets)

  -- where each keeps its keys, all do
  pub keys_stay : (Becomes : ℕ → KeySet K → KeySet K → Type 0) (n i : ℕ) (old new : List (KeySet K))
      → AreDone Becomes n i old new → ((m : ℕ) (x y : KeySet K) → Becomes m x y → y.keys ≡ x.keys) → keys_in new ≡ keys_in old
  keys_stay Becomes n zero old new done each = ap keys_in done
  keys_stay Becomes n (suc i) [] [] done each = refl
  keys_stay Becomes n (suc i) [] (y ∷ new) done each = absurd done
  keys_stay Becomes n (suc i) (x ∷ old) [] done each = absurd done
  keys_stay Becomes n (suc i) (x ∷ old) (y ∷ new) done each =
      ap (λ keys. keys ∷ keys_in new) (each n x y done.0) ∙ ap (λ rest. x.keys ∷ rest) (keys_stay Becomes (n + 1) i old new done.1 each)

  -- a set has its keys and room for so many more
  abbrev pub HasRoomNow : ℕ → ℕ → KeySet K → KeySet K → Type 0
  HasRoomNow count m x y = (y.keys ≡ x.keys) × (count ≤ y.spare)

  -- a set in the place of one with the same keys
  pub same_keys : (sets : List (KeySet K)) (i : ℕ) (d y : KeySet K) → i < length sets → y.keys ≡ (get_or sets i d).keys → keys_in (set sets i y) ≡ keys_in sets
  same_keys [] i d y below same = absurd (omega arith)
  same_keys (x ∷ sets) zero d y below same = ap (λ keys. keys ∷ keys_in sets) same
  same_keys (x ∷ sets) (suc i) d y below same = ap (λ rest. x.keys ∷ rest) (same_keys sets i d y (omega (arith, below)) same)

module _ {K : Type 0} (cmp : K → K → Ordering) where
  -- a set is told these keys, but at one place
  abbrev pub IsTold : ℕ → List K → ℕ → KeySet K → KeySet K → Type 0
  IsTold at keys m x y = y.keys ≡ (if m == at then x.keys else all_marked cmp keys x.keys)

  pub told_elsewhere : (at : ℕ) (keys : List K) (n i : ℕ) (old new : List (KeySet K))
      → AreDone (IsTold at keys) n i old new → length new ≤ i → keys_in new ≡ marked_from n cmp at keys (keys_in old)
  told_elsewhere at keys n zero old [] done end = ap (λ sets. marked_from n cmp at keys (keys_in sets)) done
  told_elsewhere at keys n zero old (y ∷ new) done end = absurd (omega (arith, end))
  told_elsewhere at keys n (suc i) [] [] done end = refl
  told_elsewhere at keys n (suc i) [] (y ∷ new) done end = absurd done
  told_elsewhere at keys n (suc i) (x ∷ old) [] done end = absurd done
  told_elsewhere at keys n (suc i) (x ∷ old) (y ∷ new) done end =
      ap (λ ks. ks ∷ keys_in new) done.0
      ∙ ap (λ rest. (if n == at then x.keys else all_marked cmp keys x.keys) ∷ rest) (told_elsewhere at keys (n + 1) i old new done.1 (omega (arith, end)))

  -- a set is told these keys, each of which lowers its spare by one at most
  abbrev pub IsToldToo : List K → ℕ → KeySet K → KeySet K → Type 0
  IsToldToo keys m x y = (y.keys ≡ all_marked cmp keys x.keys) × (x.spare ≤ y.spare + length keys)

  pub told_everywhere : (keys : List K) (n i : ℕ) (old new : List (KeySet K))
      → AreDone (IsToldToo keys) n i old new → length new ≤ i → keys_in new ≡ marked_everywhere cmp keys (keys_in old)
  told_everywhere keys n zero old [] done end = ap (λ sets. marked_everywhere cmp keys (keys_in sets)) done
  told_everywhere keys n zero old (y ∷ new) done end = absurd (omega (arith, end))
  told_everywhere keys n (suc i) [] [] done end = refl
  told_everywhere keys n (suc i) [] (y ∷ new) done end = absurd done
  told_everywhere keys n (suc i) (x ∷ old) [] done end = absurd done
  told_everywhere keys n (suc i) (x ∷ old) (y ∷ new) done end =
      ap (λ ks. ks ∷ keys_in new) done.0.0
      ∙ ap (λ rest. all_marked cmp keys x.keys ∷ rest) (told_everywhere keys (n + 1) i old new done.1 (omega (arith, end)))

  -- room for these keys and n more leaves room for n
  pub room_left : (keys : List K) (m i : ℕ) (old new : List (KeySet K)) → AreDone (IsToldToo keys) m i old new → length new ≤ i
      → (n : ℕ) → HasRoom (length keys + n) old → HasRoom n new
  room_left keys m i old new done end n room =
      all_hold (λ set. length keys + n ≤ set.spare) (λ set. n ≤ set.spare) (IsToldToo keys) m i old new done end
      (λ k x y to was. omega (arith, to.1, was)) room
