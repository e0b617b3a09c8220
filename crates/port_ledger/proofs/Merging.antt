-- One walk along two ascending lists finds what each has booked and the other hasn't.
use Rattle.std.proofs.Common.{◌≡◌, ℕ, suc, ◌+◌, ◌<◌, ◌≤◌, Bool, true, false, ◌||◌, List, [], ◌∷◌, ◌++◌, map, length, get_or, drop, refl, sym, ◌∙◌, ap, subst, arith, inl, inr, append_assoc, drop-cons}
use Rattle.std.specs.Prelude.{◌⊎◌}
use Rattle.std.specs.List.{AllByRecursion, list_any}
use Rattle.std.proofs.lemmas.{List.append-nil, List.drop_all, Bool.cases_Bool, Bool.ltb-true, Bool.ltb-false}
use Rattle.srp_base.specs.declared.numbers.StreamId.{StreamId}
use Rattle.stream_importance.specs.declared.entry.Entry.{Entry}
use Rattle.port_ledger.specs.{stream_of, IsAscending, booked_only_in, same_entry, begins_with_entry, from_stream, booked_stream, booked_streams_below}
use Rattle.port_ledger.proofs.{Comparing.only_in, Finding.differ, Finding.others_differ, PerStream.same_entry-is, PerStream.same_entry-refl, Running.all_with}

-- what lies below a stream is none of an entry that doesn't
found_from : (s : StreamId) (z : Entry) (ys : List Entry) → s.0 ≤ stream_of z
    → list_any (same_entry z) (from_stream ys s) ≡ list_any (same_entry z) ys
found_from s z [] l = refl
found_from s z (y ∷ ys) l = grind (arith, found_from s z ys l, cases_Bool, differ, ltb-true)

only_from : (s : StreamId) (xs ys : List Entry) → AllByRecursion (λ x. s.0 ≤ stream_of x) xs
    → only_in xs (from_stream ys s) ≡ only_in xs ys
only_from s [] ys l = refl
only_from s (x ∷ xs) ys l = grind (arith, only_from s xs ys l.1, only_in, found_from)

-- from its stream on an entry stands first or nowhere
first_found : (x : Entry) (ys : List Entry) → IsAscending ys
    → list_any (same_entry x) (from_stream ys x.want.stream) ≡ begins_with_entry (from_stream ys x.want.stream) x
first_found x [] up = refl
first_found x (y ∷ ys) up = grind (arith, first_found x ys up.1, cases_Bool, ltb-false, others_differ, all_with)

ascending_from : (s : StreamId) (ys : List Entry) → IsAscending ys → IsAscending (from_stream ys s)
ascending_from s [] up = tt
ascending_from s (y ∷ ys) up = grind (arith, ascending_from s ys up.1, up)

-- ---- the head of one list

-- an entry that isn't among those
head-noted : (x : Entry) (xs ys : List Entry) → list_any (same_entry x) ys ≡ false → booked_only_in (x ∷ xs) ys ≡ booked_stream x ++ booked_only_in xs ys
head-noted x xs ys none = grind (arith, only_in)

-- an entry that none of these is
only_skip : (y : Entry) (xs ys : List Entry) → AllByRecursion (λ x. same_entry x y ≡ false) xs → only_in xs (y ∷ ys) ≡ only_in xs ys
only_skip y [] ys h = refl
only_skip y (x ∷ xs) ys h = grind (arith, only_skip y xs ys h.1, only_in)

head-skipped : (y : Entry) (xs ys : List Entry) → AllByRecursion (λ x. same_entry x y ≡ false) xs → booked_only_in xs (y ∷ ys) ≡ booked_only_in xs ys
head-skipped y xs ys h = ap (map (λ (z : Entry). z.want.stream)) (only_skip y xs ys h)

above_differ : (x : Entry) (ys : List Entry) → AllByRecursion (λ y. stream_of x < stream_of y) ys → AllByRecursion (λ y. same_entry y x ≡ false) ys
above_differ x [] h = tt
above_differ x (y ∷ ys) h = (differ y x (λ e. let l : stream_of x < stream_of y = h.0 in omega (arith, e, l)), above_differ x ys h.1)

-- an entry that both lists begin with
head-shared : (x : Entry) (xs ys : List Entry) → AllByRecursion (λ y. stream_of x < stream_of y) xs → booked_only_in (x ∷ xs) (x ∷ ys) ≡ booked_only_in xs ys
head-shared x xs ys up = grind (arith, only_in, same_entry-refl, head-skipped, above_differ, up)

-- the entries of a list that are below a stream, where those aren't
below-noted : (s : StreamId) (ys xs : List Entry) → AllByRecursion (λ x. s.0 ≤ stream_of x) xs
    → booked_only_in ys xs ≡ booked_streams_below ys s ++ booked_only_in (from_stream ys s) xs
below-noted s [] xs l = refl
below-noted s (y ∷ ys) xs l = grind (arith, below-noted s ys xs l, cases_Bool, ltb-true, head-noted, others_differ, all_with, append_assoc)

none-same : (x : Entry) (ys : List Entry) → list_any (same_entry x) ys ≡ false → AllByRecursion (λ y. same_entry y x ≡ false) ys
none-same x [] h = tt
none-same x (y ∷ ys) h = (flipped (cases_Bool (same_entry y x)), none-same x ys (or_right (same_entry x y) (list_any (same_entry x) ys) h))
  where
    or_right : (a b : Bool) → (a || b) ≡ false → b ≡ false
    or_right true b e = cc
    or_right false b e = e

    or_first : (a b : Bool) → (a || b) ≡ false → a ≡ false
    or_first true b e = cc
    or_first false b e = refl

    flipped : (same_entry y x ≡ true) ⊎ (same_entry y x ≡ false) → same_entry y x ≡ false
    flipped (inl e) =
        let one : y ≡ x = same_entry-is y x e in
        let itself : same_entry x y ≡ true = subst (λ (z : Entry). same_entry z y ≡ true) one (same_entry-refl y) in
        let other : same_entry x y ≡ false = or_first (same_entry x y) (list_any (same_entry x) ys) h in
        cc
    flipped (inr e) = e

-- ---- what a walk along both keeps

pub record WalksBoth (before after : List Entry) (i : ℕ) (booked dropped : List StreamId) (rest : List Entry) : Type 0 where
  pub new : booked_only_in after before ≡ booked ++ booked_only_in (drop i after) rest
  pub old : booked_only_in before after ≡ dropped ++ booked_only_in rest (drop i after)
  pub up : IsAscending (drop i after)
  pub down : IsAscending rest

-- it stands before the entry x of `after`: the front of `rest` that is below x is noted, and `next` is what is left
module _ (before after : List Entry) (i : ℕ) (x d : Entry) (booked dropped : List StreamId) (rest next : List Entry) (below : i < length after) (at : x ≡ get_or after i d) (is : next ≡ from_stream rest x.want.stream) (h : WalksBoth before after i booked dropped rest) where
  left_is : drop i after ≡ x ∷ drop (i + 1) after
  left_is =
      let on : suc i ≡ i + 1 = omega arith in
      drop-cons after i d below ∙ (ap (λ y. y ∷ drop (suc i) after) (sym at) ∙ ap (λ n. x ∷ drop n after) on)

  ascends : IsAscending (x ∷ drop (i + 1) after)
  ascends = subst (λ (zs : List Entry). IsAscending zs) left_is h.up

  above : AllByRecursion (λ y. stream_of x ≤ stream_of y) (x ∷ drop (i + 1) after)
  above = (omega arith, all_with (drop (i + 1) after) ascends.0 ascends.0 (λ y l _. omega (arith, l)))

  goes_down : IsAscending next
  goes_down = subst (λ (zs : List Entry). IsAscending zs) (sym is) (ascending_from x.want.stream rest h.down)

  new_before : booked_only_in after before ≡ booked ++ booked_only_in (x ∷ drop (i + 1) after) next
  new_before =
      h.new
      ∙ ap (λ zs. booked ++ booked_only_in zs rest) left_is
      ∙ ap (λ zs. booked ++ map (λ (y : Entry). y.want.stream) zs) (sym (only_from x.want.stream (x ∷ drop (i + 1) after) rest above))
      ∙ ap (λ ys. booked ++ booked_only_in (x ∷ drop (i + 1) after) ys) (sym is)

  old_before : (later : List StreamId) → later ≡ dropped ++ booked_streams_below rest x.want.stream → booked_only_in before after ≡ later ++ booked_only_in next (x ∷ drop (i + 1) after)
  old_before later e = grind (arith, left_is, below-noted, above, append_assoc)

  any_is : list_any (same_entry x) next ≡ begins_with_entry next x
  any_is = subst (λ (ys : List Entry). list_any (same_entry x) ys ≡ begins_with_entry ys x) (sym is) (first_found x rest h.down)

  -- x isn't first in what is left, so it is in none of it
  pub walk-notes : (later more : List StreamId) → later ≡ dropped ++ booked_streams_below rest x.want.stream → more ≡ booked ++ booked_stream x
      → begins_with_entry next x ≡ false → WalksBoth before after (i + 1) more later next
  walk-notes later more e m none = record {
    new =
        new_before
        ∙ ap (λ zs. booked ++ zs) (head-noted x (drop (i + 1) after) next (any_is ∙ none))
        ∙ sym (append_assoc booked (booked_stream x) (booked_only_in (drop (i + 1) after) next))
        ∙ ap (λ zs. zs ++ booked_only_in (drop (i + 1) after) next) (sym m);
    old = old_before later e ∙ ap (λ zs. later ++ zs) (head-skipped x next (drop (i + 1) after) (none-same x next (any_is ∙ none)));
    up = ascends.1;
    down = goes_down;
  }

  shared_by : (later : List StreamId) (ys tail : List Entry) → next ≡ ys → begins_with_entry ys x ≡ true → tail ≡ drop 1 ys
      → later ≡ dropped ++ booked_streams_below rest x.want.stream → WalksBoth before after (i + 1) booked later tail
  shared_by later [] tail n first t e = cc
  shared_by later (y ∷ ys) tail n first t e =
      let one : next ≡ x ∷ ys = n ∙ ap (λ z. z ∷ ys) (sym (same_entry-is x y first)) in
      let down : IsAscending (x ∷ ys) = subst (λ (zs : List Entry). IsAscending zs) one goes_down in
      subst (λ (zs : List Entry). WalksBoth before after (i + 1) booked later zs) (sym t)
      (record {
        new = new_before ∙ ap (λ zs. booked ++ booked_only_in (x ∷ drop (i + 1) after) zs) one ∙ ap (λ zs. booked ++ zs) (head-shared x (drop (i + 1) after) ys ascends.0);
        old = old_before later e ∙ ap (λ zs. later ++ booked_only_in zs (x ∷ drop (i + 1) after)) one ∙ ap (λ zs. later ++ zs) (head-shared x ys (drop (i + 1) after) down.0);
        up = ascends.1;
        down = down.1;
      })

  -- both lists have x
  pub walk-shares : (later : List StreamId) (tail : List Entry) → begins_with_entry next x ≡ true → tail ≡ drop 1 next
      → later ≡ dropped ++ booked_streams_below rest x.want.stream → WalksBoth before after (i + 1) booked later tail
  walk-shares later tail first t e = shared_by later next tail refl first t e

-- what begins with an entry isn't empty
pub begins-some : (ys : List Entry) (x : Entry) → begins_with_entry ys x ≡ true → 0 < length ys
begins-some ys x h1 = grind arith

-- before the first entry of `after`
pub walk-starts : (before after : List Entry) (booked dropped : List StreamId) → booked ≡ [] → dropped ≡ [] → IsAscending before → IsAscending after
    → WalksBoth before after 0 booked dropped before
walk-starts before after booked dropped b d down up = record {
  new = ap (λ zs. zs ++ booked_only_in after before) (sym b);
  old = ap (λ zs. zs ++ booked_only_in before after) (sym d);
  up = up;
  down = down;
}

-- behind the last one
module _ (before after : List Entry) (i : ℕ) (booked dropped : List StreamId) (rest : List Entry) (le : length after ≤ i) (h : WalksBoth before after i booked dropped rest) where
  none_left : drop i after ≡ []
  none_left = drop_all i after le

  pub walk-booked : booked ≡ booked_only_in after before
  walk-booked = sym (h.new ∙ ap (λ zs. booked ++ booked_only_in zs rest) none_left ∙ append-nil booked)

  pub walk-dropped : (later : List StreamId) → later ≡ dropped ++ booked_only_in rest [] → later ≡ booked_only_in before after
  walk-dropped later e = e ∙ sym (h.old ∙ ap (λ zs. dropped ++ booked_only_in rest zs) none_left)
