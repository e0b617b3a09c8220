-- What a pass notes of the entries behind a front is what changed in the booked set.
use Rattle.std.proofs.Common.{◌≡◌, ◌≢◌, ◌↔◌, IsTrue, ℕ, suc, ◌+◌, ◌≤◌, ◌<◌, Bool, true, false, not, ◌&&◌, ◌||◌, ◌==◌, cond, List, [], ◌∷◌, ◌++◌, map, filter, sum_by, length, get_or, set, take, drop, Option, Some, None, option_to_list, is_some, refl, sym, ◌∙◌, ap, subst, arith, inl, inr, append_assoc, append-nil, drop-cons, drop-set-lt, true≢false}
use Rattle.std.specs.Prelude.{nat_lt}
use Rattle.std.specs.{List.AllByRecursion, List.list_any, List.Sorted.IsNonDecreasingBy, List.Sorted.IsPermutation}
use Rattle.std.proofs.lemmas.{Bool.and_left, Bool.and_right, Bool.cases_Bool, Bool.cases_lt, Bool.eq-eqb, Bool.eqb-true, Bool.lt-ltb, Bool.ne_eqb, Bool.or_from, List.length-append, List.map-append, List.Elements.filter-append, List.Elements.recursion_from_All, List.Sums.sum_by-cons, List.Sorted.IsPermutation-append, List.Sorted.IsPermutation-filter_both, List.Sorted.IsPermutation-map, List.Sorted.IsPermutation-refl, List.Sorted.IsPermutation-sym, List.Sorted.IsPermutation-trans, List.Sorted.length_permutation, List.Sorted.list_any-IsPermutation, List.Sorted.sum_by-IsPermutation}
use Rattle.std.proofs.lemmas.Bool.{or_parts as or_both}
use Rattle.srp_base.proofs.Lists.{each_append as all_join}
use Rattle.srp_base.specs.declared.{numbers.StreamId.StreamId}
use Rattle.stream_importance.specs.declared.{entry.Entry.Entry, entry.Want.Want, slope.Caps.Caps}
use Rattle.stream_importance.specs.Importance.{IsImportanceOrder}
use Rattle.port_ledger.specs.declared.totals.Totals.{Totals}
use Rattle.port_ledger.specs.{booked_only_in, entry_of, same_entry, same_since, same_want, unbooked_entry, with_want, without, stream_of, booked_of, decided_entries, is_booked, since_after, AreOfDifferentStreams, IsAscending, AreBehind, IsFront, booking_of, gains, has_booking, has_move, has_passed, loses, moves, noted, stream_where, streams_passed, AreRising, both_of, entries_passed, exchanged, has_room, has_same, has_want, importance_order, sum_with}
use Rattle.port_ledger.proofs.{Comparing.in_own, Comparing.nothing_changed, Comparing.only_in, Finding.differ, Fronts.behind_different, Fronts.joined_behind, Fronts.joined_different, Keeping.all-without, LettingIn.is_among, LettingIn.streams_let_in, LettingIn.taken_runs, Marking.different_from_ascending, Moving.filter_permuted, Passing.only_own, Passing.passed_is, Passing.runs_on, Passing.settled_at, PerStream.same_entry-is, PerStream.same_entry-refl, PerStream.same_want-refl, Ranking.all_permuted, Ranking.different_permuted, Ranking.IsPermutation-ranked, Rounds.filter_agree, Running.all_with, Running.Runs, Settling.all_left, Sorting.ascending-filter, Sorting.none_filtered, Sorting.only_permuted}

-- ---- what there is room for

pub noted-append : (room : ℕ) (done xs ys : List StreamId) → noted room (noted room done xs) ys ≡ noted room done (xs ++ ys)
noted-append room done [] ys = refl
noted-append room done (x ∷ xs) ys = noted-append room (cond (nat_lt (length done) room) (done ++ x ∷ []) done) xs ys

pub noted-all : (room : ℕ) (done xs : List StreamId) → length done + length xs ≤ room → noted room done xs ≡ done ++ xs
noted-all room done [] le = sym (append-nil done)
noted-all room done (x ∷ xs) le =
    let long = length-append done (x ∷ []) in
    ap (λ v. noted room (cond v (done ++ x ∷ []) done) xs) (lt-ltb (length done) room (omega (arith, le)))
    ∙ (noted-all room (done ++ x ∷ []) xs (omega (arith, le, long)) ∙ append_assoc done (x ∷ []) xs)

-- one more entry is noted
pub noted-more : (test : Entry → Bool → Bool) (caps : Caps) (sum sum' i room room' : ℕ) (order : List Entry) (d y : Entry) (whole before after : List StreamId) → i < length order
    → sum' ≡ sum_with sum (get_or order i d) (has_room caps sum (get_or order i d)) → room' ≡ room
    → after ≡ noted room before (stream_where (test (get_or order i d) (has_room caps sum (get_or order i d))) (get_or order i d))
    → whole ≡ noted room before (streams_passed test caps sum (drop i order))
    → whole ≡ noted room' after (streams_passed test caps sum' (drop (i + 1) (set order i y)))
noted-more test caps sum sum' i room room' order d y whole before after l next same new h =
    let x : Entry = get_or order i d in
    let b : Bool = has_room caps sum x in
    let on : suc i ≡ i + 1 = omega arith in
    let kept : drop (i + 1) (set order i y) ≡ drop (suc i) order = ap (λ n. drop n (set order i y)) (sym on) ∙ drop-set-lt (suc i) order i y (omega arith) in
    h
    ∙ (ap (λ ys. noted room before (streams_passed test caps sum ys)) (drop-cons order i d l)
    ∙ (sym (noted-append room before (stream_where (test x b) x) (streams_passed test caps (sum_with sum x b) (drop (suc i) order)))
    ∙ (ap (λ ys. noted room ys (streams_passed test caps (sum_with sum x b) (drop (suc i) order))) (sym new)
    ∙ (ap (λ n. noted n after (streams_passed test caps (sum_with sum x b) (drop (suc i) order))) (sym same)
    ∙ (ap (λ n. noted room' after (streams_passed test caps n (drop (suc i) order))) (sym next)
    ∙ ap (λ ys. noted room' after (streams_passed test caps sum' ys)) (sym kept))))))

-- and an entry that isn't let in is no news where it wasn't booked
module _ (caps : Caps) (sum i room : ℕ) (order : List Entry) (d y : Entry) (whole done : List StreamId) (l : i < length order) (full : has_room caps sum (get_or order i d) ≡ false) where
  no_sum : sum ≡ sum_with sum (get_or order i d) (has_room caps sum (get_or order i d))
  no_sum = ap (sum_with sum (get_or order i d)) (sym full)

  pub skipped_gains : whole ≡ noted room done (streams_passed gains caps sum (drop i order)) → whole ≡ noted room done (streams_passed gains caps sum (drop (i + 1) (set order i y)))
  skipped_gains h =
      noted-more gains caps sum sum i room room order d y whole done done l no_sum refl
      (ap (λ v. noted room done (stream_where (gains (get_or order i d) v) (get_or order i d))) (sym full)) h

  pub skipped_loses : is_some (get_or order i d).since ≡ false → whole ≡ noted room done (streams_passed loses caps sum (drop i order))
      → whole ≡ noted room done (streams_passed loses caps sum (drop (i + 1) (set order i y)))
  skipped_loses unbooked h =
      noted-more loses caps sum sum i room room order d y whole done done l no_sum refl
      (ap (λ v. noted room done (stream_where v (get_or order i d))) (sym (ap (loses (get_or order i d)) full ∙ unbooked))) h

-- the same of whether a test holds of any
pub passed-more : (test : Entry → Bool → Bool) (caps : Caps) (sum sum' i : ℕ) (order : List Entry) (d y : Entry) (whole lost lost' : Bool) → i < length order
    → sum' ≡ sum_with sum (get_or order i d) (has_room caps sum (get_or order i d))
    → lost' ≡ (lost || test (get_or order i d) (has_room caps sum (get_or order i d)))
    → whole ≡ (lost || has_passed test caps sum (drop i order)) → whole ≡ (lost' || has_passed test caps sum' (drop (i + 1) (set order i y)))
passed-more test caps sum sum' i order d y whole lost lost' l next new h =
    let x : Entry = get_or order i d in
    let b : Bool = has_room caps sum x in
    let on : suc i ≡ i + 1 = omega arith in
    let kept : drop (i + 1) (set order i y) ≡ drop (suc i) order = ap (λ n. drop n (set order i y)) (sym on) ∙ drop-set-lt (suc i) order i y (omega arith) in
    h
    ∙ (ap (λ ys. lost || has_passed test caps sum ys) (drop-cons order i d l)
    ∙ (or_again lost (test x b) (has_passed test caps (sum_with sum x b) (drop (suc i) order))
    ∙ (ap (λ v. v || has_passed test caps (sum_with sum x b) (drop (suc i) order)) (sym new)
    ∙ (ap (λ n. lost' || has_passed test caps n (drop (suc i) order)) (sym next)
    ∙ ap (λ ys. lost' || has_passed test caps sum' ys) (sym kept)))))
  where
    or_again : (p q r : Bool) → (p || (q || r)) ≡ ((p || q) || r)
    or_again true q r = refl
    or_again false q r = refl

pub skipped_passed : (test : Entry → Bool → Bool) (caps : Caps) (sum i : ℕ) (order : List Entry) (d y : Entry) (whole lost : Bool) → i < length order → has_room caps sum (get_or order i d) ≡ false
    → test (get_or order i d) false ≡ false → whole ≡ (lost || has_passed test caps sum (drop i order)) → whole ≡ (lost || has_passed test caps sum (drop (i + 1) (set order i y)))
skipped_passed test caps sum i order d y whole lost l full off h =
    passed-more test caps sum sum i order d y whole lost lost l (ap (sum_with sum (get_or order i d)) (sym full))
    (sym (or_right' lost (test (get_or order i d) (has_room caps sum (get_or order i d))) (ap (test (get_or order i d)) full ∙ off))) h
  where
    or_right' : (p q : Bool) → q ≡ false → (p || q) ≡ p
    or_right' true q e = refl
    or_right' false q e = e

pub streams_short : (test : Entry → Bool → Bool) (caps : Caps) (sum : ℕ) (xs : List Entry) → length (streams_passed test caps sum xs) ≤ length xs
streams_short test caps sum [] = omega arith
streams_short test caps sum (x ∷ xs) =
    let b : Bool = has_room caps sum x in
    let rest = streams_short test caps (sum_with sum x b) xs in
    let one = one_short (test x b) x in
    let long = length-append (stream_where (test x b) x) (streams_passed test caps (sum_with sum x b) xs) in
    omega (arith, rest, one, long)
  where
    one_short : (v : Bool) (y : Entry) → length (stream_where v y) ≤ 1
    one_short true y = omega arith
    one_short false y = omega arith

-- ---- the pass as a choice

abbrev streams : List Entry → List StreamId
streams xs = map (λ (x : Entry). x.want.stream) xs

streams_chosen : (test : Entry → Bool → Bool) (caps : Caps) (sum : ℕ) (b : Entry → Bool) (xs : List Entry) → Runs caps sum b xs
    → streams_passed test caps sum xs ≡ streams (filter (λ x. test x (b x)) xs)
streams_chosen test caps sum b [] runs = refl
streams_chosen test caps sum b (x ∷ xs) runs = grind (arith, streams_chosen test caps (sum_with sum x (has_room caps sum x)) b xs (runs_on caps sum b x xs runs), runs_on, runs)

-- ---- what a pass gains

-- of the entries that were there, an entry is one where it is booked, and those with its want are booked as it is
record IsFresh (were : List Entry) (x : Entry) : Type 0 where
  kept : is_booked x ≡ true → list_any (same_entry x) were ≡ true
  alike : AllByRecursion (λ z. z.want ≡ x.want → is_booked z ≡ is_booked x) were

none_same : (x y : Entry) (were : List Entry) → y.want ≡ x.want → is_booked x ≡ false → is_booked y ≡ true
    → AllByRecursion (λ z. z.want ≡ x.want → is_booked z ≡ is_booked x) were → list_any (same_entry y) were ≡ false
none_same x y [] e off on h = refl
none_same x y (z ∷ were) e off on h = grind (arith, none_same x y were e off on h.1, or_from, cases_Bool, same_entry-is)

gain_one : (now : ℕ) (were : List Entry) (x : Entry) (v : Bool) → IsFresh were x
    → (is_booked (record x { since = since_after now x.since v }) && not (list_any (same_entry (record x { since = since_after now x.since v })) were)) ≡ gains x v
gain_one now were x v h1 = grind (arith, none_same)

gained : (now : ℕ) (were : List Entry) (b : Entry → Bool) (xs : List Entry) → AllByRecursion (IsFresh were) xs
    → streams (only_in (map (settled_at now b) xs) were) ≡ streams (filter (λ x. gains x (b x)) xs)
gained now were b [] fresh = refl
gained now were b (x ∷ xs) fresh = grind (arith, gained now were b xs fresh.1, settled_at, only_in, gain_one)

-- ---- what a pass loses

same_settled : (now : ℕ) (b : Entry → Bool) (x : Entry) → is_booked x ≡ true → same_entry x (settled_at now b x) ≡ b x
same_settled now b x booked = grind (arith, same_entry-refl, and_right)

none_settled : (now : ℕ) (b : Entry → Bool) (x : Entry) (xs : List Entry) → AllByRecursion (λ y. stream_of x ≢ stream_of y) xs
    → list_any (same_entry x) (map (settled_at now b) xs) ≡ false
none_settled now b x [] h = refl
none_settled now b x (y ∷ xs) h = or_from (same_entry x (settled_at now b y)) (list_any (same_entry x) (map (settled_at now b) xs)) (differ x (settled_at now b y) h.0) (none_settled now b x xs h.1)

-- a booked entry is found among the settled ones where it is let in
found_settled : (now : ℕ) (b : Entry → Bool) (xs : List Entry) → AreOfDifferentStreams xs
    → AllByRecursion (λ x. is_booked x ≡ true → list_any (same_entry x) (map (settled_at now b) xs) ≡ b x) xs
found_settled now b [] d = tt
found_settled now b (x ∷ xs) d = (
  (λ booked. ap (λ v. v || list_any (same_entry x) (map (settled_at now b) xs)) (same_settled now b x booked)
      ∙ (ap (λ v. b x || v) (none_settled now b x xs d.0) ∙ or_false (b x))),
  all_with xs d.0 (found_settled now b xs d.1)
      (λ y ne h booked. ap (λ v. v || list_any (same_entry y) (map (settled_at now b) xs)) (differ y (settled_at now b x) (λ e. ne (sym e))) ∙ h booked),
)
  where
    or_false : (v : Bool) → (v || false) ≡ v
    or_false true = refl
    or_false false = refl

and_true : (v : Bool) → (v && true) ≡ v
and_true v = grind arith

lose_all : (now : ℕ) (b : Entry → Bool) (xs : List Entry) → AreOfDifferentStreams xs
    → AllByRecursion (λ x. (is_booked x && not (list_any (same_entry x) (map (settled_at now b) xs))) ≡ loses x (b x)) xs
lose_all now b xs d = all_with xs (found_settled now b xs d) (found_settled now b xs d) (λ x h _. by_test x (is_booked x) refl h)
  where
    by_test : (x : Entry) (v : Bool) → is_booked x ≡ v → (is_booked x ≡ true → list_any (same_entry x) (map (settled_at now b) xs) ≡ b x)
        → (is_booked x && not (list_any (same_entry x) (map (settled_at now b) xs))) ≡ loses x (b x)
    by_test x true e h = ap (λ v. v && not (list_any (same_entry x) (map (settled_at now b) xs))) e ∙ (ap not (h e) ∙ (sym (and_true (not (b x))) ∙ ap (λ v. not (b x) && v) (sym e)))
    by_test x false e h = ap (λ v. v && not (list_any (same_entry x) (map (settled_at now b) xs))) e ∙ sym (and_right (not (b x)) (is_booked x) e)

-- ---- the entry that goes

-- those of the stream
abbrev of_stream : StreamId → List Entry → List Entry
of_stream s xs = filter (λ x. stream_of x == s.0) xs

none_of_stream : (s : StreamId) (xs : List Entry) → AllByRecursion (λ y. stream_of y ≢ s.0) xs → of_stream s xs ≡ []
none_of_stream s [] h = refl
none_of_stream s (x ∷ xs) h = ap (λ v. cond v (x ∷ of_stream s xs) (of_stream s xs)) (ne_eqb (stream_of x) s.0 h.0) ∙ none_of_stream s xs h.1

one_of_stream : (s : StreamId) (xs : List Entry) → AreOfDifferentStreams xs → of_stream s xs ≡ option_to_list (entry_of xs s)
one_of_stream s [] d = refl
one_of_stream s (x ∷ xs) d = grind (arith, one_of_stream s xs d.1, cases_Bool, all_with, eqb-true, none_of_stream)

pub entry_of-stream : (s : StreamId) (e : Entry) (xs : List Entry) → entry_of xs s ≡ Some e → stream_of e ≡ s.0
entry_of-stream s e [] h = cc
entry_of-stream s e (x ∷ xs) h =
    elim (cases_Bool (stream_of x == s.0)) [
      | inl k ↦ (let found : Some x ≡ Some e = sym (ap (λ v. cond v (Some x) (entry_of xs s)) k) ∙ h in let is : x ≡ e = cc in ap stream_of (sym is) ∙ eqb-true (stream_of x) s.0 k)
      | inr k ↦ entry_of-stream s e xs (sym (ap (λ v. cond v (Some x) (entry_of xs s)) k) ∙ h)
    ]

parted : (s : StreamId) (xs : List Entry) → IsPermutation xs (of_stream s xs ++ without xs s)
parted s xs = IsPermutation-filter_both (λ x. stream_of x == s.0) (λ x. not (stream_of x == s.0)) (λ x. refl) xs

others_left : (s : StreamId) (xs : List Entry) → AllByRecursion (λ y. stream_of y ≢ s.0) (without xs s)
others_left s [] = tt
others_left s (x ∷ xs) = grind (arith, others_left s xs, eq-eqb)

-- ---- a want comes behind a front

module _ (now : ℕ) (caps : Caps) (sum : ℕ) (want : Want) (goes : Option Entry) (front were es new : List Entry) (was : AreBehind front were es) (is : AreBehind front (importance_order now (entries_passed now caps sum (importance_order now (exchanged were want)))) new) (d : AreOfDifferentStreams (exchanged were want)) (found : entry_of es want.stream ≡ goes) (other : has_want es want ≡ false) (off : AllByRecursion (λ y. stream_of y ≢ want.stream.0) front) where
  abbrev next : List Entry
  next = exchanged were want

  abbrev ranked : List Entry
  ranked = importance_order now next

  abbrev left : List Entry
  left = without were want.stream

  abbrev choice : Entry → Bool
  choice e = is_among (streams_let_in caps sum ranked) (stream_of e)

  ranked_different : AreOfDifferentStreams ranked
  ranked_different = different_permuted next ranked (IsPermutation-ranked now next) d

  runs : Runs caps sum choice ranked
  runs = taken_runs caps sum ranked ranked_different

  abbrev passed : List Entry
  passed = map (settled_at now choice) ranked

  passed_same : entries_passed now caps sum ranked ≡ passed
  passed_same = passed_is now caps sum choice ranked runs

  new_behind : AreBehind front passed new
  new_behind = record {
    ascending = is.ascending;
    same =
        IsPermutation-trans new (front ++ importance_order now (entries_passed now caps sum ranked)) (front ++ passed) is.same
        (IsPermutation-append front front (importance_order now (entries_passed now caps sum ranked)) passed (IsPermutation-refl front)
        (subst (λ (ys : List Entry). IsPermutation (importance_order now ys) passed) (sym passed_same) (IsPermutation-sym passed (importance_order now passed) (IsPermutation-ranked now passed))));
  }

  were_different : AreOfDifferentStreams were
  were_different = behind_different front were es was

  -- the entry of the stream is no other than the one that goes
  of_goes : IsPermutation (option_to_list goes) (of_stream want.stream were)
  of_goes =
      subst (λ (o : Option Entry). IsPermutation (option_to_list o) (of_stream want.stream were)) found
      (subst (λ (ys : List Entry). IsPermutation ys (of_stream want.stream were)) (one_of_stream want.stream es (different_from_ascending es was.ascending))
      (subst (λ (ys : List Entry). IsPermutation (of_stream want.stream es) ys)
      (none_filtered (λ x. stream_of x == want.stream.0) front were (all_with front off off (λ y ne _. ne_eqb (stream_of y) want.stream.0 ne)))
      (filter_permuted (λ x. stream_of x == want.stream.0) es (front ++ were) was.same)))

  -- of the want that comes none is there
  unlike : AllByRecursion (λ z. z.want ≢ want) were
  unlike =
      all_permuted (λ (z : Entry). z.want ≢ want) (of_stream want.stream were ++ left) were (IsPermutation-sym were (of_stream want.stream were ++ left) (parted want.stream were))
      (all_join (λ z. z.want ≢ want) (of_stream want.stream were) left
      (all_permuted (λ (z : Entry). z.want ≢ want) (option_to_list goes) (of_stream want.stream were) of_goes (by_goes goes found))
      (all_with left (others_left want.stream were) (others_left want.stream were) (λ z ne _ e. ne (ap (λ (w : Want). w.stream.0) e))))
    where
      by_goes : (o : Option Entry) → entry_of es want.stream ≡ o → AllByRecursion (λ (z : Entry). z.want ≢ want) (option_to_list o)
      by_goes None e = tt
      by_goes (Some x) e = ((λ same. true≢false (sym (same_want-refl want) ∙ (ap (λ w. same_want w want) (sym same) ∙ (ap (λ o. has_same o want) (sym e) ∙ other)))), tt)

  fresh_left : AllByRecursion (IsFresh were) left
  fresh_left =
      all-without (IsFresh were) want.stream were
      (all_with were (in_own were) (only_own were were_different)
      (λ x own only. record { kept = λ _. own; alike = all_with were only only (λ z is_x _ e. ap is_booked (is_x (ap (λ (w : Want). w.stream.0) e))) }))

  fresh_next : AllByRecursion (IsFresh were) next
  fresh_next =
      all_join (IsFresh were) left (unbooked_entry want ∷ []) fresh_left
      (record { kept = λ e. absurd (true≢false (sym e)); alike = all_with were unlike unlike (λ z ne _ e. absurd (ne e)) }, tt)

  pub notes_gained : IsPermutation (streams_passed gains caps sum ranked) (booked_only_in new es)
  notes_gained =
      IsPermutation-sym (booked_only_in new es) (streams_passed gains caps sum ranked)
      (subst (λ (ys : List StreamId). IsPermutation (booked_only_in new es) ys)
      (gained now were choice ranked (all_permuted (IsFresh were) next ranked (IsPermutation-ranked now next) fresh_next) ∙ sym (streams_chosen gains caps sum choice ranked runs))
      (IsPermutation-map (λ (x : Entry). x.want.stream) (only_in new es) (only_in passed were) (only_permuted front passed were new es new_behind was)))

  -- whether an entry that was booked isn't any more
  abbrev lost : Entry → Bool
  lost x = is_booked x && not (list_any (same_entry x) passed)

  lost_agree : AllByRecursion (λ x. lost x ≡ loses x (choice x)) left
  lost_agree =
      all_left (λ x. lost x ≡ loses x (choice x)) left (unbooked_entry want ∷ [])
      (all_permuted (λ x. lost x ≡ loses x (choice x)) ranked next (IsPermutation-sym next ranked (IsPermutation-ranked now next)) (lose_all now choice ranked ranked_different))

  goes_lost : streams (filter lost (option_to_list goes)) ≡ booking_of goes
  goes_lost = by_goes goes found
    where
      none_next : (x : Entry) → entry_of es want.stream ≡ Some x → list_any (same_entry x) passed ≡ false
      none_next x e =
          list_any-IsPermutation (same_entry x) passed (map (settled_at now choice) next)
          (IsPermutation-map (settled_at now choice) ranked next (IsPermutation-sym next ranked (IsPermutation-ranked now next)))
          ∙ any_none (same_entry x) next
          (all_join (λ z. same_entry x (settled_at now choice z) ≡ false) left (unbooked_entry want ∷ [])
          (all_with left (others_left want.stream were) (others_left want.stream were) (λ z ne _. differ x (settled_at now choice z) (λ f. ne (sym f ∙ entry_of-stream want.stream x es e))))
          (and_left (same_want x.want want) (same_since x.since (settled_at now choice (unbooked_entry want)).since) (ap (λ o. has_same o want) (sym e) ∙ other), tt))
        where
          any_none : (p : Entry → Bool) (zs : List Entry) → AllByRecursion (λ z. p (settled_at now choice z) ≡ false) zs → list_any p (map (settled_at now choice) zs) ≡ false
          any_none p [] h = refl
          any_none p (z ∷ zs) h = or_from (p (settled_at now choice z)) (list_any p (map (settled_at now choice) zs)) h.0 (any_none p zs h.1)

      by_goes : (o : Option Entry) → entry_of es want.stream ≡ o → streams (filter lost (option_to_list o)) ≡ booking_of o
      by_goes None e = refl
      by_goes (Some x) e =
          ap (λ v. streams (cond (is_booked x && not v) (x ∷ []) [])) (none_next x e) ∙ by_test (is_booked x)
        where
          by_test : (v : Bool) → streams (cond (v && true) (x ∷ []) []) ≡ cond v (x.want.stream ∷ []) []
          by_test true = refl
          by_test false = refl

  -- what the pass loses is lost among the others that were there
  pass_lost : IsPermutation (streams_passed loses caps sum ranked) (streams (filter lost left))
  pass_lost =
      subst (λ (ys : List StreamId). IsPermutation ys (streams (filter lost left))) (sym (streams_chosen loses caps sum choice ranked runs))
      (IsPermutation-map (λ (x : Entry). x.want.stream) (filter (λ x. loses x (choice x)) ranked) (filter lost left)
      (IsPermutation-trans (filter (λ x. loses x (choice x)) ranked) (filter (λ x. loses x (choice x)) next) (filter lost left)
      (filter_permuted (λ x. loses x (choice x)) ranked next (IsPermutation-sym next ranked (IsPermutation-ranked now next)))
      (subst (λ (ys : List Entry). IsPermutation ys (filter lost left))
      (sym (filter-append (λ x. loses x (choice x)) left (unbooked_entry want ∷ [])
      ∙ (ap (λ v. filter (λ x. loses x (choice x)) left ++ cond v (unbooked_entry want ∷ []) []) (and_right (not (choice (unbooked_entry want))) false refl)
      ∙ (append-nil (filter (λ x. loses x (choice x)) left) ∙ sym (filter_agree lost (λ x. loses x (choice x)) left lost_agree)))))
      (IsPermutation-refl (filter lost left)))))

  pub notes_lost : IsPermutation (booking_of goes ++ streams_passed loses caps sum ranked) (booked_only_in es new)
  notes_lost =
      let all : IsPermutation were (option_to_list goes ++ left) =
      IsPermutation-trans were (of_stream want.stream were ++ left) (option_to_list goes ++ left) (parted want.stream were)
      (IsPermutation-append (of_stream want.stream were) (option_to_list goes) left left (IsPermutation-sym (option_to_list goes) (of_stream want.stream were) of_goes) (IsPermutation-refl left)) in
      let here : IsPermutation (only_in es new) (filter lost (option_to_list goes ++ left)) =
      IsPermutation-trans (only_in es new) (only_in were passed) (filter lost (option_to_list goes ++ left)) (only_permuted front were passed es new was new_behind)
      (filter_permuted lost were (option_to_list goes ++ left) all) in
      let named : IsPermutation (booked_only_in es new) (streams (filter lost (option_to_list goes ++ left)))
      = IsPermutation-map (λ (x : Entry). x.want.stream) (only_in es new) (filter lost (option_to_list goes ++ left)) here in
      let apart' : streams (filter lost (option_to_list goes ++ left)) ≡ booking_of goes ++ streams (filter lost left) =
      ap streams (filter-append lost (option_to_list goes) left)
      ∙ (map-append (λ (x : Entry). x.want.stream) (filter lost (option_to_list goes)) (filter lost left) ∙ ap (λ ys. ys ++ streams (filter lost left)) goes_lost) in
      IsPermutation-trans (booking_of goes ++ streams_passed loses caps sum ranked) (booking_of goes ++ streams (filter lost left)) (booked_only_in es new)
      (IsPermutation-append (booking_of goes) (booking_of goes) (streams_passed loses caps sum ranked) (streams (filter lost left)) (IsPermutation-refl (booking_of goes)) pass_lost)
      (IsPermutation-sym (booked_only_in es new) (booking_of goes ++ streams (filter lost left))
      (subst (λ (ys : List StreamId). IsPermutation (booked_only_in es new) ys) apart' named))

  notes_long : length ranked ≤ length were + 1
  notes_long =
      let same = length_permutation next ranked (IsPermutation-ranked now next) in
      let long = length-append left (unbooked_entry want ∷ []) in
      omega (arith, same, long, left_short want.stream were)
    where
      by_test : (x : Entry) (ys xs : List Entry) (v : Bool) → length ys ≤ length xs → length (cond (not v) (x ∷ ys) ys) ≤ length (x ∷ xs)
      by_test x ys xs true h = omega (arith, h)
      by_test x ys xs false h = omega (arith, h)

      left_short : (s : StreamId) (xs : List Entry) → length (without xs s) ≤ length xs
      left_short s [] = omega arith
      left_short s (x ∷ xs) = by_test x (without xs s) xs (stream_of x == s.0) (left_short s xs)

  pub gained_short : length (streams_passed gains caps sum ranked) ≤ length were + 2
  gained_short = omega (arith, streams_short gains caps sum ranked, notes_long)

  pub lost_short : length (booking_of goes ++ streams_passed loses caps sum ranked) ≤ length were + 2
  lost_short = grind (arith, length-append, streams_short, notes_long)

-- ---- whether anything is noted

empty_permuted : (xs ys : List StreamId) → IsPermutation xs ys → ys ≡ [] → xs ≡ []
empty_permuted [] ys p e = refl
empty_permuted (x ∷ xs) ys p e =
    let same = length_permutation (x ∷ xs) ys p in
    let none = ap length e in
    absurd (omega (arith, same, none))

empty_where : (v : Bool) (x : Entry) (ys : List StreamId) → stream_where v x ++ ys ≡ [] → (v ≡ false) × (ys ≡ [])
empty_where true x ys e = let long : suc (length ys) ≡ 0 = ap length e in absurd (omega (arith, long))
empty_where false x ys e = (refl, e)

quiet_pass : (caps : Caps) (sum : ℕ) (xs : List Entry) → has_move caps sum xs ≡ false
    → (streams_passed gains caps sum xs ≡ []) × (streams_passed loses caps sum xs ≡ [])
quiet_pass caps sum [] h = (refl, refl)
quiet_pass caps sum (x ∷ xs) h =
    let b : Bool = has_room caps sum x in
    let parts = or_both (moves x b) (has_move caps (sum_with sum x b) xs) h in
    let here = or_both (gains x b) (loses x b) parts.0 in
    let rest = quiet_pass caps (sum_with sum x b) xs parts.1 in (
      ap (λ v. stream_where v x ++ streams_passed gains caps (sum_with sum x b) xs) here.0 ∙ rest.0,
      ap (λ v. stream_where v x ++ streams_passed loses caps (sum_with sum x b) xs) here.1 ∙ rest.1,
    )

loud_pass : (caps : Caps) (sum : ℕ) (xs : List Entry) → streams_passed gains caps sum xs ≡ [] → streams_passed loses caps sum xs ≡ []
    → has_move caps sum xs ≡ false
loud_pass caps sum [] gain loss = refl
loud_pass caps sum (x ∷ xs) gain loss =
    let b : Bool = has_room caps sum x in
    let more = empty_where (gains x b) x (streams_passed gains caps (sum_with sum x b) xs) gain in
    let less = empty_where (loses x b) x (streams_passed loses caps (sum_with sum x b) xs) loss in
    or_from (moves x b) (has_move caps (sum_with sum x b) xs) (or_from (gains x b) (loses x b) more.0 less.0)
    (loud_pass caps (sum_with sum x b) xs more.1 less.1)

none_quiet : (goes : Option Entry) (caps : Caps) (sum : ℕ) (xs : List Entry) → (has_booking goes || has_move caps sum xs) ≡ false
    → (streams_passed gains caps sum xs ≡ []) × (booking_of goes ++ streams_passed loses caps sum xs ≡ [])
none_quiet None caps sum xs h = quiet_pass caps sum xs h
none_quiet (Some x) caps sum xs h =
    let parts = or_both (is_booked x) (has_move caps sum xs) h in
    let rest = quiet_pass caps sum xs parts.1 in (
      rest.0,
      ap (λ v. stream_where v x ++ streams_passed loses caps sum xs) parts.0 ∙ rest.1,
    )

none_loud : (goes : Option Entry) (caps : Caps) (sum : ℕ) (xs : List Entry) → streams_passed gains caps sum xs ≡ []
    → booking_of goes ++ streams_passed loses caps sum xs ≡ [] → (has_booking goes || has_move caps sum xs) ≡ false
none_loud None caps sum xs gain loss = loud_pass caps sum xs gain loss
none_loud (Some x) caps sum xs gain loss = grind (arith, loss, or_from, loud_pass, gain)

-- what is behind a front has an entry of a stream exactly where all entries have one, if the front has none
module _ (s : StreamId) (front were es : List Entry) (was : AreBehind front were es) (off : AllByRecursion (λ y. stream_of y ≢ s.0) front) where
  counted : (one other : Option Entry) → length (option_to_list one) ≡ length (option_to_list other) → is_some one ≡ is_some other
  counted one other h1 = grind arith

  pub found_behind : is_some (entry_of were s) ≡ is_some (entry_of es s)
  found_behind =
      let here = ap length (one_of_stream s were (behind_different front were es was)) in
      let all = ap length (one_of_stream s es (different_from_ascending es was.ascending)) in
      let moved =
      length_permutation (of_stream s es) (of_stream s were)
      (subst (λ (ys : List Entry). IsPermutation (of_stream s es) ys)
      (none_filtered (λ x. stream_of x == s.0) front were (all_with front off off (λ y ne _. ne_eqb (stream_of y) s.0 ne)))
      (filter_permuted (λ x. stream_of x == s.0) es (front ++ were) was.same)) in
      counted (entry_of were s) (entry_of es s) (omega (arith, here, all, moved))

  pub none_behind : entry_of were s ≡ None → entry_of es s ≡ None
  none_behind e = grind (arith, found_behind)

-- what is noted of a want that comes, where there is room for all
module _ (now : ℕ) (o : IsImportanceOrder now) (caps : Caps) (place : ℕ) (totals : Totals) (es new order : List Entry) (want : Want) (goes : Option Entry) (le : place ≤ length order) (was : AreBehind (take place order) (drop place order) es) (h : IsFront now caps place totals (with_want es want) (take place order ++ exchanged (drop place order) want)) (decided : new ≡ decided_entries now caps (with_want es want)) (found : entry_of es want.stream ≡ goes) (other : has_want es want ≡ false) (off : AllByRecursion (λ y. stream_of y ≢ want.stream.0) (take place order)) where
  abbrev behind : List Entry
  behind = drop place order

  is : AreBehind (take place order) (importance_order now (entries_passed now caps (both_of totals) (importance_order now (exchanged behind want)))) new
  is = subst (λ (ys : List Entry). AreBehind (take place order)
      (importance_order now (entries_passed now caps (both_of totals) (importance_order now (exchanged behind want)))) ys) (sym decided)
      (joined_behind now o caps place totals (with_want es want) order (exchanged behind want) le h)

  d : AreOfDifferentStreams (exchanged behind want)
  d = joined_different now o caps place totals (with_want es want) order (exchanged behind want) le h

  pub all_gained : (room : ℕ) (before after : List StreamId) → before ≡ [] → length behind + 2 ≤ room
      → after ≡ noted room before (streams_passed gains caps (both_of totals) (importance_order now (exchanged behind want)))
      → IsPermutation after (booked_only_in new es)
  all_gained room before after none long e = grind (arith, gained_short, is, d, noted-all, notes_gained)

  pub all_lost : (room : ℕ) (before after : List StreamId) → before ≡ [] → length behind + 2 ≤ room
      → after ≡ noted room before (booking_of goes ++ streams_passed loses caps (both_of totals) (importance_order now (exchanged behind want)))
      → IsPermutation after (booked_only_in es new)
  all_lost room before after none long e = grind (arith, lost_short, is, d, noted-all, notes_lost)

  abbrev behind_ranked : List Entry
  behind_ranked = importance_order now (exchanged behind want)

  abbrev all_gains : List StreamId
  all_gains = streams_passed gains caps (both_of totals) behind_ranked

  abbrev all_losses : List StreamId
  all_losses = booking_of goes ++ streams_passed loses caps (both_of totals) behind_ranked

  gain : IsPermutation all_gains (booked_only_in new es)
  gain = notes_gained now caps (both_of totals) want goes (take place order) behind es new was is d found other off

  loss : IsPermutation all_losses (booked_only_in es new)
  loss = notes_lost now caps (both_of totals) want goes (take place order) behind es new was is d found other off

  -- whether anything is to be noted: exactly where the booked set changes
  pub any_changed : IsAscending es → IsAscending new
      → IsTrue (has_booking goes || has_move caps (both_of totals) (importance_order now (exchanged behind want))) ↔ (booked_of new ≢ booked_of es)
  any_changed up after = (
    (λ t same.
        let empty = (nothing_changed es new up after).1 same in
        true≢false (sym t ∙ none_loud goes caps (both_of totals) behind_ranked (empty_permuted all_gains (booked_only_in new es) gain empty.0)
        (empty_permuted all_losses (booked_only_in es new) loss empty.1))),
    (λ changed.
        elim (cases_Bool (has_booking goes || has_move caps (both_of totals) behind_ranked)) [
          | inl on ↦ on
          | inr off' ↦
              (let quiet = none_quiet goes caps (both_of totals) behind_ranked off' in
              absurd (changed ((nothing_changed es new up after).0 (
                empty_permuted (booked_only_in new es) all_gains (IsPermutation-sym all_gains (booked_only_in new es) gain) quiet.0,
                empty_permuted (booked_only_in es new) all_losses (IsPermutation-sym all_losses (booked_only_in es new) loss) quiet.1,
              ))))
        ]),
  )

-- ---- one order of a list that doesn't fall

pub rising_from_sorted : (xs : List StreamId) → IsNonDecreasingBy (λ (x : StreamId). x.0) xs → AreRising xs
rising_from_sorted [] up = tt
rising_from_sorted (x ∷ xs) up = (
  recursion_from_All (λ (y : StreamId). x.0 ≤ y.0) xs (λ k e l. up 0 (suc k) e (omega arith) (omega (arith, l))),
  rising_from_sorted xs (λ i j e le l. up (suc i) (suc j) e (omega (arith, le)) (omega (arith, l))),
)

rising_streams : (xs : List Entry) → IsAscending xs → AreRising (streams xs)
rising_streams [] up = tt
rising_streams (x ∷ xs) up = (all_above xs up.0, rising_streams xs up.1)
  where
    all_above : (ys : List Entry) → AllByRecursion (λ y. stream_of x < stream_of y) ys → AllByRecursion (λ (y : StreamId). x.want.stream.0 ≤ y.0) (streams ys)
    all_above [] h = tt
    all_above (y ∷ ys) h = (omega (arith, h.0), all_above ys h.1)

pub rising_only : (these those : List Entry) → IsAscending these → AreRising (booked_only_in these those)
rising_only these those up = rising_streams (only_in these those) (ascending-filter (λ x. is_booked x && not (list_any (same_entry x) those)) these up)

-- one for a StreamID, and nothing for others
abbrev one_at : ℕ → StreamId → ℕ
one_at n x = cond (x.0 == n) 1 0

none_above : (n : ℕ) (xs : List StreamId) → AllByRecursion (λ (y : StreamId). n < y.0) xs → sum_by (one_at n) xs ≡ 0
none_above n [] h = refl
none_above n (x ∷ xs) h = grind (arith, none_above n xs h.1, sum_by-cons, ne_eqb)

-- the first of a rising list isn't above the first of another with the same sums
first_le : (x y : StreamId) (xs ys : List StreamId) → AreRising (y ∷ ys) → sum_by (one_at x.0) (y ∷ ys) ≡ sum_by (one_at x.0) (x ∷ xs) → y.0 ≤ x.0
first_le x y xs ys up same =
    elim (cases_lt x.0 y.0) [
      | inl below ↦
          (let none : sum_by (one_at x.0) (y ∷ ys) ≡ 0 = none_above x.0 (y ∷ ys) (below, all_with ys up.0 up.0 (λ z le _. omega (arith, le, below))) in
          let parts : sum_by (one_at x.0) (x ∷ xs) ≡ one_at x.0 x + sum_by (one_at x.0) xs = sum_by-cons (one_at x.0) x xs in
          let one : one_at x.0 x ≡ 1 = ap (λ v. cond v 1 0) (eq-eqb x.0 x.0 refl) in
          absurd (omega (arith, none, parts, one, same)))
      | inr le ↦ omega (arith, le)
    ]

one_rising : (xs ys : List StreamId) → AreRising xs → AreRising ys → ((f : StreamId → ℕ) → sum_by f ys ≡ sum_by f xs) → xs ≡ ys
one_rising [] [] up down same = refl
one_rising [] (y ∷ ys) up down same =
    let parts : sum_by (λ (z : StreamId). 1) (y ∷ ys) ≡ 1 + sum_by (λ (z : StreamId). 1) ys = sum_by-cons (λ (z : StreamId). 1) y ys in
    absurd (omega (arith, parts, same (λ z. 1)))
one_rising (x ∷ xs) [] up down same =
    let parts : sum_by (λ (z : StreamId). 1) (x ∷ xs) ≡ 1 + sum_by (λ (z : StreamId). 1) xs = sum_by-cons (λ (z : StreamId). 1) x xs in
    absurd (omega (arith, parts, same (λ z. 1)))
one_rising (x ∷ xs) (y ∷ ys) up down same =
    let e : x.0 ≡ y.0 = omega (arith, first_le x y xs ys down (same (one_at x.0)), first_le y x ys xs up (sym (same (one_at y.0)))) in
    let one : x ≡ y = ap (λ n. record { 0 = n }) e in
    let rest : xs ≡ ys =
    one_rising xs ys up.1 down.1
    (λ f. let here : f x ≡ f y = ap f one in omega (arith, here, same f, sum_by-cons f x xs, sum_by-cons f y ys)) in
    ap (λ z. z ∷ xs) one ∙ ap (λ zs. y ∷ zs) rest

pub one_sorted : (old new xs : List StreamId) → IsPermutation old new → AreRising new → AreRising xs → IsPermutation old xs → new ≡ xs
one_sorted old new xs moved up down same =
    one_rising new xs up down (λ f. sum_by-IsPermutation f old xs same ∙ sym (sum_by-IsPermutation f old new moved))
