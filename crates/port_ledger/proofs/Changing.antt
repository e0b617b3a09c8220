-- How a want that comes and an entry that goes lead to entries that are decided from a place of their order on.
use Rattle.std.proofs.Common.{◌≡◌, ◌≢◌, ℕ, ◌+◌, ◌≤◌, ◌<◌, ◌^◌, Bool, true, false, not, ◌&&◌, ◌||◌, ◌==◌, cond, List, [], ◌∷◌, ◌++◌, map, length, take, drop, Option, Some, None, refl, sym, ◌∙◌, ap, subst, arith, append_assoc, true≢false, inl, inr}
use Rattle.std.specs.Prelude.{nat_lt}
use Rattle.std.specs.{List.AllByRecursion, List.Sorted.IsPermutation, Ordering.is_lt, Ordering.nat_cmp}
use Rattle.std.proofs.lemmas.{Bool.Decides.nat_tests, Bool.and_from, Bool.and_parts, Bool.cases_Bool, Bool.eq-eqb, Bool.eqb-true, Bool.ne_eqb, Bool.not_from_false, List.length-take-le, List.take-append-drop, List.Sorted.IsPermutation-cons, List.Sorted.IsPermutation-sym, List.Sorted.IsPermutation-to_front, List.Sorted.IsPermutation-trans}
use Rattle.srp_base.proofs.Lists.{each_append as all_join}
use Rattle.srp_base.specs.declared.{bandwidth.Class.TheVariants.A, bandwidth.Class.TheVariants.B, numbers.StreamId.StreamId}
use Rattle.stream_importance.specs.declared.{entry.Entry.Entry, entry.Want.Want, slope.Caps.Caps}
use Rattle.stream_importance.specs.Importance.{is_more_important, moment_or, IsImportanceOrder}
use Rattle.port_ledger.specs.{Standing, booked_slope, entry_of, has_new_booking, unbooked_entry, with_want, without, stream_of, comes_after, does_fit, is_booked, marked_set, marks_of, AreOfDifferentStreams, IsAscending, AreBehind, ArePriorTo, IsAhead, IsBehind, IsFront, IsOrdered, IsOrderedBook, IsSettled, later_standing, same_level, exchanged, has_want, totals_of}
use Rattle.port_ledger.specs.declared.totals.Totals.{Totals}
use Rattle.port_ledger.specs.Book.{Book}
use Rattle.port_ledger.proofs.{Deciding.different_right, Fronts.seam-take, Keeping.all-without, Keeping.ascending-with_want, Keeping.ascending-without, Keeping.moments-with_want, Marking.choice_above, Marking.different_from_ascending, Marking.marked-map, Moving.with_want_exchanged, Moving.without_permuted, Ranking.all_permuted, Ranking.different_permuted, Ranking.holds_permuted, Running.all_with, Running.Holds, Settling.all_left, Settling.runs_front, Settling.settled_later, Settling.settled_seam, TotalsLemmas.new_any, TotalsLemmas.slope-permuted, TotalsLemmas.totals_fit, TotalsLemmas.totals_later, TotalsLemmas.totals-permuted}

-- ---- whose stream stands in no front

pub none_found : (s : StreamId) (xs : List Entry) → entry_of xs s ≡ None → AllByRecursion (λ y. stream_of y ≢ s.0) xs
none_found s [] h = tt
none_found s (x ∷ xs) h =
    elim (cases_Bool (stream_of x == s.0)) [
      | inl e ↦ absurd (let found : entry_of (x ∷ xs) s ≡ Some x = ap (λ v. cond v (Some x) (entry_of xs s)) e in cc)
      | inr e ↦ (
        (λ k. true≢false (sym (eq-eqb (stream_of x) s.0 k) ∙ e)),
        none_found s xs (sym (ap (λ v. cond v (Some x) (entry_of xs s)) e) ∙ h),
      )
    ]

one_found : (s : StreamId) (e : Entry) (xs : List Entry) → AreOfDifferentStreams xs → entry_of xs s ≡ Some e
    → AllByRecursion (λ y. stream_of y ≡ s.0 → y ≡ e) xs
one_found s e [] d h = tt
one_found s e (x ∷ xs) d h =
    elim (cases_Bool (stream_of x == s.0)) [
      | inl k ↦
          (let found : entry_of (x ∷ xs) s ≡ Some x = ap (λ v. cond v (Some x) (entry_of xs s)) k in
          let is : x ≡ e = cc in
          ((λ _. is), all_with xs d.0 d.0 (λ y ne _ f. absurd (ne (eqb-true (stream_of x) s.0 k ∙ sym f)))))
      | inr k ↦ (
        (λ f. absurd (true≢false (sym (eq-eqb (stream_of x) s.0 f) ∙ k))),
        one_found s e xs d.1 (sym (ap (λ v. cond v (Some x) (entry_of xs s)) k) ∙ h),
      )
    ]

pub apart : (now : ℕ) (o : IsImportanceOrder now) (s : StreamId) (goes : Option Entry) (es f r : List Entry) → AreOfDifferentStreams es → IsPermutation es (f ++ r)
    → entry_of es s ≡ goes → ArePriorTo now goes f → AllByRecursion (λ y. stream_of y ≢ s.0) f
apart now o s None es f r d p h prior =
    all_left (λ y. stream_of y ≢ s.0) f r (all_permuted (λ y. stream_of y ≢ s.0) es (f ++ r) p (none_found s es h))
apart now o s (Some e) es f r d p h prior =
    all_with f (all_left (λ y. stream_of y ≡ s.0 → y ≡ e) f r (all_permuted (λ y. stream_of y ≡ s.0 → y ≡ e) es (f ++ r) p (one_found s e es d h))) prior
    (λ y only before same.
    let first = (and_parts (is_more_important now y e) (is_booked y || not (same_level y e)) before).0 in
    let itself : is_more_important now e e ≡ true = subst (λ (z : Entry). is_more_important now z e ≡ true) (only same) first in
    o.strict e e itself itself)

-- ---- the other entries behind a front

behind_new : (now : ℕ) (x : Entry) (f : List Entry) → AllByRecursion (λ y. stream_of y ≢ stream_of x) f → ArePriorTo now (Some x) f → IsBehind now f x
behind_new now x f ne prior =
    all_with f ne prior
    (λ y n h.
    let parts = and_parts (is_more_important now y x) (is_booked y || not (same_level y x)) h in
    and_from (comes_after now x y) (is_booked y || not (same_level y x))
    (and_from (not (stream_of y == stream_of x)) (is_more_important now y x) (not_from_false (stream_of y == stream_of x) (ne_eqb (stream_of y) (stream_of x) n)) parts.0)
    parts.1)

without_front : (s : StreamId) (f r : List Entry) → AllByRecursion (λ y. stream_of y ≢ s.0) f → without (f ++ r) s ≡ f ++ without r s
without_front s [] r ne = refl
without_front s (x ∷ f) r ne = grind (arith, without_front s f r ne.1, ne_eqb)

-- ---- what holds of every ledger

by_place : (b c : Entry → Bool) (xs : List Entry) → map b xs ≡ map c xs → AllByRecursion (λ x. b x ≡ c x) xs
by_place b c [] h = tt
by_place b c (x ∷ xs) h =
    let first : b x ≡ c x = cc in
    let rest : map b xs ≡ map c xs = cc in
    (first, by_place b c xs rest)

module _ (now : ℕ) (o : IsImportanceOrder now) (caps : Caps) (standing : Standing) (es order : List Entry) (h : IsOrderedBook now caps standing es order) where
  holds : AllByRecursion (Holds now caps 0 is_booked order) order
  holds =
      let fits : AllByRecursion (λ x. is_booked x ≡ does_fit now caps (marked_set es (marks_of es)) x) es =
      by_place is_booked (does_fit now caps (marked_set es (marks_of es))) es h.kept.decision in
      holds_permuted now caps 0 is_booked es order h.ordered.same
      (all_with es fits fits (λ x k _. k ∙ (ap (λ set. does_fit now caps set x) (marked-map is_booked es) ∙ sym (choice_above is_booked now caps es x))))

  pub book_settled : standing.settled ≤ length order
  book_settled = h.ordered.settled.within

  pub book_totals : standing.totals ≡ totals_of now order
  book_totals = h.ordered.totals ∙ sym (totals-permuted now es order h.ordered.same)

  pub book_range : booked_slope order A + booked_slope order B < 2 ^ 64
  book_range =
      let a = slope-permuted es order A h.ordered.same in
      let b = slope-permuted es order B h.ordered.same in
      let fits = totals_fit (record { caps = caps; moment = now; entries = es }) o h.kept h.range in
      omega (arith, a, b, fits)

  different : AreOfDifferentStreams es
  different = different_from_ascending es h.kept.ascending

  module _ (place : ℕ) (s : IsSettled now place order) where
    abbrev f : List Entry
    f = take place order

    abbrev r : List Entry
    r = drop place order

    pub book_place : place ≤ length order
    book_place = s.within

    parts : IsPermutation es (f ++ r)
    parts = subst (λ (ys : List Entry). IsPermutation es ys) (sym (take-append-drop place order)) h.ordered.same

    pub book_different : AreOfDifferentStreams r
    book_different = different_right f r (different_permuted es (f ++ r) parts different)

    is_ahead : IsAhead now f r
    is_ahead = s.ahead

    all_holds : AllByRecursion (Holds now caps 0 is_booked (f ++ r)) (f ++ r)
    all_holds = subst (λ (ys : List Entry). AllByRecursion (Holds now caps 0 is_booked ys) ys) (sym (take-append-drop place order)) holds

    pub book_behind : AreBehind f r es
    book_behind = record { ascending = h.kept.ascending; same = parts }

    front_of : (front : Totals) (later rest : List Entry) → front ≡ totals_of now f → IsAscending later → AllByRecursion (λ x. moment_or now x.since ≤ now) later
        → IsPermutation later (f ++ rest) → AllByRecursion (IsBehind now f) rest → IsFront now caps place front later (f ++ rest)
    front_of front later rest e up moments same behind = grind (arith, seam-take, book_place, length-take-le, settled_seam, runs_front, is_ahead, all_holds)

    -- of a stream whose entry goes, or that has none, nothing stands in the front
    pub front_apart : (s : StreamId) (goes : Option Entry) → entry_of es s ≡ goes → ArePriorTo now goes f → AllByRecursion (λ y. stream_of y ≢ s.0) f
    front_apart s goes found old = apart now o s goes es f r different parts found old

    -- a want that isn't kept comes
    pub want_comes : (front : Totals) (want : Want) (goes : Option Entry) → front ≡ totals_of now f → entry_of es want.stream ≡ goes → has_want es want ≡ false
        → ArePriorTo now goes f → ArePriorTo now (Some (unbooked_entry want)) f
        → IsFront now caps place front (with_want es want) (f ++ exchanged r want)
    want_comes front want goes e found other old new =
        let ne : AllByRecursion (λ y. stream_of y ≢ want.stream.0) f = front_apart want.stream goes found old in
        let rest : IsPermutation (without es want.stream) (f ++ without r want.stream) =
        subst (λ (ys : List Entry). IsPermutation (without es want.stream) ys) (without_front want.stream f r ne) (without_permuted es (f ++ r) want.stream parts) in
        front_of front (with_want es want) (exchanged r want) e
        (ascending-with_want want es h.kept.ascending) (moments-with_want now want es h.kept.moments)
        (subst (λ (ys : List Entry). IsPermutation (with_want es want) ys) (append_assoc f (without r want.stream) (unbooked_entry want ∷ []))
        (IsPermutation-trans (with_want es want) (unbooked_entry want ∷ without es want.stream) ((f ++ without r want.stream) ++ unbooked_entry want ∷ [])
        (with_want_exchanged want es h.kept.ascending other)
        (IsPermutation-trans (unbooked_entry want ∷ without es want.stream) (unbooked_entry want ∷ (f ++ without r want.stream)) ((f ++ without r want.stream) ++ unbooked_entry want ∷ [])
        (IsPermutation-cons (unbooked_entry want) (without es want.stream) (f ++ without r want.stream) rest)
        (IsPermutation-sym ((f ++ without r want.stream) ++ unbooked_entry want ∷ []) (unbooked_entry want ∷ (f ++ without r want.stream))
        (IsPermutation-to_front (f ++ without r want.stream) (unbooked_entry want))))))
        (all_join (IsBehind now f) (without r want.stream) (unbooked_entry want ∷ []) (all-without (IsBehind now f) want.stream r is_ahead.behind) (behind_new now (unbooked_entry want) f ne new, tt))

    -- an entry goes
    pub entry_goes : (front : Totals) (s : StreamId) (goes : Option Entry) → front ≡ totals_of now f → entry_of es s ≡ goes → ArePriorTo now goes f
        → IsFront now caps place front (without es s) (f ++ without r s)
    entry_goes front s goes e found old =
        let ne : AllByRecursion (λ y. stream_of y ≢ s.0) f = apart now o s goes es f r different parts found old in
        front_of front (without es s) (without r s) e
        (ascending-without s es h.kept.ascending) (all-without (λ x. moment_or now x.since ≤ now) s es h.kept.moments)
        (subst (λ (ys : List Entry). IsPermutation (without es s) ys) (without_front s f r ne) (without_permuted es (f ++ r) s parts))
        (all-without (IsBehind now f) s r is_ahead.behind)

-- ---- what is kept beside the entries, at a later moment

pub ordered_later : (moment now : ℕ) (moved : Bool) (standing later : Standing) (es order : List Entry) → IsOrdered moment standing es order
    → AllByRecursion (λ x. moment_or moment x.since ≤ moment) es → moment ≤ now → moved ≡ nat_lt moment now → later ≡ later_standing moved standing
    → IsOrdered now later es order
ordered_later moment now moved standing later es order h moments up moves e =
    subst (λ (s : Standing). IsOrdered now s es order) (sym e)
    (record {
      same = h.same;
      settled = settled_later moment now standing.settled order up h.settled;
      totals = totals_later moment now es standing.totals moved h.totals moves moments up;
    })

pub less_test : (a b : ℕ) → is_lt (nat_cmp a b) ≡ true → nat_lt a b ≡ true
less_test a b h = grind (arith, nat_tests)

pub new_shown : (now : ℕ) (book : Book) (t : Totals) → t ≡ totals_of book.moment book.entries → nat_lt book.moment now ≡ true
    → nat_lt 0 t.new_count ≡ (nat_lt book.moment now && has_new_booking book)
new_shown now book t e lt = grind (arith, new_any)
