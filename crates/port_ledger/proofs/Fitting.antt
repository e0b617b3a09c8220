-- What leaves a fit as it was.
use Rattle.std.proofs.Common.{◌≡◌, ◌≢◌, ℕ, ◌<◌, ◌≤◌, Bool, true, false, ◌==◌, ◌&&◌, cond, if◌then◌else◌, List, [], ◌∷◌, filter, sum_by, Option, Some, None, option_and_then, is_some, IfSome, refl, sym, ◌∙◌, ap, subst, arith, inl, inr, zero-add}
use Rattle.std.specs.Prelude.{nat_lt}
use Rattle.std.specs.{List.AllByRecursion, List.list_any}
use Rattle.std.proofs.lemmas.{Bool.cases_Bool, Bool.cases_order, Bool.cases_lt, Bool.eqb-true, Bool.eqb-false, Bool.lt-ltb, Bool.or_parts, List.Sums.sum_by-cons}
use Rattle.srp_base.proofs.{Arithmetic.less_is_below, Lists.each_filter}
use Rattle.srp_base.specs.declared.{numbers.Cs.Cs, numbers.StreamId.StreamId}
use Rattle.stream_importance.specs.declared.{entry.Entry.Entry, entry.Want.Want, slope.Caps.Caps}
use Rattle.stream_importance.specs.{Importance.moment_or}
use Rattle.port_ledger.specs.{stream_of, entry_slope, above, booked_of, is_booked, comes_after, IsAscending, IsKept, entry_of, fit_for, fit_in, has_new_booking, is_normal, is_since, since_if_same, since_of, tested_entry, normal_slope_before, slope_before}
use Rattle.port_ledger.specs.Book.{Book}
use Rattle.port_ledger.proofs.{Comparing.all_booked, Finding.none_of, Rounds.filter_agree, Running.all_with}

-- the moment with which a want is tested
abbrev tested_since : Want → Option Entry → Option Cs
tested_since want o = option_and_then (λ x. since_if_same x want) o

unbooked_since : (want : Want) (x : Entry) → is_booked x ≡ false → since_if_same x want ≡ None
unbooked_since want x h = grind (arith)

-- it is that of the booked entry
tested_booked : (want : Want) (xs : List Entry) → IsAscending xs
    → tested_since want (entry_of xs want.stream) ≡ tested_since want (entry_of (booked_of xs) want.stream)
tested_booked want [] up = refl
tested_booked want (x ∷ xs) up =
    elim (cases_Bool (stream_of x == want.stream.0)) [
      | inl e ↦
          (let none : entry_of (booked_of xs) want.stream ≡ None =
          none_of want.stream (booked_of xs)
          (all_booked (λ y. want.stream.0 < stream_of y) xs
          (subst (λ (n : ℕ). AllByRecursion (λ y. n < stream_of y) xs) (eqb-true (stream_of x) want.stream.0 e) up.0)) in
          ap (λ v. tested_since want (cond v (Some x) (entry_of xs want.stream))) e
          ∙ elim (cases_Bool (is_booked x)) [
            | inl h ↦ ap (λ v. tested_since want (cond v (Some x) (entry_of (booked_of xs) want.stream))) (sym e)
                ∙ ap (λ v. tested_since want (entry_of (cond v (x ∷ booked_of xs) (booked_of xs)) want.stream)) (sym h)
            | inr h ↦ unbooked_since want x h
                ∙ (ap (tested_since want) (sym none) ∙ ap (λ v. tested_since want (entry_of (cond v (x ∷ booked_of xs) (booked_of xs)) want.stream)) (sym h))
          ])
      | inr e ↦
          ap (λ v. tested_since want (cond v (Some x) (entry_of xs want.stream))) e
          ∙ (tested_booked want xs up.1
          ∙ elim (cases_Bool (is_booked x)) [
            | inl h ↦ ap (λ v. tested_since want (cond v (Some x) (entry_of (booked_of xs) want.stream))) (sym e)
                ∙ ap (λ v. tested_since want (entry_of (cond v (x ∷ booked_of xs) (booked_of xs)) want.stream)) (sym h)
            | inr h ↦ ap (λ v. tested_since want (entry_of (cond v (x ∷ booked_of xs) (booked_of xs)) want.stream)) (sym h)
          ])
    ]

pub fits_by_bookings : (book other : Book) (now : ℕ) (want : Want) → IsAscending book.entries → IsAscending other.entries
    → book.caps ≡ other.caps → booked_of book.entries ≡ booked_of other.entries
    → fit_for now book want ≡ fit_for now other want
fits_by_bookings book other now want up down caps same =
    let since : tested_since want (entry_of book.entries want.stream) ≡ tested_since want (entry_of other.entries want.stream) =
    tested_booked want book.entries up ∙ (ap (λ es. tested_since want (entry_of es want.stream)) same ∙ sym (tested_booked want other.entries down)) in
    ap (λ (c : Caps). fit_in now c (booked_of book.entries) (tested_entry book.entries want)) caps
    ∙ (ap (λ set. fit_in now other.caps set (tested_entry book.entries want)) same
    ∙ ap (λ s. fit_in now other.caps (booked_of other.entries) (record { want = want; since = s })) since)

-- booked before a moment
abbrev IsBefore : ℕ → Option Cs → Type 0
IsBefore moment None = ⊥
IsBefore moment (Some since) = since.0 < moment

-- where no booking is of the moment, all are before it
all_before : (moment : ℕ) (xs : List Entry) → AllByRecursion (λ x. moment_or moment x.since ≤ moment) xs
    → list_any (λ x. is_since moment x.since) xs ≡ false → AllByRecursion (λ x. IsBefore moment x.since) (booked_of xs)
all_before moment [] h none = tt
all_before moment (x ∷ xs) h none =
    by_since x.since h.0 (or_parts (is_since moment x.since) (list_any (λ y. is_since moment y.since) xs) none).0 refl
    (all_before moment xs h.1 (or_parts (is_since moment x.since) (list_any (λ y. is_since moment y.since) xs) none).1)
  where
    by_since : (o : Option Cs) → moment_or moment o ≤ moment → is_since moment o ≡ false → o ≡ x.since
        → AllByRecursion (λ y. IsBefore moment y.since) (booked_of xs)
        → AllByRecursion (λ y. IsBefore moment y.since) (cond (is_some o) (x ∷ booked_of xs) (booked_of xs))
    by_since None l other e rest = rest
    by_since (Some c) l other e rest =
        let ne : c.0 ≢ moment = eqb-false c.0 moment other in
        (subst (λ (s : Option Cs). IsBefore moment s) e (below c.0 l ne), rest)
      where
        below : (n : ℕ) → n ≤ moment → n ≢ moment → n < moment
        below n l ne = elim (cases_lt n moment) [ inl k ↦ k | inr k ↦ absurd (ne (omega (arith, k, l))) ]

-- such a booking goes before a want alike at every later moment
same_preceded : (moment now : ℕ) (x y : Entry) → moment ≤ now → IsBefore moment y.since
    → comes_after now x y ≡ comes_after moment x y
same_preceded moment now x y up before = grind (arith, less_is_below)

same_above : (moment now : ℕ) (x : Entry) (set : List Entry) → moment ≤ now
    → AllByRecursion (λ y. IsBefore moment y.since) set → above now x set ≡ above moment x set
same_above moment now x set up h =
    ap (sum_by entry_slope) (filter_agree (comes_after now x) (comes_after moment x) set (all_with set h h (λ y k _. same_preceded moment now x y up k)))

same_fit : (moment now : ℕ) (caps : Caps) (set : List Entry) (x : Entry) → moment ≤ now
    → AllByRecursion (λ y. IsBefore moment y.since) set → fit_in now caps set x ≡ fit_in moment caps set x
same_fit moment now caps set x up h = grind (arith, same_above, each_filter)

pub fits_by_clock : (book : Book) (now : ℕ) (want : Want) → IsKept book → book.moment ≤ now
    → (nat_lt book.moment now && has_new_booking book) ≡ false → fit_for now book want ≡ fit_for book.moment book want
fits_by_clock book now want kept up none =
    elim (cases_order book.moment now) [
      | inl e ↦ ap (λ n. fit_for n book want) (sym e)
      | inr c ↦ elim c [
        | inl l ↦
            same_fit book.moment now book.caps (booked_of book.entries) (tested_entry book.entries want) up
            (all_before book.moment book.entries kept.moments (sym (ap (λ v. v && has_new_booking book) (lt-ltb book.moment now l)) ∙ none))
        | inr l ↦ absurd (omega (arith, l, up))
      ]
    ]

-- no booking is ahead of its ledger
pub none_ahead : (moment : ℕ) (xs : List Entry) (s : StreamId) → AllByRecursion (λ x. moment_or moment x.since ≤ moment) xs
    → IfSome (since_of xs s) (λ since. since.0 ≤ moment)
none_ahead moment [] s h = tt
none_ahead moment (x ∷ xs) s h =
    elim (stream_of x == s.0) as (λ v. IfSome (option_and_then (λ (y : Entry). y.since) (cond v (Some x) (entry_of xs s))) (λ since. since.0 ≤ moment)) [
      | true ↦ own x.since h.0
      | false ↦ none_ahead moment xs s h.1
    ]
  where
    own : (o : Option Cs) → moment_or moment o ≤ moment → IfSome o (λ since. since.0 ≤ moment)
    own None l = tt
    own (Some c) l = l

-- ---- what precedes an entry, as a sum over all entries

-- what a filter leaves out takes nothing
sum-kept : (f g : Entry → ℕ) (q : Entry → Bool) → ((y : Entry) → f y ≡ cond (q y) (g y) 0) → (xs : List Entry) → sum_by f xs ≡ sum_by g (filter q xs)
sum-kept f g q h [] = refl
sum-kept f g q h (y ∷ ys) = grind (arith, sum-kept f g q h ys, sum_by-cons, zero-add)

module _ (now : ℕ) (x : Entry) where
  abbrev preceding : Entry → ℕ
  preceding y = if comes_after now x y then entry_slope y else 0

  abbrev normal_preceding : Entry → ℕ
  normal_preceding y = if is_normal y then preceding y else 0

  pub above-summed : (xs : List Entry) → sum_by (slope_before now x) xs ≡ above now x (booked_of xs)
  above-summed xs =
      sum-kept (slope_before now x) preceding is_booked (λ y. refl) xs
      ∙ sum-kept preceding entry_slope (comes_after now x) (λ y. refl) (booked_of xs)

  either_first : (a b : Bool) (n : ℕ) → cond a (cond b n 0) 0 ≡ cond b (cond a n 0) 0
  either_first a b n = grind arith

  pub normal-summed : (xs : List Entry) → sum_by (normal_slope_before now x) xs ≡ above now x (filter is_normal (booked_of xs))
  normal-summed xs =
      sum-kept (normal_slope_before now x) normal_preceding is_booked (λ y. either_first (is_normal y) (is_booked y) (preceding y)) xs
      ∙ sum-kept normal_preceding preceding is_normal (λ y. refl) (booked_of xs)
      ∙ sum-kept preceding entry_slope (comes_after now x) (λ y. refl) (filter is_normal (booked_of xs))
