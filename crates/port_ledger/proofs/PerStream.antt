-- What a ledger's calls make of the entry of one stream.
use Rattle.std.proofs.Common.{◌≡◌, ◌≢◌, ◌↔◌, ℕ, ◌<◌, Bool, true, false, ◌==◌, cond, List, [], ◌∷◌, map, Option, Some, None, option_map, option_and_then, IfSome, IsSome, refl, sym, ◌∙◌, ap, subst, arith, inl, inr}
use Rattle.std.specs.Prelude.{find}
use Rattle.std.specs.List.{AllByRecursion}
use Rattle.std.proofs.lemmas.Bool.{eq-eqb, ne_eqb, and_parts, and_from, cases_order, cases_Bool, cond-true, cond-false, eqb-true, eqb-false}
use Rattle.srp_base.specs.declared.{numbers.Cs.Cs, numbers.StreamId.StreamId, bandwidth.Class.Class, bandwidth.Rank.Rank}
use Rattle.stream_importance.specs.declared.{entry.Entry.Entry, entry.Want.Want, entry.Fit.Fit, entry.Fit.TheVariants.Fits, entry.Fit.TheVariants.TooLittle, slope.Caps.Caps}
use Rattle.stream_importance.specs.{Bandwidth.cap_of, Importance.class_number, Importance.rank_number, Importance.IsImportanceOrder}
use Rattle.port_ledger.specs.{stream_of, decided_entries, decided_set, booked_of, is_booked, does_fit, above, marks_of, with_moments, IsAscending, IsDecision, Decides, entry_of, entry_with, want_of, since_of, since_if_same, same_entry, same_since, same_want, unbooked_entry, with_want, tested_entry, fit_in, code_of}
use Rattle.port_ledger.proofs.{Finding.with_want-lower, Finding.with_want-same, Finding.with_want-higher, Marking.marked-map, Marking.decision_unique, Marking.different_from_ascending, Running.all_with, Standing.settled-own}

-- where two functions agree on a list, they agree on what is found in it
map_found : (f g p : Entry → Bool) (xs : List Entry) → map f xs ≡ map g xs → IfSome (find p xs) (λ x. f x ≡ g x)
map_found f g p [] e = tt
map_found f g p (x ∷ xs) e =
    let head : f x ≡ g x = cc in
    let rest : map f xs ≡ map g xs = cc in
    elim (p x) as (λ v. IfSome (cond v (Some x) (find p xs)) (λ y. f y ≡ g y)) [ true ↦ head | false ↦ map_found f g p xs rest ]

-- a stream's entry is booked exactly where it fits among the booked ones
pub one_booked : (now : ℕ) (caps : Caps) (xs : List Entry) (s : StreamId) → IsDecision now caps xs (marks_of xs)
    → IfSome (entry_of xs s) (λ x. is_booked x ≡ does_fit now caps (booked_of xs) x)
one_booked now caps xs s d =
    map_found is_booked (does_fit now caps (booked_of xs)) (λ x. stream_of x == s.0) xs
    (d ∙ ap (λ set. map (does_fit now caps set) xs) (marked-map is_booked xs))

-- wants are the same where each part is
same_class : (a b : Class) → class_number a ≡ class_number b → a ≡ b
same_class a b h1 = grind arith

same_rank : (a b : Rank) → rank_number a ≡ rank_number b → a ≡ b
same_rank a b h1 = grind arith

pub same_want-refl : (a : Want) → same_want a a ≡ true
same_want-refl a = grind (arith, and_from, eq-eqb)

pub same_want-is : (a b : Want) → same_want a b ≡ true → a ≡ b
same_want-is a b h = grind (arith, and_parts, eqb-true, same_class, same_rank)

-- so are moments
pub same_since-is : (a b : Option Cs) → same_since a b ≡ true → a ≡ b
same_since-is a b h1 = grind (arith, eqb-true)

same_since-refl : (a : Option Cs) → same_since a a ≡ true
same_since-refl a = grind (arith, eq-eqb)

-- and entries
pub same_entry-is : (x y : Entry) → same_entry x y ≡ true → x ≡ y
same_entry-is x y h = grind (arith, and_parts, same_want-is, same_since-is)

pub same_entry-refl : (x : Entry) → same_entry x x ≡ true
same_entry-refl x = and_from (same_want x.want x.want) (same_since x.since x.since) (same_want-refl x.want) (same_since-refl x.since)

-- the entry that stands in an entry's place has the want
want-entry_with : (x : Entry) (want : Want) → (entry_with x want).want ≡ want
want-entry_with x want = grind (arith, same_want-is)

-- the first entry is that of the stream, or the stream's entry is further on
pub want_of-here : (x : Entry) (xs : List Entry) (s : StreamId) → stream_of x ≡ s.0 → want_of (x ∷ xs) s ≡ Some x.want
want_of-here x xs s e = grind (arith, option_map, eq-eqb)

pub want_of-past : (x : Entry) (xs : List Entry) (s : StreamId) → stream_of x ≢ s.0 → want_of (x ∷ xs) s ≡ want_of xs s
want_of-past x xs s ne = grind (arith, option_map, ne_eqb)

stream_of-entry_with : (x : Entry) (want : Want) → stream_of (entry_with x want) ≡ want.stream.0
stream_of-entry_with x want = ap (λ (w : Want). w.stream.0) (want-entry_with x want)

-- with a want, its stream has that one
pub want_of-own : (want : Want) (xs : List Entry) (s : StreamId) → s.0 ≡ want.stream.0
    → want_of (with_want xs want) s ≡ Some want
want_of-own want [] s e = want_of-here (unbooked_entry want) [] s (sym e)
want_of-own want (x ∷ xs) s e =
    elim (cases_order want.stream.0 (stream_of x)) [
      | inl same ↦
          ap (λ ys. want_of ys s) (with_want-same x xs want (sym same))
          ∙ (want_of-here (entry_with x want) xs s (stream_of-entry_with x want ∙ sym e) ∙ ap (λ w. Some w) (want-entry_with x want))
      | inr c ↦ elim c [
        | inl lower ↦ ap (λ ys. want_of ys s) (with_want-lower x xs want lower) ∙ want_of-here (unbooked_entry want) (x ∷ xs) s (sym e)
        | inr higher ↦
            ap (λ ys. want_of ys s) (with_want-higher x xs want higher)
            ∙ (want_of-past x (with_want xs want) s (λ f. omega (arith, e, f, higher)) ∙ want_of-own want xs s e)
      ]
    ]

-- and each other stream has what it had
pub want_of-other : (want : Want) (xs : List Entry) (s : StreamId) → s.0 ≢ want.stream.0
    → want_of (with_want xs want) s ≡ want_of xs s
want_of-other want [] s ne = want_of-past (unbooked_entry want) [] s (λ e. ne (sym e))
want_of-other want (x ∷ xs) s ne =
    elim (cases_order want.stream.0 (stream_of x)) [
      | inl same ↦
          ap (λ ys. want_of ys s) (with_want-same x xs want (sym same))
          ∙ (want_of-past (entry_with x want) xs s (λ e. ne (sym e ∙ stream_of-entry_with x want))
          ∙ sym (want_of-past x xs s (λ e. ne (sym e ∙ sym same))))
      | inr c ↦ elim c [
        | inl lower ↦ ap (λ ys. want_of ys s) (with_want-lower x xs want lower) ∙ want_of-past (unbooked_entry want) (x ∷ xs) s (λ e. ne (sym e))
        | inr higher ↦
            ap (λ ys. want_of ys s) (with_want-higher x xs want higher)
            ∙ elim (cases_Bool (stream_of x == s.0)) [
              | inl h ↦
                  (let e : stream_of x ≡ s.0 = eqb-true (stream_of x) s.0 h in
                  want_of-here x (with_want xs want) s e ∙ sym (want_of-here x xs s e))
              | inr h ↦
                  (let f : stream_of x ≢ s.0 = eqb-false (stream_of x) s.0 h in
                  want_of-past x (with_want xs want) s f ∙ (want_of-other want xs s ne ∙ sym (want_of-past x xs s f)))
            ]
      ]
    ]

-- a decision changes no want
pub want_of-settled : (now : ℕ) (b : Entry → Bool) (xs : List Entry) (s : StreamId)
    → want_of (with_moments now xs (map b xs)) s ≡ want_of xs s
want_of-settled now b [] s = refl
want_of-settled now b (x ∷ xs) s = grind (arith, want_of-settled now b xs s, option_map)

want_of-decided : (now : ℕ) (caps : Caps) (before after : List Entry) (s : StreamId)
    → Decides now caps before after → want_of after s ≡ want_of before s
want_of-decided now caps before after s d = grind (arith, want_of-settled)

-- of its own stream the want, and of each other stream the want that it had
want_of-with_want : (want : Want) (old : List Entry) (s : StreamId)
    → want_of (with_want old want) s ≡ cond (s.0 == want.stream.0) (Some want) (want_of old s)
want_of-with_want want old s = grind (arith, cases_Bool, want_of-own, eqb-true, cond-true, want_of-other, eqb-false, cond-false)

pub wants_wanted : (now : ℕ) (caps : Caps) (old : List Entry) (want : Want) (s : StreamId)
    → want_of (decided_entries now caps (with_want old want)) s ≡ cond (s.0 == want.stream.0) (Some want) (want_of old s)
unfolding decided_entries
wants_wanted now caps old want s =
    want_of-settled now (does_fit now caps (decided_set now caps (with_want old want))) (with_want old want) s ∙ want_of-with_want want old s

pub wants_kept : (now : ℕ) (caps : Caps) (old new : List Entry) (want : Want)
    → Decides now caps (with_want old want) new
    → (s : StreamId) → want_of new s ≡ cond (s.0 == want.stream.0) (Some want) (want_of old s)
wants_kept now caps old new want d s =
    want_of-decided now caps (with_want old want) new s d ∙ want_of-with_want want old s

-- no stream below all of a list has an entry there
want_of-none : (s : StreamId) (xs : List Entry) → AllByRecursion (λ y. s.0 < stream_of y) xs → want_of xs s ≡ None
want_of-none s [] h = refl
want_of-none s (x ∷ xs) h = want_of-past x xs s (λ e. let l : s.0 < stream_of x = h.0 in omega (arith, e, l)) ∙ want_of-none s xs h.1

-- a want that is kept adds nothing
pub with_want-again : (want : Want) (xs : List Entry) → IsAscending xs → want_of xs want.stream ≡ Some want
    → with_want xs want ≡ xs
with_want-again want [] up h = cc
with_want-again want (x ∷ xs) up h =
    elim (cases_order want.stream.0 (stream_of x)) [
      | inl same ↦
          (let e : Some x.want ≡ Some want = sym (want_of-here x xs want.stream (sym same)) ∙ h in
          let f : x.want ≡ want = cc in
          let k : same_want x.want want ≡ true = ap (same_want x.want) (sym f) ∙ same_want-refl x.want in
          with_want-same x xs want (sym same) ∙ ap (λ y. y ∷ xs) (cond-true (same_want x.want want) x (unbooked_entry want) k))
      | inr c ↦ elim c [
        | inl lower ↦
            (let none : want_of (x ∷ xs) want.stream ≡ None =
            want_of-none want.stream (x ∷ xs) (lower, all_with xs up.0 up.0 (λ y l _. omega (arith, l, lower))) in
            cc)
        | inr higher ↦
            with_want-higher x xs want higher
            ∙ ap (λ ys. x ∷ ys) (with_want-again want xs up.1 (sym (want_of-past x xs want.stream (λ e. omega (arith, e, higher))) ∙ h))
      ]
    ]

-- entries that are decided already are left as they are
pub decided_again : (now : ℕ) (o : IsImportanceOrder now) (caps : Caps) (xs ys : List Entry) → IsAscending xs
    → IsDecision now caps xs (marks_of xs) → Decides now caps xs ys → ys ≡ xs
decided_again now o caps xs ys up d decides = grind (arith, decision_unique, different_from_ascending, settled-own)

pub same_again : (now : ℕ) (o : IsImportanceOrder now) (caps : Caps) (old new : List Entry) (want : Want)
    → IsAscending old
    → IsDecision now caps old (marks_of old) → Decides now caps (with_want old want) new → want_of old want.stream ≡ Some want → new ≡ old
same_again now o caps old new want up d decides h = grind (arith, decided_again, with_want-again)

-- a want that is kept is tested as its entry, so it fits exactly where it is booked
pub kept_fits : (now : ℕ) (caps : Caps) (entries : List Entry) (want : Want) (fit : Fit)
    → fit ≡ fit_in now caps (booked_of entries) (tested_entry entries want)
    → IfSome (entry_of entries want.stream) (λ x. is_booked x ≡ does_fit now caps (booked_of entries) x)
    → want_of entries want.stream ≡ Some want → (fit ≡ Fits) ↔ IsSome (since_of entries want.stream)
kept_fits now caps entries want fit e booked h =
    subst (λ (f : Fit). (f ≡ Fits) ↔ IsSome (since_of entries want.stream)) (sym e) (by_entry (entry_of entries want.stream) booked h)
  where
    by_test : (x : Entry) (b : Bool) → is_booked x ≡ b
        → (cond b Fits (TooLittle (above now x (booked_of entries)) (cap_of caps x.want.class) (code_of now caps (booked_of entries) x)) ≡ Fits) ↔ IsSome x.since
    by_test x true e = (λ _. e, λ _. refl)
    by_test x false e = (λ f. absurd (let k : false ≡ true = cc in cc), λ f. absurd (let k : false ≡ true = sym e ∙ f in cc))

    by_entry : (o : Option Entry) → IfSome o (λ x. is_booked x ≡ does_fit now caps (booked_of entries) x)
        → option_map (λ (x : Entry). x.want) o ≡ Some want
        → (fit_in now caps (booked_of entries) (record { want = want; since = option_and_then (λ x. since_if_same x want) o }) ≡ Fits)
        ↔ IsSome (option_and_then (λ (x : Entry). x.since) o)
    by_entry None booked h = absurd (let k : None ≡ Some want = h in cc)
    by_entry (Some x) booked h =
        let f : x.want ≡ want = cc in
        let same : same_want x.want want ≡ true = ap (same_want x.want) (sym f) ∙ same_want-refl x.want in
        let moment : record { want = want; since = since_if_same x want } ≡ record { want = want; since = x.since } =
        ap (λ b. record { want = want; since = cond b x.since None }) same in
        let own : record { want = want; since = x.since } ≡ x = ap (λ w. record { want = w; since = x.since }) (sym f) in
        let F : Entry → Type 0 = λ y. (fit_in now caps (booked_of entries) y ≡ Fits) ↔ IsSome x.since in
        subst F (sym moment) (subst F (sym own) (by_test x (does_fit now caps (booked_of entries) x) booked))
