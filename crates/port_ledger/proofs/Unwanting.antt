-- What a stream leaves that wants nothing more.
use Rattle.std.proofs.Common.{◌≡◌, ◌≢◌, ◌↔◌, ℕ, ◌<◌, ◌≤◌, Bool, true, false, not, ◌==◌, ◌||◌, cond, List, [], ◌∷◌, map, Option, Some, None, option_map, option_and_then, is_some, IsTrue, refl, sym, ◌∙◌, ap, subst, arith, inl, inr, true≢false}
use Rattle.std.specs.List.{AllByRecursion, list_any}
use Rattle.std.proofs.lemmas.Bool.{eq-eqb, ne_eqb, eqb-true, cases_Bool, or_from, or_parts}
use Rattle.srp_base.specs.declared.{numbers.Cs.Cs, numbers.StreamId.StreamId}
use Rattle.stream_importance.specs.declared.{entry.Entry.Entry, entry.Want.Want, slope.Caps.Caps}
use Rattle.stream_importance.specs.Importance.{IsImportanceOrder}
use Rattle.port_ledger.specs.{stream_of, does_fit, decided_entries, decided_set, is_booked, booked_of, marks_of, with_moments, IsAscending, IsDecision, IsKept, clocked_book, entry_of, since_of, unwanted_book, want_of, wanted_book, without, has_same, has_want}
use Rattle.port_ledger.specs.Book.{Book}
use Rattle.port_ledger.proofs.{Keeping.ascending-without, Marking.marked-map, Marking.different_from_ascending, PerStream.decided_again, PerStream.same_want-is, PerStream.want_of-settled, PerStream.want_of-here, PerStream.want_of-past, PerStream.with_want-again, Rounds.decided_decides, Rounds.decided_only, Standing.book_stands, Standing.settled-own}

-- a stream below all of the entries has none of them
without-below : (s : StreamId) (xs : List Entry) → AllByRecursion (λ y. s.0 < stream_of y) xs → without xs s ≡ xs
without-below s [] h = refl
without-below s (x ∷ xs) h = grind (arith, without-below s xs h.1, ne_eqb)

-- without a stream that isn't booked the booked set is the same
booked-without : (s : StreamId) (xs : List Entry) → IsAscending xs → since_of xs s ≡ None
    → booked_of (without xs s) ≡ booked_of xs
booked-without s [] up h = refl
booked-without s (x ∷ xs) up h =
    elim (cases_Bool (stream_of x == s.0)) [
      | inl e ↦
          (let own : since_of (x ∷ xs) s ≡ x.since = ap (λ v. option_and_then (λ (y : Entry). y.since) (cond v (Some x) (entry_of xs s))) e in
          let unbooked : is_booked x ≡ false = ap is_some (sym own ∙ h) in
          let rest : without xs s ≡ xs = without-below s xs (subst (λ (n : ℕ). AllByRecursion (λ y. n < stream_of y) xs) (eqb-true (stream_of x) s.0 e) up.0) in
          ap (λ v. booked_of (cond (not v) (x ∷ without xs s) (without xs s))) e ∙ (ap booked_of rest ∙ ap (λ v. cond v (x ∷ booked_of xs) (booked_of xs)) (sym unbooked)))
      | inr e ↦
          (let past : since_of xs s ≡ None = sym (ap (λ v. option_and_then (λ (y : Entry). y.since) (cond v (Some x) (entry_of xs s))) e) ∙ h in
          ap (λ v. booked_of (cond (not v) (x ∷ without xs s) (without xs s))) e ∙ ap (λ ys. cond (is_booked x) (x ∷ ys) ys) (booked-without s xs up.1 past))
    ]

-- where two functions agree on a list, they agree on a part of it
map-without : (f g : Entry → Bool) (s : StreamId) (xs : List Entry) → map f xs ≡ map g xs
    → map f (without xs s) ≡ map g (without xs s)
map-without f g s [] h = refl
map-without f g s (x ∷ xs) h = grind (arith, map-without f g s xs (let k : map f xs ≡ map g xs = cc in k))

-- what isn't booked is taken out without a trace
pub unbooked_out : (book : Book) (now : ℕ) (s : StreamId) → IsImportanceOrder now → IsKept book → book.moment ≤ now
    → since_of book.entries s ≡ None → decided_entries now book.caps (without book.entries s) ≡ without book.entries s
unbooked_out book now s o kept up none =
    let xs : List Entry = book.entries in
    let left : List Entry = without book.entries s in
    let d : marks_of xs ≡ map (does_fit now book.caps (booked_of xs)) xs =
    book_stands book kept now up ∙ ap (λ set. map (does_fit now book.caps set) xs) (marked-map is_booked xs) in
    let set : booked_of left ≡ booked_of xs = booked-without s xs kept.ascending none in
    let decision : IsDecision now book.caps left (marks_of left) =
    map-without is_booked (does_fit now book.caps (booked_of xs)) s xs d
    ∙ ap (λ set. map (does_fit now book.caps set) left) (sym set ∙ sym (marked-map is_booked left)) in
    sym (decided_only now o book.caps left left (different_from_ascending left (ascending-without s xs kept.ascending))
    (record { decision = decision; moments = sym (settled-own now left) }))

-- whether a stream has an entry
abbrev has_stream : StreamId → List Entry → Bool
has_stream s xs = list_any (λ x. stream_of x == s.0) xs

booked_has : (s : StreamId) (xs : List Entry) → is_some (since_of xs s) ≡ true → has_stream s (booked_of xs) ≡ true
booked_has s [] h = cc
booked_has s (x ∷ xs) h =
    elim (cases_Bool (stream_of x == s.0)) [
      | inl e ↦
          (let own : since_of (x ∷ xs) s ≡ x.since = ap (λ v. option_and_then (λ (y : Entry). y.since) (cond v (Some x) (entry_of xs s))) e in
          ap (λ v. has_stream s (cond v (x ∷ booked_of xs) (booked_of xs))) (sym (ap is_some own) ∙ h) ∙ ap (λ v. v || has_stream s (booked_of xs)) e)
      | inr e ↦
          (let past : is_some (since_of xs s) ≡ true = sym (ap (λ v. is_some (option_and_then (λ (y : Entry). y.since) (cond v (Some x) (entry_of xs s)))) e) ∙ h in
          elim (is_booked x) as (λ v. has_stream s (cond v (x ∷ booked_of xs) (booked_of xs)) ≡ true) [
            | true ↦ ap (λ v. v || has_stream s (booked_of xs)) e ∙ booked_has s xs past
            | false ↦ booked_has s xs past
          ])
    ]

booked_hasnt : (s : StreamId) (xs : List Entry) → has_stream s xs ≡ false → has_stream s (booked_of xs) ≡ false
booked_hasnt s [] h = refl
booked_hasnt s (x ∷ xs) h = grind (arith, booked_hasnt s xs (or_parts (stream_of x == s.0) (has_stream s xs) h).1, or_from, or_parts)

settled_has : (now : ℕ) (s : StreamId) (b : Entry → Bool) (xs : List Entry)
    → has_stream s (with_moments now xs (map b xs)) ≡ has_stream s xs
settled_has now s b [] = refl
settled_has now s b (x ∷ xs) = ap (λ v. (stream_of x == s.0) || v) (settled_has now s b xs)

without_hasnt : (s : StreamId) (xs : List Entry) → has_stream s (without xs s) ≡ false
without_hasnt s [] = refl
without_hasnt s (x ∷ xs) = grind (arith, without_hasnt s xs, cases_Bool, or_from)

decided_hasnt : (now : ℕ) (caps : Caps) (s : StreamId) (xs : List Entry)
    → has_stream s (booked_of (decided_entries now caps (without xs s))) ≡ false
unfolding decided_entries
decided_hasnt now caps s xs =
    booked_hasnt s (decided_entries now caps (without xs s))
    (settled_has now s (does_fit now caps (decided_set now caps (without xs s))) (without xs s) ∙ without_hasnt s xs)

-- the booked set changes exactly where the stream was booked
pub unwanted_changes : (book : Book) (now : ℕ) (s : StreamId) → IsImportanceOrder now → IsKept book → book.moment ≤ now
    → IsTrue (is_some (since_of book.entries s)) ↔ (booked_of (unwanted_book now s book).entries ≢ booked_of book.entries)
unwanted_changes book now s o kept up = (booked, by_since (since_of book.entries s) refl)
  where
    booked : IsTrue (is_some (since_of book.entries s)) → booked_of (unwanted_book now s book).entries ≢ booked_of book.entries
    booked h = λ same. true≢false (sym (booked_has s book.entries h) ∙ (ap (has_stream s) (sym same) ∙ decided_hasnt now book.caps s book.entries))

    by_since : (o' : Option Cs) → since_of book.entries s ≡ o' → booked_of (unwanted_book now s book).entries ≢ booked_of book.entries
        → IsTrue (is_some o')
    by_since (Some c) e h = refl
    by_since None e h = absurd (h (ap booked_of (unbooked_out book now s o kept up e) ∙ booked-without s book.entries kept.ascending e))

none_either : (v : Bool) → want_of [] (record { 0 = 0 }) ≡ cond v None (want_of [] (record { 0 = 0 }))
none_either v = grind arith

-- no want of the stream is kept, and each other stream's is
want_of-without : (stream : StreamId) (xs : List Entry) (s : StreamId)
    → want_of (without xs stream) s ≡ cond (s.0 == stream.0) None (want_of xs s)
want_of-without stream [] s = none_either (s.0 == stream.0)
want_of-without stream (x ∷ xs) s = grind (arith, want_of-without stream xs s, cases_Bool, want_of-past, eq-eqb, eqb-true, want_of-here)

pub wants_left : (now : ℕ) (caps : Caps) (xs : List Entry) (stream s : StreamId)
    → want_of (decided_entries now caps (without xs stream)) s ≡ cond (s.0 == stream.0) None (want_of xs s)
unfolding decided_entries
wants_left now caps xs stream s =
    want_of-settled now (does_fit now caps (decided_set now caps (without xs stream))) (without xs stream) s ∙ want_of-without stream xs s

-- a kept want wanted again, and a missing stream taken out, only pass time
pub wanted_again : (book : Book) (now : ℕ) (want : Want) → IsImportanceOrder now → IsKept book → book.moment ≤ now
    → want_of book.entries want.stream ≡ Some want → wanted_book now want book ≡ clocked_book now book
wanted_again book now want o kept up h =
    ap (λ es. record book { moment = now; entries = es })
    (ap (decided_entries now book.caps) (with_want-again want book.entries kept.ascending h)
    ∙ decided_again now o book.caps book.entries (decided_entries now book.caps book.entries) kept.ascending (book_stands book kept now up)
    (decided_decides now o book.caps book.entries (different_from_ascending book.entries kept.ascending)))

without-missing : (s : StreamId) (xs : List Entry) → want_of xs s ≡ None → without xs s ≡ xs
without-missing s [] h = refl
without-missing s (x ∷ xs) h =
    elim (cases_Bool (stream_of x == s.0)) [
      | inl e ↦ absurd (let found : want_of (x ∷ xs) s ≡ Some x.want = want_of-here x xs s (eqb-true (stream_of x) s.0 e) in cc)
      | inr e ↦
          ap (λ v. cond (not v) (x ∷ without xs s) (without xs s)) e
          ∙ ap (λ ys. x ∷ ys) (without-missing s xs (sym (want_of-past x xs s (λ k. true≢false (sym (eq-eqb (stream_of x) s.0 k) ∙ e))) ∙ h))
    ]

pub missing_out : (book : Book) (now : ℕ) (s : StreamId) → IsImportanceOrder now → IsKept book → book.moment ≤ now
    → want_of book.entries s ≡ None → unwanted_book now s book ≡ clocked_book now book
missing_out book now s o kept up h =
    ap (λ es. record book { moment = now; entries = es })
    (ap (decided_entries now book.caps) (without-missing s book.entries h)
    ∙ decided_again now o book.caps book.entries (decided_entries now book.caps book.entries) kept.ascending (book_stands book kept now up)
    (decided_decides now o book.caps book.entries (different_from_ascending book.entries kept.ascending)))

pub unbooked_stays : (book : Book) (now : ℕ) (s : StreamId) → IsImportanceOrder now → IsKept book → book.moment ≤ now
    → (booked_of (unwanted_book now s book).entries ≡ booked_of book.entries) ↔ (since_of book.entries s ≡ None)
unbooked_stays book now s o kept up = grind (arith, unwanted_changes, unbooked_out, booked-without)

-- ---- from what the code asks

same-kept : (o : Option Entry) (want : Want) → has_same o want ≡ true → option_map (λ x. x.want) o ≡ Some want
same-kept o want h1 = grind (arith, same_want-is)

-- a want that is found is kept
pub has_want-is : (xs : List Entry) (want : Want) → has_want xs want ≡ true → want_of xs want.stream ≡ Some want
has_want-is xs want h = same-kept (entry_of xs want.stream) want h

none-kept : (o : Option Entry) → is_some o ≡ false → option_map (λ x. x.want) o ≡ None
none-kept o h1 = grind arith

-- of a stream without an entry no want is kept
pub missing-is : (xs : List Entry) (stream : StreamId) → is_some (entry_of xs stream) ≡ false → want_of xs stream ≡ None
missing-is xs stream h = none-kept (entry_of xs stream) h
