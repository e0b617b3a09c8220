-- Lemmas on the lines of the streams of a ledger file.
use Rattle.std.proofs.Common.{◌≡◌, ◌≢◌, ◌↔◌, ℕ, ◌+◌, ◌<◌, ◌≤◌, Bool, true, false, ◌==◌, cond, List, [], ◌∷◌, ◌++◌, length, get_or, take, drop, reverse, Option, Some, None, option_map, IsSome, refl, sym, subst, ◌∙◌, ap, arith, nat_lt, inl, inr}
use Rattle.std.specs.Prelude.{find}
use Rattle.std.specs.Option.{option_map_or}
use Rattle.std.proofs.lemmas.{Bool.eqb-true, Bool.eqb-false, Bool.eq-eqb, Bool.ne_eqb, Bool.cases_Bool, List.drop_more, List.take_all, List.take_more, List.reverse-append}
use Rattle.srp_base.specs.declared.{numbers.Cs.Cs, numbers.StreamId.StreamId}
use Rattle.srp_base.specs.Hexadecimal.{hex16_text}
use Rattle.stream_importance.specs.declared.{entry.Entry.Entry, entry.Want.Want, entry.Fit.Fit, entry.Fit.TheVariants.Fits, entry.Fit.TheVariants.TooLittle}
use Rattle.port_ledger.specs.Book.{Book, fit_for, since_of, want_of}
use Rattle.toml_rules.specs.Rules.{first_fall}
use Rattle.srpnet.specs.{want_ticks, Applies, Leads, HasLines, last_want, line_by, want_line}
use Rattle.srpnet.specs.declared.ledger.file.LedgerWant.{LedgerWant}

-- ---- the lines of the streams

same_either_way : (m n : ℕ) → (m == n) ≡ (n == m)
same_either_way m n =
    elim (cases_Bool (n == m)) [
      | inl h ↦ eq-eqb m n (sym (eqb-true n m h)) ∙ sym h
      | inr h ↦ ne_eqb m n (λ e. eqb-false n m h (sym e)) ∙ sym h
    ]

-- the last want of a stream, with one want more
last_want-more : (ws : List LedgerWant) (i : ℕ) (d : LedgerWant) (s : StreamId) → i < length ws
    → last_want (take (i + 1) ws) s
    ≡ cond (s.0 == (get_or ws i d).want.stream.0) (Some (get_or ws i d).want) (last_want (take i ws) s)
last_want-more ws i d s h =
    let w : LedgerWant = get_or ws i d in
    ap (λ l. last_want l s) (take_more ws i d h)
    ∙ (ap (λ l. option_map (λ (v : LedgerWant). v.want) (find (λ v. v.want.stream.0 == s.0) l)) (reverse-append (take i ws) (w ∷ []))
    ∙ (by_test (w.want.stream.0 == s.0)
    ∙ ap (λ v. cond v (Some w.want) (last_want (take i ws) s)) (same_either_way w.want.stream.0 s.0)))
  where
    by_test : (b : Bool)
        → option_map (λ (v : LedgerWant). v.want) (cond b (Some (get_or ws i d)) (find (λ v. v.want.stream.0 == s.0) (reverse (take i ws))))
        ≡ cond b (Some (get_or ws i d).want) (last_want (take i ws) s)
    by_test true = refl
    by_test false = refl

-- where each stream's last want so far is kept, it is with one want more
pub kept_step : (old new : List Entry) (ws : List LedgerWant) (i : ℕ) (d : LedgerWant) → i < length ws
    → ((s : StreamId) → want_of new s ≡ cond (s.0 == (get_or ws i d).want.stream.0) (Some (get_or ws i d).want) (want_of old s))
    → ((s : StreamId) → want_of old s ≡ last_want (take i ws) s)
    → (s : StreamId) → want_of new s ≡ last_want (take (i + 1) ws) s
kept_step old new ws i d l after before s =
    after s
    ∙ (ap (cond (s.0 == (get_or ws i d).want.stream.0) (Some (get_or ws i d).want)) (before s)
    ∙ sym (last_want-more ws i d s l))

-- where no tick falls from one want on, none falls from the next one on
pub none_falls_next : (n before : ℕ) (ws : List LedgerWant) (i : ℕ) (d : LedgerWant) → i < length ws
    → first_fall n before (want_ticks (drop i ws)) ≡ None
    → first_fall (n + 1) (get_or ws i d).tick.0 (want_ticks (drop (i + 1) ws)) ≡ None
none_falls_next n before ws i d l none =
    by_test (nat_lt (get_or ws i d).tick.0 before) (sym (ap (λ rest. first_fall n before (want_ticks rest)) (drop_more ws i d l)) ∙ none)
  where
    by_test : (b : Bool)
        → cond b (Some n) (first_fall (n + 1) (get_or ws i d).tick.0 (want_ticks (drop (i + 1) ws))) ≡ None
        → first_fall (n + 1) (get_or ws i d).tick.0 (want_ticks (drop (i + 1) ws)) ≡ None
    by_test true e = absurd (let fall : Some n ≡ None = e in cc)
    by_test false e = e

-- what the wants from one on lead to is what those from the next one on lead to, once it is applied
pub leads_on : (start old new : Book) (ws : List LedgerWant) (i : ℕ) (d : LedgerWant) → i < length ws
    → Applies old (get_or ws i d) new
    → ((end : Book) → Leads old (drop i ws) end → Leads start ws end)
    → (end : Book) → Leads new (drop (i + 1) ws) end → Leads start ws end
leads_on start old new ws i d l applies before end rest =
    before end (subst (λ (l : List LedgerWant). Leads old l end) (sym (drop_more ws i d l)) (new, applies, rest))

-- the last want of a stream is of that stream
found_stream : (ws : List LedgerWant) (s : StreamId) (want : Want)
    → option_map (λ (w : LedgerWant). w.want) (find (λ w. w.want.stream.0 == s.0) ws) ≡ Some want → want.stream.0 ≡ s.0
found_stream [] s want e = absurd (let k : None ≡ Some want = e in cc)
found_stream (w ∷ ws) s want e =
    elim (cases_Bool (w.want.stream.0 == s.0)) [
      | inl h ↦
          (let first : Some w.want ≡ Some want =
          sym (ap (λ v. option_map (λ (x : LedgerWant). x.want) (cond v (Some w) (find (λ x. x.want.stream.0 == s.0) ws))) h) ∙ e in
          let same : w.want ≡ want = cc in
          ap (λ (x : Want). x.stream.0) (sym same) ∙ eqb-true w.want.stream.0 s.0 h)
      | inr h ↦
          found_stream ws s want
          (sym (ap (λ v. option_map (λ (x : LedgerWant). x.want) (cond v (Some w) (find (λ x. x.want.stream.0 == s.0) ws))) h) ∙ e)
    ]

not_empty : (front : List ℕ) (x : ℕ) (rest : List ℕ) → front ++ x ∷ rest ≢ []
not_empty [] x rest e = cc
not_empty (y ∷ front) x rest e = cc

-- a want that fits exactly where it is booked has a line
line_there : (want : Want) (fit : Fit) (since : Option Cs) → (fit ≡ Fits) ↔ IsSome since → line_by want fit since ≢ []
line_there want fit (Some moment) h e = not_empty (hex16_text want.stream.0) 32 _ e
line_there want (TooLittle more cap code) None h e = not_empty (hex16_text want.stream.0) 32 _ e
line_there want Fits None h e = let k : false ≡ true = h.0 refl in cc

-- where each stream's last want is kept, and what is kept fits exactly where it is booked, each stream
-- that the wants mention has its line
pub lines_there : (book : Book) (ws : List LedgerWant)
    → ((want : Want) → want_of book.entries want.stream ≡ Some want
    → (fit_for book.moment book want ≡ Fits) ↔ IsSome (since_of book.entries want.stream))
    → ((s : StreamId) → want_of book.entries s ≡ last_want ws s) → HasLines book ws
lines_there book ws fits kept s = by_want (last_want ws s) refl
  where
    by_want : (o : Option Want) → last_want ws s ≡ o → IsSome o → option_map_or (want_line book) o [] ≢ []
    by_want None e there = let k : false ≡ true = there in cc
    by_want (Some want) e there =
        let same : want.stream.0 ≡ s.0 = found_stream (reverse ws) s want e in
        let own : want_of book.entries want.stream ≡ Some want =
        ap (λ n. want_of book.entries (record { 0 = n })) same ∙ (kept s ∙ e) in
        line_there want (fit_for book.moment book want) (since_of book.entries want.stream) (fits want own)

-- the same once all wants are applied
pub lines_at_end : (book : Book) (ws all : List LedgerWant) (i : ℕ) → ws ≡ all → length ws ≤ i
    → ((later : ℕ) → book.moment ≤ later → (want : Want) → want_of book.entries want.stream ≡ Some want
    → (fit_for later book want ≡ Fits) ↔ IsSome (since_of book.entries want.stream))
    → ((s : StreamId) → want_of book.entries s ≡ last_want (take i ws) s) → HasLines book all
lines_at_end book ws all i same end fits kept =
    lines_there book all (fits book.moment (omega arith))
    (λ s. kept s ∙ ap (λ l. last_want l s) (take_all i ws end ∙ same))
