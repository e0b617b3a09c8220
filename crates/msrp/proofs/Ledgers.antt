-- What settling streams leaves of a ledger: each of them is kept with what it wants, or not at all.
use Rattle.std.proofs.Common.{◌≡◌, ℕ, ◌≤◌, Bool, true, false, ◌||◌, ◌==◌, if◌then◌else◌, List, [], ◌∷◌, refl, sym, ap, ◌∙◌, arith}
use Rattle.std.specs.Prelude.{Option, Some, None}
use Rattle.std.specs.Ordering.{is_eq}
use Rattle.std.proofs.lemmas.Bool.Decides.{nat_tests}
use Rattle.srp_base.specs.declared.numbers.StreamId.{StreamId}
use Rattle.stream_importance.specs.declared.entry.Want.{Want}
use Rattle.port_ledger.specs.Book.{Book, unwanted_book, want_of, wanted_book, IsKept as IsKeptBook}
use Rattle.attribute_propagation.specs.Dirty.{is_awaiting}
use Rattle.msrp.proofs.KeyLemmas.{stream_is}
use Rattle.msrp.specs.{stream_cmp, book_with, book_without, with_wants, settled_book, taken_out}

-- the laws of a ledger that settling rests on
pub record BookLaws : Type 0 where
  pub wanted_kept : (book : Book) (now : ℕ) (want : Want) → IsKeptBook book → book.moment ≤ now → IsKeptBook (wanted_book now want book)
  pub unwanted_kept : (book : Book) (now : ℕ) (stream : StreamId) → IsKeptBook book → book.moment ≤ now → IsKeptBook (unwanted_book now stream book)
  pub wanted : (book : Book) (now : ℕ) (want : Want) (s : StreamId) → want_of (wanted_book now want book).entries s ≡ (if s.0 == want.stream.0 then Some want else want_of book.entries s)
  pub unwanted : (book : Book) (now : ℕ) (stream s : StreamId) → want_of (unwanted_book now stream book).entries s ≡ (if s.0 == stream.0 then None else want_of book.entries s)

-- a ledger that is kept, with the caps and the moment of another
pub record IsLike (book other : Book) : Type 0 where
  pub kept : IsKeptBook other
  pub caps : other.caps ≡ book.caps
  pub moment : other.moment ≡ book.moment

is_stream : (x s : StreamId) → is_eq (stream_cmp x s) ≡ (s.0 == x.0)
is_stream x s = grind (arith, nat_tests)

module _ (laws : BookLaws) (wants : StreamId → Option Want) (own : (s : StreamId) (w : Want) → wants s ≡ Some w → w.stream ≡ s) where
  without_like : (s : StreamId) (o : Option Want) (book : Book) → IsKeptBook book → IsLike book (book_without s o book)
  without_like s None book kept = record { kept = laws.unwanted_kept book book.moment s kept (omega arith); caps = refl; moment = refl }
  without_like s (Some w) book kept = record { kept = kept; caps = refl; moment = refl }

  with_like : (o : Option Want) (book : Book) → IsKeptBook book → IsLike book (book_with o book)
  with_like None book kept = record { kept = kept; caps = refl; moment = refl }
  with_like (Some w) book kept = record { kept = laws.wanted_kept book book.moment w kept (omega arith); caps = refl; moment = refl }

  then_like : (a b c : Book) → IsLike a b → IsLike b c → IsLike a c
  then_like a b c x y = record { kept = y.kept; caps = y.caps ∙ x.caps; moment = y.moment ∙ x.moment }

  out_like : (streams : List StreamId) (book : Book) → IsKeptBook book → IsLike book (taken_out wants streams book)
  out_like [] book kept = record { kept = kept; caps = refl; moment = refl }
  out_like (s ∷ streams) book kept =
      let one = without_like s (wants s) book kept in
      then_like book (book_without s (wants s) book) (taken_out wants streams (book_without s (wants s) book)) one (out_like streams (book_without s (wants s) book) one.kept)

  in_like : (streams : List StreamId) (book : Book) → IsKeptBook book → IsLike book (with_wants wants streams book)
  in_like [] book kept = record { kept = kept; caps = refl; moment = refl }
  in_like (s ∷ streams) book kept =
      let one = with_like (wants s) book kept in
      then_like book (book_with (wants s) book) (with_wants wants streams (book_with (wants s) book)) one (in_like streams (book_with (wants s) book) one.kept)

  pub settled_like : (streams : List StreamId) (book : Book) → IsKeptBook book → IsLike book (settled_book wants streams book)
  settled_like streams book kept =
      let one = out_like streams book kept in
      then_like book (taken_out wants streams book) (settled_book wants streams book) one (in_like streams (taken_out wants streams book) one.kept)

  -- what is kept of a stream that wants nothing, and of one that wants something
  abbrev cleared_where : Bool → Option Want → Option Want → Option Want
  cleared_where true None old = None
  cleared_where true (Some w) old = old
  cleared_where false o old = old

  abbrev entered_where : Bool → Option Want → Option Want → Option Want
  entered_where true None old = old
  entered_where true (Some w) old = Some w
  entered_where false o old = old

  without_one : (x s : StreamId) (book : Book) → want_of (book_without x (wants x) book).entries s ≡ cleared_where (is_eq (stream_cmp x s)) (wants s) (want_of book.entries s)
  without_one x s book = by (wants x) refl (is_eq (stream_cmp x s)) refl
    where
      by : (o : Option Want) → wants x ≡ o → (b : Bool) → is_eq (stream_cmp x s) ≡ b → want_of (book_without x o book).entries s ≡ cleared_where b (wants s) (want_of book.entries s)
      by None e true f = laws.unwanted book book.moment x s
          ∙ (ap (λ b. if b then None else want_of book.entries s) (sym (is_stream x s) ∙ f)
          ∙ sym (ap (λ o. cleared_where true o (want_of book.entries s)) (ap wants (sym (stream_is x s f)) ∙ e)))
      by None e false f = laws.unwanted book book.moment x s ∙ ap (λ b. if b then None else want_of book.entries s) (sym (is_stream x s) ∙ f)
      by (Some w) e true f = sym (ap (λ o. cleared_where true o (want_of book.entries s)) (ap wants (sym (stream_is x s f)) ∙ e))
      by (Some w) e false f = refl

  with_one : (x s : StreamId) (book : Book) → want_of (book_with (wants x) book).entries s ≡ entered_where (is_eq (stream_cmp x s)) (wants s) (want_of book.entries s)
  with_one x s book = by (wants x) refl (is_eq (stream_cmp x s)) refl
    where
      by : (o : Option Want) → wants x ≡ o → (b : Bool) → is_eq (stream_cmp x s) ≡ b → want_of (book_with o book).entries s ≡ entered_where b (wants s) (want_of book.entries s)
      by None e true f = sym (ap (λ o. entered_where true o (want_of book.entries s)) (ap wants (sym (stream_is x s f)) ∙ e))
      by None e false f = refl
      by (Some w) e true f =
          laws.wanted book book.moment w s
          ∙ (ap (λ (y : StreamId). if s.0 == y.0 then Some w else want_of book.entries s) (own x w e)
          ∙ (ap (λ b. if b then Some w else want_of book.entries s) (sym (is_stream x s) ∙ f) ∙ sym (ap (λ o. entered_where true o (want_of book.entries s)) (ap wants (sym (stream_is x s f)) ∙ e))))
      by (Some w) e false f =
          laws.wanted book book.moment w s
          ∙ (ap (λ (y : StreamId). if s.0 == y.0 then Some w else want_of book.entries s) (own x w e) ∙ ap (λ b. if b then Some w else want_of book.entries s) (sym (is_stream x s) ∙ f))

  clear_twice : (a b : Bool) (o old : Option Want) → cleared_where a o (cleared_where b o old) ≡ cleared_where (b || a) o old
  clear_twice true true None old = refl
  clear_twice true true (Some w) old = refl
  clear_twice true false None old = refl
  clear_twice true false (Some w) old = refl
  clear_twice false true None old = refl
  clear_twice false true (Some w) old = refl
  clear_twice false false None old = refl
  clear_twice false false (Some w) old = refl

  enter_twice : (a b : Bool) (o old : Option Want) → entered_where a o (entered_where b o old) ≡ entered_where (b || a) o old
  enter_twice true true None old = refl
  enter_twice true true (Some w) old = refl
  enter_twice true false None old = refl
  enter_twice true false (Some w) old = refl
  enter_twice false true None old = refl
  enter_twice false true (Some w) old = refl
  enter_twice false false None old = refl
  enter_twice false false (Some w) old = refl

  out_wants : (streams : List StreamId) (book : Book) (s : StreamId)
      → want_of (taken_out wants streams book).entries s ≡ cleared_where (is_awaiting stream_cmp s streams) (wants s) (want_of book.entries s)
  out_wants [] book s = refl
  out_wants (x ∷ streams) book s =
      out_wants streams (book_without x (wants x) book) s
      ∙ (ap (λ (o : Option Want). cleared_where (is_awaiting stream_cmp s streams) (wants s) o) (without_one x s book)
      ∙ clear_twice (is_awaiting stream_cmp s streams) (is_eq (stream_cmp x s)) (wants s) (want_of book.entries s))

  in_wants : (streams : List StreamId) (book : Book) (s : StreamId)
      → want_of (with_wants wants streams book).entries s ≡ entered_where (is_awaiting stream_cmp s streams) (wants s) (want_of book.entries s)
  in_wants [] book s = refl
  in_wants (x ∷ streams) book s =
      in_wants streams (book_with (wants x) book) s
      ∙ (ap (λ (o : Option Want). entered_where (is_awaiting stream_cmp s streams) (wants s) o) (with_one x s book)
      ∙ enter_twice (is_awaiting stream_cmp s streams) (is_eq (stream_cmp x s)) (wants s) (want_of book.entries s))

  both_ways : (b : Bool) (o old : Option Want) → entered_where b o (cleared_where b o old) ≡ (if b then o else old)
  both_ways true None old = refl
  both_ways true (Some w) old = refl
  both_ways false o old = refl

  pub settled_wants : (streams : List StreamId) (book : Book) (s : StreamId)
      → want_of (settled_book wants streams book).entries s ≡ (if is_awaiting stream_cmp s streams then wants s else want_of book.entries s)
  settled_wants streams book s =
      in_wants streams (taken_out wants streams book) s
      ∙ (ap (λ (o : Option Want). entered_where (is_awaiting stream_cmp s streams) (wants s) o) (out_wants streams book s)
      ∙ both_ways (is_awaiting stream_cmp s streams) (wants s) (want_of book.entries s))
