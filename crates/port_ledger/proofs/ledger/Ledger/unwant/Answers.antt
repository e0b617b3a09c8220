use Rattle.std.proofs.Common.{◌≡◌, ◌≢◌, ◌↔◌, ◌≤◌, ◌<◌, ◌^◌, Bool, List, is_some, IsTrue, ap, refl, subst, sym, ◌∙◌}
use Rattle.stream_importance.specs.declared.entry.Entry.{Entry}
use Rattle.port_ledger.specs.Book.{Book}
use Rattle.port_ledger.specs.{IsKept, since_of, unwanted_book, want_of, without, booked_of, decided_entries}
use Rattle.port_ledger.proofs.{Keeping.book_is, Keeping.kept_clocked, Keeping.kept_unwanted, Unwanting.missing-is, Unwanting.missing_out, Unwanting.unwanted_changes, Unwanting.wants_left, Changing.ordered_later}
use Rattle.port_ledger.proofs.ledger.Ledger.unwant.Goals as goal

pub unwanted-standing-requires : goal.unwanted-standing-requires
unwanted-standing-requires c =
    let book : Book = record { caps = c.self.inside.caps; moment = c.self.inside.moment.0; entries = c.self.inside.entries.items } in
    let up : book.moment ≤ c.args.now.0 = subst (λ (b : Book). b.moment ≤ c.args.now.0) (sym (book_is c.self.view_is)) c.requires in
    record {
      kept = kept_clocked book c.args.now.0 c.self.invariant.0 up;
      range = subst (λ (b : Book). b.caps.both < 2 ^ 64) (sym (book_is c.self.view_is)) c.within_caps.ensures.range;
      ordered = ordered_later book.moment c.args.now.0 _ c.self.inside.standing _ book.entries _ c.self.invariant.1 c.self.invariant.0.moments up refl c.later-before.ensures;
    }

pub invariant_of-self : goal.invariant_of-self
invariant_of-self c =
    let book : Book = record { caps = c.self.inside.caps; moment = c.self.inside.moment.0; entries = c.self.inside.entries.items } in
    let up : book.moment ≤ c.args.now.0 = subst (λ (b : Book). b.moment ≤ c.args.now.0) (sym (book_is c.self.view_is)) c.requires in (
      subst (λ (es : List Entry). IsKept (record { caps = c.self.inside.caps; moment = c.args.now.0; entries = es })) (sym c.unwanted-standing.ensures.decided)
          (kept_unwanted book c.args.now.0 c.args.stream (c.importance_is_an_order.ensures c.args.now.0) c.self.invariant.0 up),
      c.unwanted-standing.ensures.ordered,
    )

left : (c : goal.After-now-1) → c.unwanted-standing.new.entries.items ≡ (unwanted_book c.args.now.0 c.args.stream c.args.self.now.book).entries
left c = c.unwanted-standing.ensures.decided ∙ ap (λ (b : Book). decided_entries c.args.now.0 b.caps (without b.entries c.args.stream)) (book_is c.self.view_is)

pub returns-clause-changed : goal.returns-clause-changed
returns-clause-changed c =
    let was : c.is_some-was_booked.result ≡ is_some (since_of c.args.self.now.book.entries c.args.stream) =
    c.is_some-was_booked.ensures ∙ ap is_some c.booked.ensures in
    subst (λ (v : Bool). IsTrue v ↔ (booked_of c.unwanted-standing.new.entries.items ≢ booked_of c.args.self.now.book.entries)) (sym was)
    (subst (λ (es : List Entry). IsTrue (is_some (since_of c.args.self.now.book.entries c.args.stream)) ↔ (booked_of es ≢ booked_of c.args.self.now.book.entries)) (sym (left c))
    (unwanted_changes c.args.self.now.book c.args.now.0 c.args.stream (c.importance_is_an_order.ensures c.args.now.0)
    (subst (λ (b : Book). IsKept b) (book_is c.self.view_is) c.self.invariant.0) c.requires))

pub returns-clause-kept : goal.returns-clause-kept
returns-clause-kept c = λ s.
    ap (λ (es : List Entry). want_of es s) (left c) ∙ wants_left c.args.now.0 c.args.self.now.book.caps c.args.self.now.book.entries c.args.stream s

-- a stream that has no entry
pub returns-then-not-wants-clause-book : goal.returns-then-not-wants-clause-book
returns-then-not-wants-clause-book c =
    c.clock.ensures.book
    ∙ sym (missing_out c.args.self.now.book c.args.now.0 c.args.stream (c.importance_is_an_order.ensures c.args.now.0)
    (subst (λ (b : Book). IsKept b) (book_is c.self.view_is) c.self.invariant.0) c.requires
    (missing-is c.args.self.now.book.entries c.args.stream (sym c.wants.ensures ∙ c.if-not-wants.true)))
