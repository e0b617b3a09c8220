use Rattle.std.proofs.Common.{◌≡◌, ◌≤◌, ◌<◌, ◌^◌, List, ap, refl, subst, sym, ◌∙◌}
use Rattle.stream_importance.specs.declared.entry.Entry.{Entry}
use Rattle.port_ledger.specs.Book.{Book}
use Rattle.port_ledger.specs.{IsKept, booked_only_in, wanted_book, with_want, decided_entries, Decides, IsOrdered, Changed}
use Rattle.port_ledger.proofs.{Comparing.nothing_new, Unwanting.has_want-is, Unwanting.wanted_again, Keeping.ascending-with_want, Keeping.book_is, Keeping.kept_clocked, Keeping.kept_wanted, Marking.different_from_ascending, PerStream.same_again, PerStream.wants_kept, Rounds.decided_decides, Changing.ordered_later}
use Rattle.port_ledger.proofs.ledger.Ledger.want.Goals as goal

pub wanted-requires-clause-book : goal.wanted-requires-clause-book
wanted-requires-clause-book c =
    let book : Book = record { caps = c.self.inside.caps; moment = c.self.inside.moment.0; entries = c.self.inside.entries.items } in
    let up : book.moment ≤ c.args.now.0 = subst (λ (b : Book). b.moment ≤ c.args.now.0) (sym (book_is c.self.view_is)) c.requires in
    record {
      kept = kept_clocked book c.args.now.0 c.self.invariant.0 up;
      range = subst (λ (b : Book). b.caps.both < 2 ^ 64) (sym (book_is c.self.view_is)) c.within_caps.ensures.range;
      ordered = ordered_later book.moment c.args.now.0 _ c.self.inside.standing _ book.entries _ c.self.invariant.1 c.self.invariant.0.moments up refl c.later-before.ensures;
    }

-- after want of memory
pub invariant_of-self : goal.invariant_of-self
invariant_of-self c =
    let stay = c.in_err-standing.ensures.entries_stay in
    let order = c.in_err-standing.ensures.order_stays in (
      subst (λ (es : List Entry). IsKept (record { caps = c.self.inside.caps; moment = c.self.inside.moment.0; entries = es })) (sym stay) c.self.invariant.0,
      subst (λ (es : List Entry). IsOrdered c.self.inside.moment.0 c.self.inside.standing es c.wanted.new.order.items) (sym stay)
          (subst (λ (xs : List Entry). IsOrdered c.self.inside.moment.0 c.self.inside.standing c.self.inside.entries.items xs) (sym order) c.self.invariant.1),
    )

pub invariant_of-self-2 : goal.invariant_of-self-2
invariant_of-self-2 c =
    let book : Book = record { caps = c.self.inside.caps; moment = c.self.inside.moment.0; entries = c.self.inside.entries.items } in
    let up : book.moment ≤ c.args.now.0 = subst (λ (b : Book). b.moment ≤ c.args.now.0) (sym (book_is c.self.view_is)) c.requires in (
      subst (λ (es : List Entry). IsKept (record { caps = c.self.inside.caps; moment = c.args.now.0; entries = es })) (sym c.in_ok-standing.ensures.decided)
          (kept_wanted book c.args.now.0 c.args.want (c.importance_is_an_order.ensures c.args.now.0) c.self.invariant.0 up),
      c.in_ok-standing.ensures.ordered,
    )

pub returns-clause-decided : goal.returns-clause-decided
returns-clause-decided c =
    let entries_are : c.wanted.new.entries.items ≡ (wanted_book c.args.now.0 c.args.want c.args.self.now.book).entries =
    c.in_ok-standing.ensures.decided
    ∙ ap (λ (b : Book). decided_entries c.args.now.0 b.caps (with_want b.entries c.args.want)) (book_is c.self.view_is) in
    subst (λ (es : List Entry). Decides c.args.now.0 c.args.self.now.book.caps (with_want c.args.self.now.book.entries c.args.want) es) (sym entries_are)
    (decided_decides c.args.now.0 (c.importance_is_an_order.ensures c.args.now.0) c.args.self.now.book.caps (with_want c.args.self.now.book.entries c.args.want)
    (different_from_ascending _ (ascending-with_want c.args.want c.args.self.now.book.entries c.stands.ensures.ascending)))

pub returns-clause-book : goal.returns-clause-book
returns-clause-book c =
    let kept : List Entry → Book = λ es. record { caps = c.self.inside.caps; moment = c.args.now.0; entries = es } in
    ap kept c.in_ok-standing.ensures.decided ∙ ap (wanted_book c.args.now.0 c.args.want) (book_is c.self.view_is)

pub returns-clause-rest : goal.returns-clause-rest
returns-clause-rest c =
    ap (λ (b : Book). record b { moment = c.args.now.0; entries = c.wanted.new.entries.items }) (book_is c.self.view_is)

pub returns-clause-booked : goal.returns-clause-booked
returns-clause-booked c =
    c.in_ok-standing.ensures.booked ∙ ap (λ (b : Book). booked_only_in c.wanted.new.entries.items b.entries) (book_is c.self.view_is)

pub returns-clause-dropped : goal.returns-clause-dropped
returns-clause-dropped c =
    c.in_ok-standing.ensures.dropped ∙ ap (λ (b : Book). booked_only_in b.entries c.wanted.new.entries.items) (book_is c.self.view_is)

pub returns-clause-kept : goal.returns-clause-kept
returns-clause-kept c =
    wants_kept c.args.now.0 c.args.self.now.book.caps c.args.self.now.book.entries c.wanted.new.entries.items c.args.want (returns-clause-decided c)

pub returns-clause-again : goal.returns-clause-again
returns-clause-again c =
    same_again c.args.now.0 (c.importance_is_an_order.ensures c.args.now.0)
    c.args.self.now.book.caps c.args.self.now.book.entries c.wanted.new.entries.items c.args.want
    c.stands.ensures.ascending (c.stands.ensures.decided c.args.now.0 c.requires) (returns-clause-decided c)

-- ---- a want that is kept already

pub returns-then-has_want-clause-book : goal.returns-then-has_want-clause-book
returns-then-has_want-clause-book c =
    c.clock.ensures.book
    ∙ sym (wanted_again c.args.self.now.book c.args.now.0 c.args.want (c.importance_is_an_order.ensures c.args.now.0)
    (subst (λ (b : Book). IsKept b) (book_is c.self.view_is) c.self.invariant.0) c.requires
    (has_want-is c.args.self.now.book.entries c.args.want (sym c.has_want.ensures ∙ c.if-has_want.true)))

pub returns-then-has_want-clause-decided : goal.returns-then-has_want-clause-decided
returns-then-has_want-clause-decided c =
    subst (λ (es : List Entry). Decides c.args.now.0 c.args.self.now.book.caps (with_want c.args.self.now.book.entries c.args.want) es)
    (ap (λ (b : Book). b.entries) (sym (returns-then-has_want-clause-book c)))
    (decided_decides c.args.now.0 (c.importance_is_an_order.ensures c.args.now.0) c.args.self.now.book.caps (with_want c.args.self.now.book.entries c.args.want)
    (different_from_ascending _ (ascending-with_want c.args.want c.args.self.now.book.entries c.stands.ensures.ascending)))

pub returns-then-has_want-clause-booked : goal.returns-then-has_want-clause-booked
returns-then-has_want-clause-booked c =
    ap (λ (x : Changed). x.booked) c.nothing.ensures
    ∙ sym (nothing_new c.args.self.now.book.entries c.clock.new.self.book.entries c.stands.ensures.ascending (ap (λ (b : Book). b.entries) c.clock.ensures.book)).0

pub returns-then-has_want-clause-dropped : goal.returns-then-has_want-clause-dropped
returns-then-has_want-clause-dropped c =
    ap (λ (x : Changed). x.dropped) c.nothing.ensures
    ∙ sym (nothing_new c.args.self.now.book.entries c.clock.new.self.book.entries c.stands.ensures.ascending (ap (λ (b : Book). b.entries) c.clock.ensures.book)).1

pub returns-then-has_want-clause-kept : goal.returns-then-has_want-clause-kept
returns-then-has_want-clause-kept c =
    wants_kept c.args.now.0 c.args.self.now.book.caps c.args.self.now.book.entries c.clock.new.self.book.entries c.args.want (returns-then-has_want-clause-decided c)

pub returns-then-has_want-clause-again : goal.returns-then-has_want-clause-again
returns-then-has_want-clause-again c = λ _. ap (λ (b : Book). b.entries) c.clock.ensures.book

pub returns-then-has_want-clause-rest : goal.returns-then-has_want-clause-rest
returns-then-has_want-clause-rest c =
    c.clock.ensures.book ∙ ap (λ (b : Book). record c.args.self.now.book { moment = c.args.now.0; entries = b.entries }) (sym c.clock.ensures.book)
