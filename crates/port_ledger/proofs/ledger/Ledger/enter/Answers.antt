use Rattle.std.proofs.Common.{◌≡◌, ◌≤◌, ◌<◌, ◌^◌, List, ap, refl, subst, sym, ◌∙◌}
use Rattle.stream_importance.specs.declared.entry.Entry.{Entry}
use Rattle.port_ledger.specs.Book.{Book}
use Rattle.port_ledger.specs.{IsKept, wanted_book, with_want, decided_entries, Decides}
use Rattle.port_ledger.proofs.{Unwanting.has_want-is, Unwanting.wanted_again, Keeping.ascending-with_want, Keeping.book_is, Keeping.kept_clocked, Keeping.kept_wanted, Marking.different_from_ascending, PerStream.wants_kept, Rounds.decided_decides, Changing.ordered_later}
use Rattle.port_ledger.proofs.ledger.Ledger.enter.Goals as goal

pub wanted_in_room-changed-requires-clause-book : goal.wanted_in_room-changed-requires-clause-book
wanted_in_room-changed-requires-clause-book c =
    let book : Book = record { caps = c.self.inside.caps; moment = c.self.inside.moment.0; entries = c.self.inside.entries.items } in
    let up : book.moment ≤ c.args.now.0 = subst (λ (b : Book). b.moment ≤ c.args.now.0) (sym (book_is c.self.view_is)) c.requires.moment in
    record {
      kept = kept_clocked book c.args.now.0 c.self.invariant.0 up;
      range = subst (λ (b : Book). b.caps.both < 2 ^ 64) (sym (book_is c.self.view_is)) c.within_caps.ensures.range;
      ordered = ordered_later book.moment c.args.now.0 _ c.self.inside.standing _ book.entries _ c.self.invariant.1 c.self.invariant.0.moments up refl c.later-before.ensures;
    }

pub invariant_of-self : goal.invariant_of-self
invariant_of-self c =
    let book : Book = record { caps = c.self.inside.caps; moment = c.self.inside.moment.0; entries = c.self.inside.entries.items } in
    let up : book.moment ≤ c.args.now.0 = subst (λ (b : Book). b.moment ≤ c.args.now.0) (sym (book_is c.self.view_is)) c.requires.moment in (
      subst (λ (es : List Entry). IsKept (record { caps = c.self.inside.caps; moment = c.args.now.0; entries = es })) (sym c.wanted_in_room-changed.ensures.decided)
          (kept_wanted book c.args.now.0 c.args.want (c.importance_is_an_order.ensures c.args.now.0) c.self.invariant.0 up),
      c.wanted_in_room-changed.ensures.ordered,
    )

pub returns-clause-decided : goal.returns-clause-decided
returns-clause-decided c =
    let entries_are : c.wanted_in_room-changed.new.entries.items ≡ (wanted_book c.args.now.0 c.args.want c.args.self.now.book).entries =
    c.wanted_in_room-changed.ensures.decided
    ∙ ap (λ (b : Book). decided_entries c.args.now.0 b.caps (with_want b.entries c.args.want)) (book_is c.self.view_is) in
    subst (λ (es : List Entry). Decides c.args.now.0 c.args.self.now.book.caps (with_want c.args.self.now.book.entries c.args.want) es) (sym entries_are)
    (decided_decides c.args.now.0 (c.importance_is_an_order.ensures c.args.now.0) c.args.self.now.book.caps (with_want c.args.self.now.book.entries c.args.want)
    (different_from_ascending _ (ascending-with_want c.args.want c.args.self.now.book.entries c.stands.ensures.ascending)))

pub returns-clause-kept : goal.returns-clause-kept
returns-clause-kept c =
    wants_kept c.args.now.0 c.args.self.now.book.caps c.args.self.now.book.entries c.wanted_in_room-changed.new.entries.items c.args.want (returns-clause-decided c)

-- ---- a want that is kept already

pub returns-then-has_want-clause-book : goal.returns-then-has_want-clause-book
returns-then-has_want-clause-book c =
    c.clock.ensures.book
    ∙ sym (wanted_again c.args.self.now.book c.args.now.0 c.args.want (c.importance_is_an_order.ensures c.args.now.0)
    (subst (λ (b : Book). IsKept b) (book_is c.self.view_is) c.self.invariant.0) c.requires.moment
    (has_want-is c.args.self.now.book.entries c.args.want (sym c.has_want.ensures ∙ c.if-has_want.true)))

pub returns-then-has_want-clause-decided : goal.returns-then-has_want-clause-decided
returns-then-has_want-clause-decided c =
    subst (λ (es : List Entry). Decides c.args.now.0 c.args.self.now.book.caps (with_want c.args.self.now.book.entries c.args.want) es)
    (ap (λ (b : Book). b.entries) (sym (returns-then-has_want-clause-book c)))
    (decided_decides c.args.now.0 (c.importance_is_an_order.ensures c.args.now.0) c.args.self.now.book.caps (with_want c.args.self.now.book.entries c.args.want)
    (different_from_ascending _ (ascending-with_want c.args.want c.args.self.now.book.entries c.stands.ensures.ascending)))
