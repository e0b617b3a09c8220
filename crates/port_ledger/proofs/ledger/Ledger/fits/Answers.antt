use Rattle.std.proofs.Common.{◌≡◌, ◌↔◌, Some, IsSome, subst, sym}
use Rattle.stream_importance.specs.declared.{entry.Fit.Fit, entry.Fit.TheVariants.Fits}
use Rattle.port_ledger.specs.{since_of, tested_entry, want_of}
use Rattle.port_ledger.proofs.{Keeping.book_is, Keeping.fit_in_book, Shares.fit_within}
use Rattle.port_ledger.proofs.ledger.Ledger.fits.Goals as goal

pub returns-clause-value : goal.returns-clause-value
returns-clause-value c =
    fit_in_book _ _ _ _ _ _ _ _ _ _ c.fit_of.ensures c.tested_entry-x.ensures c.deref.ensures.value c.deref-2.ensures.value (book_is c.self.view_is)

pub returns-clause-kept : goal.returns-clause-kept
returns-clause-kept c =
    subst (λ (fit : Fit). want_of c.args.self.now.book.entries c.args.want.now.stream ≡ Some c.args.want.now
    → (fit ≡ Fits) ↔ IsSome (since_of c.args.self.now.book.entries c.args.want.now.stream))
    (sym (fit_in_book _ _ _ _ _ _ _ _ _ _ c.fit_of.ensures c.tested_entry-x.ensures c.deref.ensures.value c.deref-2.ensures.value (book_is c.self.view_is)))
    (c.stands.ensures.kept c.args.now.0 c.requires c.args.want.now)

pub returns-clause-within : goal.returns-clause-within
returns-clause-within c =
    let book = c.args.self.now.book in
    fit_within c.args.now.0 book.caps book.entries (tested_entry book.entries c.args.want.now) c.fit_of.result
    (fit_in_book _ _ _ _ _ _ _ _ _ _ c.fit_of.ensures c.tested_entry-x.ensures c.deref.ensures.value c.deref-2.ensures.value (book_is c.self.view_is))
    c.within_caps.ensures.shares c.within_caps.ensures.both
