use Rattle.std.proofs.Common.{◌≤◌, refl, subst, sym}
use Rattle.port_ledger.specs.Book.{Book}
use Rattle.port_ledger.proofs.{Changing.ordered_later, Keeping.book_is, Keeping.kept_clocked}
use Rattle.port_ledger.proofs.ledger.Ledger.clock.Goals as goal

pub invariant_of-self : goal.invariant_of-self
invariant_of-self c =
    let book : Book = record { caps = c.self.inside.caps; moment = c.self.inside.moment.0; entries = c.self.inside.entries.items } in
    let up : book.moment ≤ c.args.now.0 = subst (λ (b : Book). b.moment ≤ c.args.now.0) (sym (book_is c.self.view_is)) c.requires in (
      kept_clocked book c.args.now.0 c.self.invariant.0 up,
      ordered_later book.moment c.args.now.0 _ c.self.inside.standing _ book.entries _ c.self.invariant.1 c.self.invariant.0.moments up refl c.later-self-inside.ensures,
    )
