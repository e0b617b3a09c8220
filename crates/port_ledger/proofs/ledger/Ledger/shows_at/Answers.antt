use Rattle.std.proofs.Common.{◌≡◌, true, subst, sym, ◌∙◌}
use Rattle.std.specs.Prelude.{nat_lt}
use Rattle.port_ledger.specs.Book.{Book}
use Rattle.port_ledger.specs.{totals_of}
use Rattle.port_ledger.proofs.{Keeping.book_is, Changing.less_test, Changing.new_shown}
use Rattle.port_ledger.proofs.ledger.Ledger.shows_at.Goals as goal

pub returns-then-lt : goal.returns-then-lt
returns-then-lt c =
    new_shown c.args.now.0 c.args.self.now.book c.self.inside.standing.totals
    (subst (λ (b : Book). c.self.inside.standing.totals ≡ totals_of b.moment b.entries) (book_is c.self.view_is) c.self.invariant.1.totals)
    (subst (λ (b : Book). nat_lt b.moment c.args.now.0 ≡ true) (book_is c.self.view_is) (less_test c.self.inside.moment.0 c.args.now.0 (sym c.lt.ensures ∙ c.if-lt.true)))
