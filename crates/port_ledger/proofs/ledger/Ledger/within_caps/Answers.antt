use Rattle.std.proofs.Common.{subst}
use Rattle.port_ledger.specs.Book.{Book}
use Rattle.port_ledger.specs.{IsKept}
use Rattle.port_ledger.proofs.{Keeping.book_is, Shares.book_within}
use Rattle.port_ledger.proofs.ledger.Ledger.within_caps.Goals as goal

pub returns-clause-class_a : goal.returns-clause-class_a
returns-clause-class_a c =
    (book_within c.args.self.now.book (c.importance_is_an_order.ensures c.args.self.now.book.moment) (subst (λ (b : Book). IsKept b) (book_is c.self.view_is) c.self.invariant.0)).class_a

pub returns-clause-both : goal.returns-clause-both
returns-clause-both c =
    (book_within c.args.self.now.book (c.importance_is_an_order.ensures c.args.self.now.book.moment) (subst (λ (b : Book). IsKept b) (book_is c.self.view_is) c.self.invariant.0)).both
