use Rattle.std.proofs.Common.{◌≡◌, ◌∙◌, length, ap, sym, arith}
use Rattle.port_ledger.specs.Book.{Book}
use Rattle.msrp.specs.{PortHolding, asked_book, asked_in}
use Rattle.msrp.proofs.Carried.{book-few}
use Rattle.msrp.proofs.port.Port.decide.Goals as goal

pub push_moved-requires-clause-room : goal.push_moved-requires-clause-room
push_moved-requires-clause-room c =
    let book : c.enter_all.new.ledger.book ≡ asked_book c.args.asked.now c.self.inside.ledger.book = c.enter_all.ensures ∙ ap (asked_in c.args.asked.now) c.take_out_all.ensures.book in
    let entries : length c.args.self.now.state.ledger.entries ≡ length c.self.inside.ledger.book.entries = ap (λ (v : PortHolding). length v.state.ledger.entries) (sym c.self.view_is) in
    omega (arith, ap (λ (b : Book). length b.entries) book, book-few c.args.asked.now c.self.inside.ledger.book, entries, c.requires.room)
