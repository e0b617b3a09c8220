use Rattle.port_ledger.proofs.Changing.{book_behind, book_place, book_range, book_totals, front_apart, want_comes}
use Rattle.std.proofs.Common.{sym}
use Rattle.port_ledger.proofs.decide.cut_for.Goals as goal

pub cut-requires-clause-totals : goal.cut-requires-clause-totals
cut-requires-clause-totals c = book_totals c.args.now.0 (c.importance_is_an_order.ensures c.args.now.0) c.args.caps.now c.args.standing.now c.args.entries.now c.args.order.now c.requires.book

pub cut-requires-clause-range : goal.cut-requires-clause-range
cut-requires-clause-range c = book_range c.args.now.0 (c.importance_is_an_order.ensures c.args.now.0) c.args.caps.now c.args.standing.now c.args.entries.now c.args.order.now c.requires.book

pub returns-clause-place : goal.returns-clause-place
returns-clause-place c = book_place c.args.now.0
    (c.importance_is_an_order.ensures c.args.now.0) c.args.caps.now c.args.standing.now c.args.entries.now c.args.order.now c.requires.book c.cut.result.place
    c.cut.ensures.settled

pub returns-clause-behind : goal.returns-clause-behind
returns-clause-behind c = book_behind c.args.now.0
    (c.importance_is_an_order.ensures c.args.now.0) c.args.caps.now c.args.standing.now c.args.entries.now c.args.order.now c.requires.book c.cut.result.place
    c.cut.ensures.settled

pub returns-clause-front : goal.returns-clause-front
returns-clause-front c =
    want_comes c.args.now.0 (c.importance_is_an_order.ensures c.args.now.0) c.args.caps.now c.args.standing.now c.args.entries.now c.args.order.now c.requires.book
    c.cut.result.place c.cut.ensures.settled
    c.cut.result.totals c.args.want c.args.goes c.cut.ensures.totals (sym c.requires.goes) c.requires.other c.cut.ensures.goes c.cut.ensures.comes

pub returns-clause-apart : goal.returns-clause-apart
returns-clause-apart c =
    front_apart c.args.now.0
    (c.importance_is_an_order.ensures c.args.now.0) c.args.caps.now c.args.standing.now c.args.entries.now c.args.order.now c.requires.book c.cut.result.place
    c.cut.ensures.settled
    c.args.want.stream c.args.goes (sym c.requires.goes) c.cut.ensures.goes
