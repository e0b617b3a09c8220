use Rattle.std.proofs.Common.{◌≡◌, ℕ, List, take, ap, subst, sym, ◌∙◌}
use Rattle.stream_importance.specs.declared.entry.Entry.{Entry}
use Rattle.port_ledger.specs.{entry_of, without, ArePriorTo, IsFront, IsSettled, totals_of}
use Rattle.port_ledger.proofs.Changing.{book_different, book_place, book_range, book_totals, entry_goes}
use Rattle.port_ledger.proofs.decide.unwanted.Goals as goal

pub cut-front-requires-clause-totals : goal.cut-front-requires-clause-totals
cut-front-requires-clause-totals c = rw c.deref-2.ensures.value
    (book_totals c.args.now.0
    (c.importance_is_an_order.ensures c.args.now.0) c.args.caps.now c.args.standing.now c.args.entries.now.items c.args.order.now.items c.requires)

pub cut-front-requires-clause-range : goal.cut-front-requires-clause-range
cut-front-requires-clause-range c = rw c.deref-2.ensures.value
    (book_range c.args.now.0
    (c.importance_is_an_order.ensures c.args.now.0) c.args.caps.now c.args.standing.now c.args.entries.now.items c.args.order.now.items c.requires)

-- what the cut tells is told of the order
told : (now n : ℕ) (xs ys : List Entry) → xs ≡ ys → IsSettled now n xs → IsSettled now n ys
told now n xs ys e h = subst (λ (zs : List Entry). IsSettled now n zs) e h

pub leave-requires-clause-place : goal.leave-requires-clause-place
leave-requires-clause-place c = book_place c.args.now.0
    (c.importance_is_an_order.ensures c.args.now.0) c.args.caps.now c.args.standing.now c.args.entries.now.items c.args.order.now.items c.requires
    c.cut-front.result.place (told _ _ _ _ c.deref-2.ensures.value c.cut-front.ensures.settled)

pub leave-requires-clause-different : goal.leave-requires-clause-different
leave-requires-clause-different c = book_different c.args.now.0
    (c.importance_is_an_order.ensures c.args.now.0) c.args.caps.now c.args.standing.now c.args.entries.now.items c.args.order.now.items c.requires
    c.cut-front.result.place (told _ _ _ _ c.deref-2.ensures.value c.cut-front.ensures.settled)

pub decide-requires : goal.decide-requires
decide-requires c =
    subst (λ (es : List Entry). IsFront c.args.now.0 c.args.caps.now c.cut-front.result.place c.cut-front.result.totals es c.leave.new.order.items) (sym c.take_out.ensures.items)
    (subst (λ (xs : List Entry). IsFront c.args.now.0 c.args.caps.now c.cut-front.result.place c.cut-front.result.totals
    (without c.args.entries.now.items c.args.stream) xs) (sym c.leave.ensures.items)
    (entry_goes c.args.now.0
    (c.importance_is_an_order.ensures c.args.now.0) c.args.caps.now c.args.standing.now c.args.entries.now.items c.args.order.now.items c.requires
    c.cut-front.result.place (told _ _ _ _ c.deref-2.ensures.value c.cut-front.ensures.settled) c.cut-front.result.totals c.args.stream c.find_entry-goes.result
    (c.cut-front.ensures.totals ∙ ap (λ xs. totals_of c.args.now.0 (take c.cut-front.result.place xs)) c.deref-2.ensures.value)
    (sym (c.find_entry-goes.ensures ∙ ap (λ es. entry_of es c.args.stream) c.deref.ensures.value))
    (subst (λ (xs : List Entry). ArePriorTo c.args.now.0 c.find_entry-goes.result (take c.cut-front.result.place xs)) c.deref-2.ensures.value c.cut-front.ensures.goes)))
