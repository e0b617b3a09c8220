use Rattle.std.proofs.Common.{◌≡◌, ◌≢◌, ◌+◌, ◌-◌, ◌≤◌, ◌++◌, List, length, take, drop, vec_capacity, arith, ap, subst, sym, ◌∙◌}
use Rattle.std.specs.List.{AllByRecursion}
use Rattle.std.proofs.lemmas.List.{length-drop}
use Rattle.stream_importance.specs.declared.entry.Entry.{Entry}
use Rattle.port_ledger.specs.{booked_only_in, entry_of, with_want, decided_entries, stream_of, IsAscending, AreBehind, IsFront, booking_of, gains, loses, noted, streams_passed, exchanged, importance_order, both_of}
use Rattle.port_ledger.proofs.{Keeping.ascending_wanted, Noting.all_gained, Noting.all_lost, Noting.rising_only}
use Rattle.port_ledger.proofs.decide.wanted.Goals as goal

-- what is known of the cut, told of the entries and the order themselves
was : (c : goal.After-changed) → AreBehind (take c.cut_for-front.result.place c.args.order.now.items) (drop c.cut_for-front.result.place c.args.order.now.items) c.args.entries.now.items
was c = grind (arith)

whole : (c : goal.After-changed) → IsFront c.args.now.0 c.args.caps.now c.cut_for-front.result.place c.cut_for-front.result.totals (with_want c.args.entries.now.items c.args.want)
    (take c.cut_for-front.result.place c.args.order.now.items ++ exchanged (drop c.cut_for-front.result.place c.args.order.now.items) c.args.want)
whole c = grind (arith)

within : (c : goal.After-changed) → c.cut_for-front.result.place ≤ length c.args.order.now.items
within c = subst (λ (xs : List Entry). c.cut_for-front.result.place ≤ length xs) c.deref-3.ensures.value c.cut_for-front.ensures.place

off : (c : goal.After-changed) → AllByRecursion (λ y. stream_of y ≢ c.args.want.stream.0) (take c.cut_for-front.result.place c.args.order.now.items)
off c = subst (λ (xs : List Entry). AllByRecursion (λ y. stream_of y ≢ c.args.want.stream.0) (take c.cut_for-front.result.place xs)) c.deref-3.ensures.value c.cut_for-front.ensures.apart

found : (c : goal.After-changed) → entry_of c.args.entries.now.items c.args.want.stream ≡ c.find_entry-goes.result
found c = sym (c.find_entry-goes.ensures ∙ ap (λ es. entry_of es c.args.want.stream) c.deref.ensures.value)

decided : (c : goal.After-changed) → c.entered-next.new.entries.items ≡ decided_entries c.args.now.0 c.args.caps.now (with_want c.args.entries.now.items c.args.want)
decided c = c.entered-next.ensures.decided ∙ ap (λ es. decided_entries c.args.now.0 c.args.caps.now (with_want es c.args.want)) c.reserve.ensures.items

up : (c : goal.After-changed) → IsAscending c.entered-next.new.entries.items
up c = grind (arith, decided, ascending_wanted)

room : (c : goal.After-changed) → length (drop c.cut_for-front.result.place c.args.order.now.items) + 2 ≤ c.len.result - c.cut_for-front.result.place + 2
room c = omega (arith, within c, length-drop c.cut_for-front.result.place c.args.order.now.items, c.len.ensures)

pub returns-clause-booked : goal.returns-clause-booked
returns-clause-booked c =
    c.changed.ensures.booked (booked_only_in c.entered-next.new.entries.items c.args.entries.now.items) (rising_only c.entered-next.new.entries.items c.args.entries.now.items (up c))
    (all_gained c.args.now.0
    (c.importance_is_an_order.ensures c.args.now.0) c.args.caps.now c.cut_for-front.result.place c.cut_for-front.result.totals c.args.entries.now.items
    c.entered-next.new.entries.items c.args.order.now.items c.args.want c.find_entry-goes.result
    (within c) (was c) (whole c) (decided c) (found c) c.requires.other (off c)
    (vec_capacity c.in_ok-notes.notes.booked) c.in_ok-notes.notes.booked.items c.entered-next.new.notes.booked.items c.in_ok-notes.ensures.booked
    (let r = room c in omega (arith, r, c.in_ok-notes.ensures.booked_room))
    (c.entered-next.ensures.booked
    ∙ ap (λ xs. noted (vec_capacity c.in_ok-notes.notes.booked) c.in_ok-notes.notes.booked.items
    (streams_passed gains c.args.caps.now (both_of c.cut_for-front.result.totals)
    (importance_order c.args.now.0 (exchanged (drop c.cut_for-front.result.place xs) c.args.want)))) c.reserve-2.ensures.items))

pub returns-clause-dropped : goal.returns-clause-dropped
returns-clause-dropped c =
    c.changed.ensures.dropped (booked_only_in c.args.entries.now.items c.entered-next.new.entries.items)
    (rising_only c.args.entries.now.items c.entered-next.new.entries.items c.requires.book.kept.ascending)
    (all_lost c.args.now.0 (c.importance_is_an_order.ensures c.args.now.0) c.args.caps.now c.cut_for-front.result.place c.cut_for-front.result.totals
    c.args.entries.now.items c.entered-next.new.entries.items c.args.order.now.items c.args.want c.find_entry-goes.result
    (within c) (was c) (whole c) (decided c) (found c) c.requires.other (off c)
    (vec_capacity c.in_ok-notes.notes.dropped) c.in_ok-notes.notes.dropped.items c.entered-next.new.notes.dropped.items c.in_ok-notes.ensures.dropped
    (let r = room c in omega (arith, r, c.in_ok-notes.ensures.dropped_room))
    (c.entered-next.ensures.dropped
    ∙ ap (λ xs. noted (vec_capacity c.in_ok-notes.notes.dropped) c.in_ok-notes.notes.dropped.items
    (booking_of c.find_entry-goes.result ++ streams_passed loses c.args.caps.now (both_of c.cut_for-front.result.totals)
    (importance_order c.args.now.0 (exchanged (drop c.cut_for-front.result.place xs) c.args.want)))) c.reserve-2.ensures.items))
