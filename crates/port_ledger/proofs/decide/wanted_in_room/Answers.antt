use Rattle.std.proofs.Common.{◌≡◌, ◌≢◌, ◌↔◌, ◌≤◌, ◌++◌, ◌||◌, ℕ, Bool, IsTrue, List, length, take, drop, ap, subst, sym, ◌∙◌}
use Rattle.std.specs.List.{AllByRecursion}
use Rattle.stream_importance.specs.declared.{entry.Entry.Entry, entry.Want.Want, slope.Caps.Caps}
use Rattle.port_ledger.specs.declared.totals.Totals.{Totals}
use Rattle.port_ledger.specs.{entry_of, with_want, booked_of, stream_of, IsAscending, AreBehind, IsFront, has_booking, has_move, exchanged, importance_order, both_of}
use Rattle.port_ledger.proofs.{Keeping.ascending_wanted, Noting.any_changed, Noting.found_behind, Noting.none_behind}
use Rattle.port_ledger.proofs.decide.wanted_in_room.Goals as goal

-- what is known of the cut, told of the entries and the order themselves
was : (place : ℕ) (xs ys es fs : List Entry) → xs ≡ ys → es ≡ fs → AreBehind (take place xs) (drop place xs) es → AreBehind (take place ys) (drop place ys) fs
was place xs ys es fs e f h =
    subst (λ (zs : List Entry). AreBehind (take place zs) (drop place zs) fs) e
    (subst (λ (gs : List Entry). AreBehind (take place xs) (drop place xs) gs) f h)

off : (place s : ℕ) (xs ys : List Entry) → xs ≡ ys → AllByRecursion (λ y. stream_of y ≢ s) (take place xs) → AllByRecursion (λ y. stream_of y ≢ s) (take place ys)
off place s xs ys e h = subst (λ (zs : List Entry). AllByRecursion (λ y. stream_of y ≢ s) (take place zs)) e h

pub entered-next-requires-clause-order_room : goal.entered-next-requires-clause-order_room
entered-next-requires-clause-order_room c = λ none.
    c.requires.order_room
    (none_behind c.args.want.stream (take c.cut_for-front.result.place c.args.order.now.items) (drop c.cut_for-front.result.place c.args.order.now.items) c.args.entries.now.items
    (was c.cut_for-front.result.place _ _ _ _ c.deref-3.ensures.value c.deref-2.ensures.value c.cut_for-front.ensures.behind)
    (off c.cut_for-front.result.place c.args.want.stream.0 _ _ c.deref-3.ensures.value c.cut_for-front.ensures.apart) none)

pub returns-clause-order_stays : goal.returns-clause-order_stays
returns-clause-order_stays c = λ some.
    c.entered-next.ensures.order_stays
    (found_behind c.args.want.stream (take c.cut_for-front.result.place c.args.order.now.items) (drop c.cut_for-front.result.place c.args.order.now.items) c.args.entries.now.items
    (was c.cut_for-front.result.place _ _ _ _ c.deref-3.ensures.value c.deref-2.ensures.value c.cut_for-front.ensures.behind)
    (off c.cut_for-front.result.place c.args.want.stream.0 _ _ c.deref-3.ensures.value c.cut_for-front.ensures.apart)
    ∙ some)

-- the order behind the cut once the want has come
abbrev ranked : ℕ → ℕ → List Entry → Want → List Entry
ranked now place order want = importance_order now (exchanged (drop place order) want)

-- the whole order, and what is known of it
whole : (now : ℕ) (caps : Caps) (place : ℕ) (totals : Totals) (xs ys es fs : List Entry) (want : Want) → xs ≡ ys → es ≡ fs
    → IsFront now caps place totals (with_want es want) (take place xs ++ exchanged (drop place xs) want)
    → IsFront now caps place totals (with_want fs want) (take place ys ++ exchanged (drop place ys) want)
whole now caps place totals xs ys es fs want e f h =
    subst (λ (zs : List Entry). IsFront now caps place totals (with_want fs want) (take place zs ++ exchanged (drop place zs) want)) e
    (subst (λ (gs : List Entry). IsFront now caps place totals (with_want gs want) (take place xs ++ exchanged (drop place xs) want)) f h)

pub returns-clause-changed : goal.returns-clause-changed
returns-clause-changed c =
    let place : ℕ = c.cut_for-front.result.place in
    let es : List Entry = c.args.entries.now.items in
    let new : List Entry = c.entered-next.new.entries.items in
    let order : List Entry = c.args.order.now.items in
    let goes = c.find_entry-goes.result in
    let taken : ℕ = both_of c.cut_for-front.result.totals in
    let within : place ≤ length order = subst (λ (xs : List Entry). place ≤ length xs) c.deref-3.ensures.value c.cut_for-front.ensures.place in
    let up : IsAscending new =
    subst (λ (es : List Entry). IsAscending es) (sym c.entered-next.ensures.decided)
    (ascending_wanted c.args.now.0 c.args.caps.now es c.args.want (c.importance_is_an_order.ensures c.args.now.0) c.requires.book.kept.ascending) in
    let any : c.entered-next.new.notes.any ≡ (has_booking goes || has_move c.args.caps.now taken (ranked c.args.now.0 place order c.args.want)) =
    c.entered-next.ensures.any
    ∙ ap (λ (v : Bool). (v || has_booking goes) || has_move c.args.caps.now taken (ranked c.args.now.0 place order c.args.want)) c.without_room-notes.ensures in
    subst (λ (v : Bool). IsTrue v ↔ (booked_of new ≢ booked_of es)) (sym any)
    (any_changed c.args.now.0 (c.importance_is_an_order.ensures c.args.now.0) c.args.caps.now place c.cut_for-front.result.totals es new order c.args.want goes
    within (was place _ _ _ _ c.deref-3.ensures.value c.deref-2.ensures.value c.cut_for-front.ensures.behind)
    (whole c.args.now.0 c.args.caps.now place c.cut_for-front.result.totals _ _ _ _ c.args.want c.deref-3.ensures.value c.deref-2.ensures.value c.cut_for-front.ensures.front)
    c.entered-next.ensures.decided
    (sym (c.find_entry-goes.ensures ∙ ap (λ es. entry_of es c.args.want.stream) c.deref.ensures.value)) c.requires.other
    (off place c.args.want.stream.0 _ _ c.deref-3.ensures.value c.cut_for-front.ensures.apart)
    c.requires.book.kept.ascending up)
