use Rattle.std.proofs.Common.{◌≡◌, ◌+◌, ◌≤◌, ◌<◌, ◌^◌, ◌++◌, List, length, take, drop, ap, subst, sym, ◌∙◌}
use Rattle.srp_base.specs.declared.bandwidth.Class.TheVariants.{A, B}
use Rattle.stream_importance.specs.declared.entry.Entry.{Entry}
use Rattle.port_ledger.specs.{booked_slope, decided_entries, settled_front, decided_behind, IsOrdered, importance_order, with_pass, together, totals_of}
use Rattle.port_ledger.proofs.Fronts.{front_decided, front_different, front_only, front_ordered, front_place, front_range, front_taken, later, seam-drop, seam-take, seam-within}
use Rattle.port_ledger.proofs.decide.decide_from.Goals as goal

pub taken-requires : goal.taken-requires
taken-requires c = front_taken c.args.now.0
    (c.importance_is_an_order.ensures c.args.now.0) c.args.caps.now c.args.front.now.place c.args.front.now.totals c.args.entries.now c.args.order.now c.requires

pub decide_part-requires-clause-place : goal.decide_part-requires-clause-place
decide_part-requires-clause-place c = front_place c.args.now.0
    (c.importance_is_an_order.ensures c.args.now.0) c.args.caps.now c.args.front.now.place c.args.front.now.totals c.args.entries.now c.args.order.now c.requires

pub decide_part-requires-clause-different : goal.decide_part-requires-clause-different
decide_part-requires-clause-different c = front_different c.args.now.0
    (c.importance_is_an_order.ensures c.args.now.0) c.args.caps.now c.args.front.now.place c.args.front.now.totals c.args.entries.now c.args.order.now c.requires

pub decide_part-requires-clause-same : goal.decide_part-requires-clause-same
decide_part-requires-clause-same c = front_only c.args.now.0
    (c.importance_is_an_order.ensures c.args.now.0) c.args.caps.now c.args.front.now.place c.args.front.now.totals c.args.entries.now c.args.order.now c.requires

-- the order as it is left
left : (c : goal.After-entries-1)
    → c.decide_part.new.order
    ≡ take c.args.front.now.place c.args.order.now
    ++ later c.args.now.0 (c.importance_is_an_order.ensures c.args.now.0) c.args.caps.now c.args.front.now.place c.args.front.now.totals c.args.entries.now c.args.order.now c.requires
left c =
    c.decide_part.ensures.order
    ∙ ap (λ n. take c.args.front.now.place c.args.order.now ++ decided_behind c.args.now.0 c.args.caps.now n (drop c.args.front.now.place c.args.order.now)) c.taken.ensures

within : (c : goal.After-entries-1) → c.args.front.now.place ≤ length c.args.order.now
within c = front_place c.args.now.0 (c.importance_is_an_order.ensures c.args.now.0) c.args.caps.now c.args.front.now.place c.args.front.now.totals c.args.entries.now c.args.order.now c.requires

pub standing_of-requires-clause-place : goal.standing_of-requires-clause-place
standing_of-requires-clause-place c =
    subst (λ (xs : List Entry). c.args.front.now.place ≤ length xs) (sym (left c)) (seam-within c.args.front.now.place c.args.order.now _ (within c))

pub standing_of-requires-clause-range : goal.standing_of-requires-clause-range
standing_of-requires-clause-range c =
    subst (λ (xs : List Entry). booked_slope xs A + booked_slope xs B < 2 ^ 64) (sym (left c))
    (front_range c.args.now.0
    (c.importance_is_an_order.ensures c.args.now.0) c.args.caps.now c.args.front.now.place c.args.front.now.totals c.args.entries.now c.args.order.now c.requires)

pub standing_of-requires-clause-front : goal.standing_of-requires-clause-front
standing_of-requires-clause-front c =
    c.requires.totals ∙ ap (totals_of c.args.now.0) (sym (ap (take c.args.front.now.place) (left c) ∙ seam-take c.args.front.now.place c.args.order.now _ (within c)))

pub returns-clause-decided : goal.returns-clause-decided
returns-clause-decided c =
    c.decide_part.ensures.entries
    ∙ (ap (λ n. with_pass c.args.now.0 c.args.caps.now n (importance_order c.args.now.0 (drop c.args.front.now.place c.args.order.now)) c.args.entries.now) c.taken.ensures
    ∙ front_decided c.args.now.0 (c.importance_is_an_order.ensures c.args.now.0) c.args.caps.now c.args.front.now.place c.args.front.now.totals c.args.entries.now c.args.order.now c.requires)

pub returns-clause-ordered : goal.returns-clause-ordered
returns-clause-ordered c =
    let rest : drop c.args.front.now.place c.decide_part.new.order ≡ later c.args.now.0
    (c.importance_is_an_order.ensures c.args.now.0) c.args.caps.now c.args.front.now.place c.args.front.now.totals c.args.entries.now c.args.order.now c.requires
    = ap (drop c.args.front.now.place) (left c.before) ∙ seam-drop c.args.front.now.place c.args.order.now _ (within c.before) in
    subst (λ (xs : List Entry). IsOrdered c.args.now.0 c.standing_of.result xs c.decide_part.new.order) (sym (returns-clause-decided c))
    (subst (λ (xs : List Entry). IsOrdered c.args.now.0 c.standing_of.result (decided_entries c.args.now.0 c.args.caps.now c.args.entries.now) xs) (sym (left c.before))
    (front_ordered c.args.now.0
    (c.importance_is_an_order.ensures c.args.now.0) c.args.caps.now c.args.front.now.place c.args.front.now.totals c.args.entries.now c.args.order.now c.requires
    c.standing_of.result.settled c.standing_of.result.totals
    (c.standing_of.ensures.settled ∙ ap (λ ys. c.args.front.now.place + settled_front ys) rest)
    (c.standing_of.ensures.totals ∙ ap (λ ys. together c.args.front.now.totals (totals_of c.args.now.0 ys)) rest)))
