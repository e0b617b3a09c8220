use Rattle.std.proofs.Common.{◌<◌, ◌+◌, not, List, length, get_or, set, arith, ◌∙◌, ap, refl, subst, sym, vec_capacity, ◌||◌}
use Rattle.stream_importance.specs.declared.entry.Entry.{Entry}
use Rattle.port_ledger.specs.{since_after, gains, loses, moves, noted, stream_where, sum_with}
use Rattle.port_ledger.proofs.{Finding.blank, Noting.noted-more, Noting.passed-more, Noting.skipped_gains, Noting.skipped_loses, Noting.skipped_passed, Passing.PassesAt, Passing.pass_more, Passing.pass_skip, Passing.passes_first}
use Rattle.port_ledger.proofs.decide.pass.Goals as goal

pub loop-x-init : goal.loop-x-init
loop-x-init c = (passes_first _ _ _ _ _ c.requires.ascending c.requires.different c.requires.same, refl, refl, refl, refl)

pub loop-x-preserved : goal.loop-x-preserved
loop-x-preserved c =
    let x : Entry = get_or c.loop-x.order c.loop-x.x-index blank in
    let within : c.loop-x.x-index < length c.loop-x.order = omega (arith, c.loop-x-test.true, c.loop-x.auto.order) in
    let next = c.sum_with-sum.ensures ∙ ap (sum_with c.loop-x.sum x) c.has_room-let_in.ensures in (
      subst (λ (es : List Entry). PassesAt c.args.now.0 c.args.caps.now c.args.taken c.args.order.now c.args.entries.now c.sum_with-sum.result (c.loop-x.x-index + 1)
          (set c.loop-x.order c.loop-x.x-index (record x { since = c.since_after-since.result })) es) (sym c.set_since.ensures)
          (pass_more _ _ _ _ _ _ _ _ _ blank _ _ within
          (c.since_after-since.ensures ∙ ap (since_after c.args.now.0 x.since) c.has_room-let_in.ensures)
          next c.loop-x.invariant.0),
      noted-more gains c.args.caps.now c.loop-x.sum c.sum_with-sum.result c.loop-x.x-index (vec_capacity c.loop-x.notes.booked)
          (vec_capacity c.pass.new.self.booked) c.loop-x.order blank _ _ c.loop-x.notes.booked.items c.pass.new.self.booked.items within next c.pass.ensures.booked_room
          (c.pass.ensures.booked ∙ ap (λ v. noted (vec_capacity c.loop-x.notes.booked) c.loop-x.notes.booked.items (stream_where (gains x v) x)) c.has_room-let_in.ensures)
          c.loop-x.invariant.1,
      noted-more loses c.args.caps.now c.loop-x.sum c.sum_with-sum.result c.loop-x.x-index (vec_capacity c.loop-x.notes.dropped)
          (vec_capacity c.pass.new.self.dropped) c.loop-x.order blank _ _ c.loop-x.notes.dropped.items c.pass.new.self.dropped.items within next
          c.pass.ensures.dropped_room
          (c.pass.ensures.dropped ∙ ap (λ v. noted (vec_capacity c.loop-x.notes.dropped) c.loop-x.notes.dropped.items (stream_where (loses x v) x)) c.has_room-let_in.ensures)
          c.loop-x.invariant.2,
      passed-more loses c.args.caps.now c.loop-x.sum c.sum_with-sum.result c.loop-x.x-index c.loop-x.order blank _ _ c.loop-x.lost _ within next
          (c.or_loses-lost.ensures ∙ ap (λ v. c.loop-x.lost || loses x v) c.has_room-let_in.ensures) c.loop-x.invariant.3,
      passed-more moves c.args.caps.now c.loop-x.sum c.sum_with-sum.result c.loop-x.x-index c.loop-x.order blank _ _ c.loop-x.notes.any _ within next
          (c.pass.ensures.any ∙ ap (λ v. c.loop-x.notes.any || moves x v) c.has_room-let_in.ensures) c.loop-x.invariant.4,
    )

pub loop-x-preserved-then-is_none : goal.loop-x-preserved-then-is_none
loop-x-preserved-then-is_none c =
    let within : c.loop-x.x-index < length c.loop-x.order = omega (arith, c.loop-x-test.true, c.loop-x.auto.order) in
    let full = sym c.has_room-let_in.ensures ∙ c.if-not-let_in.true in
    let unbooked = c.is_none.ensures ∙ ap not c.if-is_none.true in (
      pass_skip c.args.now.0 c.args.caps.now c.args.taken c.args.order.now c.args.entries.now c.loop-x.sum c.loop-x.x-index c.loop-x.order c.loop-x.entries blank within
          full unbooked c.loop-x.invariant.0,
      skipped_gains c.args.caps.now c.loop-x.sum c.loop-x.x-index (vec_capacity c.loop-x.notes.booked) c.loop-x.order blank _ _ c.loop-x.notes.booked.items within full c.loop-x.invariant.1,
      skipped_loses c.args.caps.now c.loop-x.sum c.loop-x.x-index (vec_capacity c.loop-x.notes.dropped) c.loop-x.order blank _ _ c.loop-x.notes.dropped.items within full unbooked c.loop-x.invariant.2,
      skipped_passed loses c.args.caps.now c.loop-x.sum c.loop-x.x-index c.loop-x.order blank _ _ c.loop-x.lost within full unbooked c.loop-x.invariant.3,
      skipped_passed moves c.args.caps.now c.loop-x.sum c.loop-x.x-index c.loop-x.order blank _ _ c.loop-x.notes.any within full unbooked c.loop-x.invariant.4,
    )
