use Rattle.std.proofs.Common.{ap, sym, ◌∙◌, ◌+◌, subst, drop, fold, rules}
use Rattle.std.proofs.lemmas.List.{drop_all}
use Rattle.mrp_participant.proofs.{Exits.of_error, Lookups.fold-step, Hearings.AreRows-heard, Hearings.heard-each}
use Rattle.mrp_participant.specs.{AreRows, heard_with, row_so_far}
use Rattle.mrp_participant.proofs.hearing.rows_heard.Goals as goal

pub hear_beside-requires-clause-heard : goal.hear_beside-requires-clause-heard
hear_beside-requires-clause-heard g c = c.loop-event.invariant.are_rows.0

pub loop-event-preserved : goal.loop-event-preserved
loop-event-preserved g c =
    record {
      heard =
          fold-step
          (heard_with g.K.Ord.cmp c.args.leave_all c.args.leave c.args.rows.now) _ _ _ _ _ c.loop-event-test.true c.event-item.is c.loop-event.invariant.heard
          ∙ ap (λ heard. fold (heard_with g.K.Ord.cmp c.args.leave_all c.args.leave c.args.rows.now) heard
          (drop (c.loop-event.event-index + 1) c.args.events.now)) (sym c.in_ok-hear_beside.ensures);
      are_rows = subst (AreRows g.K.Ord.cmp) (sym c.in_ok-hear_beside.ensures)
          (AreRows-heard g.met.K.Ord.total c.args.leave_all c.args.leave c.args.rows.now c.requires _ _ _ _ c.loop-event.invariant.are_rows);
    }

pub loop-event-init : goal.loop-event-init
loop-event-init g c =
    record {
      heard = ap (λ heard. fold (heard_with g.K.Ord.cmp c.args.leave_all c.args.leave c.args.rows.now) heard c.args.events.now) (sym c.new-heard.ensures.items);
      are_rows = subst (AreRows g.K.Ord.cmp) (sym c.new-heard.ensures.items) (search rules);
    }

pub offset_bounds-events-event-index : goal.offset_bounds-events-event-index
offset_bounds-events-event-index g c = c.loop-event.auto.event-index-end

pub hear_beside-requires-clause-rows : goal.hear_beside-requires-clause-rows
hear_beside-requires-clause-rows g c = c.requires.0

pub returns-in_err-hear_beside-clause-each_key : goal.returns-in_err-hear_beside-clause-each_key
returns-in_err-hear_beside-clause-each_key g c = of_error c.from_residual.result _ _ c.from_residual.ensures.1

pub returns-in_err-hear_beside-clause-are_rows : goal.returns-in_err-hear_beside-clause-are_rows
returns-in_err-hear_beside-clause-are_rows g c = of_error c.from_residual.result _ _ c.from_residual.ensures.1

pub returns-clause-each_key : goal.returns-clause-each_key
returns-clause-each_key g c k =
    ap (λ heard. row_so_far g.K.Ord.cmp c.args.leave_all c.args.leave c.args.rows.now heard k)
    (sym
    (c.loop-event.invariant.heard
    ∙ ap (λ events. fold
    (heard_with g.K.Ord.cmp c.args.leave_all c.args.leave c.args.rows.now) c.loop-event.heard.items events)
    (drop_all _ c.args.events.now c.loop-event-test.false)))
    ∙ heard-each g.met.K.Ord.total c.args.leave_all c.args.leave c.args.rows.now c.requires c.args.events.now k

pub returns-clause-are_rows : goal.returns-clause-are_rows
returns-clause-are_rows g c = c.loop-event.invariant.are_rows
