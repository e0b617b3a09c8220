use Rattle.std.proofs.Common.{◌+◌, ◌++◌, ◌<◌, ◌≤◌, ◌∙◌, drop, refl, ap, sym, subst, arith}
use Rattle.std.proofs.lemmas.List.{drop_all}
use Rattle.mrp_participant.specs.{rows_of_round, first_limit}
use Rattle.mrp_participant.proofs.Places.{finds_room, finds_none, not_in_round}
use Rattle.mrp_participant.proofs.sending_limit.fill.Goals as goal

pub returns-then-more-gt1500-clause-filled : goal.returns-then-more-gt1500-clause-filled
returns-then-more-gt1500-clause-filled g c =
    λ rest.
    c.loop-row.invariant.filled rest
    ∙ finds_none c.args.leave_all g.A.MrpApp.octets c.args.n c.loop-row.total c.args.rows.now _ _ c.loop-row-test.true c.row-item.is
    (sym c.round.ensures ∙ c.if-round-n.false) (subst (λ m. 1500 < c.loop-row.total + m) c.row_octets.ensures c.if-more-gt1500.true) rest

pub loop-row-preserved-then-round-n : goal.loop-row-preserved-then-round-n
loop-row-preserved-then-round-n g c =
    record {
      room = c.loop-row.invariant.room;
      filled =
          λ rest.
          c.loop-row.invariant.filled rest
          ∙ not_in_round c.args.leave_all g.A.MrpApp.octets c.args.n c.loop-row.total c.args.rows.now _ _ c.loop-row-test.true c.row-item.is (λ e. c.if-round-n.true (c.round.ensures ∙ e)) rest;
    }

pub loop-row-preserved : goal.loop-row-preserved
loop-row-preserved g c =
    record {
      room = omega arith;
      filled =
          λ rest.
          c.loop-row.invariant.filled rest
          ∙ finds_room c.args.leave_all g.A.MrpApp.octets c.args.n c.loop-row.total c.args.rows.now _ _ c.loop-row-test.true c.row-item.is
          (sym c.round.ensures ∙ c.if-round-n.false) (subst (λ m. c.loop-row.total + m ≤ 1500) c.row_octets.ensures c.if-more-gt1500.false) rest
          ∙ ap (λ m. first_limit c.args.leave_all g.A.MrpApp.octets (c.loop-row.total + m)
          (rows_of_round c.args.leave_all c.args.n (drop (c.loop-row.row-index + 1) c.args.rows.now) ++ rest))
          (sym c.row_octets.ensures);
    }

pub loop-row-init : goal.loop-row-init
loop-row-init g c = record { room = c.requires; filled = λ rest. refl }

pub offset_bounds-rows-row-index : goal.offset_bounds-rows-row-index
offset_bounds-rows-row-index g c = c.loop-row.auto.row-index-end

pub returns-clause-bound : goal.returns-clause-bound
returns-clause-bound g c = c.loop-row.invariant.room

pub returns-clause-filled : goal.returns-clause-filled
returns-clause-filled g c =
    λ rest.
    c.loop-row.invariant.filled rest
    ∙ ap (λ rows. first_limit c.args.leave_all g.A.MrpApp.octets c.loop-row.total
    (rows_of_round c.args.leave_all c.args.n rows ++ rest)) (drop_all _ c.args.rows.now c.loop-row-test.false)

pub overflow_add-more : goal.overflow_add-more
overflow_add-more g c =
    let room = c.loop-row.invariant.room in
    let fits = g.met.A.MrpApp.row_fits c.row-item.result.content in
    let octets = c.row_octets.ensures in
    omega arith
