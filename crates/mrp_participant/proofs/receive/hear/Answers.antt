use Rattle.std.proofs.Common.{◌∙◌, ap}
use Rattle.std.proofs.lemmas.Result.{IfOk-weaker}
use Rattle.mrp_participant.specs.{find, row_after_receive}
use Rattle.mrp_participant.proofs.Exits.{of_error}
use Rattle.mrp_participant.proofs.receive.hear.Goals as goal

pub rows_heard-requires : goal.rows_heard-requires
rows_heard-requires g c = c.requires

pub returns-then-keys_ascend-clause-are_rows : goal.returns-then-keys_ascend-clause-are_rows
returns-then-keys_ascend-clause-are_rows g c = c.rows_heard.ensures.are_rows

pub returns-then-keys_ascend-clause-each_key : goal.returns-then-keys_ascend-clause-each_key
returns-then-keys_ascend-clause-each_key g c = c.rows_heard.ensures.each_key

pub returns-in_err-sorted-clause-are_rows : goal.returns-in_err-sorted-clause-are_rows
returns-in_err-sorted-clause-are_rows g c = of_error c.from_residual.result _ _ c.from_residual.ensures.1

pub returns-in_err-sorted-clause-each_key : goal.returns-in_err-sorted-clause-each_key
returns-in_err-sorted-clause-each_key g c = of_error c.from_residual.result _ _ c.from_residual.ensures.1

pub rows_heard-requires-2 : goal.rows_heard-requires-2
rows_heard-requires-2 g c = c.requires

pub returns-clause-are_rows : goal.returns-clause-are_rows
returns-clause-are_rows g c = c.rows_heard-2.ensures.are_rows

pub returns-clause-each_key : goal.returns-clause-each_key
returns-clause-each_key g c =
    IfOk-weaker c.rows_heard-2.result _ _
    (λ heard is k.
    is k
    ∙ ap (λ events. row_after_receive g.K.Ord.cmp c.args.leave c.args.leave_all events k (find g.K.Ord.cmp k c.args.rows.now)) c.as_slice.ensures.value
    ∙ c.in_ok-sorted.ensures c.args.leave c.args.leave_all k (find g.K.Ord.cmp k c.args.rows.now))
    c.rows_heard-2.ensures.each_key
