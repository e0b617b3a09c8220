use Rattle.std.proofs.Common.{sym, ◌∙◌}
use Rattle.std.proofs.lemmas.Result.{err_from_is_err_and}
use Rattle.mrpdu_codec.specs.{vector_in, attrs_in}
use Rattle.mrpdu_codec.proofs.VectorLoops.{falls, list_goes_on, list_fails, list_ends}
use Rattle.mrpdu_codec.proofs.vectors.vectors.Goals as goal

pub returns-in_err-raw : goal.returns-in_err-raw
returns-in_err-raw c =
    let p = err_from_is_err_and c.from_residual.result c.from_residual.ensures.1 in
    rw (p.1, p.2) (list_fails c.args.row c.args.len _ (attrs_in c.more.found.items) c.more.rest.now c.more.invariant c.in_err-raw.field-0.0
    (sym c.ends_list.ensures ∙ c.more-test.true) c.in_err-raw.ensures)

pub more-smaller : goal.more-smaller
more-smaller c = falls c.args.row c.args.len c.more.rest.now (vector_in c.in_ok-raw.raw, c.in_ok-raw.after.now) (sym c.ends_list.ensures ∙ c.more-test.true) c.in_ok-raw.ensures

pub more-preserved : goal.more-preserved
more-preserved c =
    rw c.in_ok-push_known.ensures
    (list_goes_on c.args.row c.args.len _ (attrs_in c.more.found.items) c.more.rest.now c.more.invariant (vector_in c.in_ok-raw.raw) c.in_ok-raw.after.now
    (sym c.ends_list.ensures ∙ c.more-test.true) c.in_ok-raw.ensures)

pub returns : goal.returns
returns c = list_ends c.args.row c.args.len _ (attrs_in c.more.found.items) c.more.rest.now c.more.invariant (sym c.ends_list.ensures ∙ c.more-test.false)
