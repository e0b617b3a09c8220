use Rattle.std.proofs.Common.{arith}
use Rattle.delay_bound.proofs.PeakLemmas.{height_fits, below_none}
use Rattle.delay_bound.proofs.heights.height_at.Goals as goal

pub overflow_mul-result : goal.overflow_mul-result
overflow_mul-result c =
    let fits = height_fits c.args.groups.now c.args.slope c.sum_over-sum.result.base c.sum_over-sum.result.slope c.args.span c.from-slope.result
    c.from-slope.ensures c.requires.slopes c.sum_over-sum.ensures.value c.if-slope-sum.true c.requires.small in
    omega (arith, fits)

pub overflow_add-result : goal.overflow_add-result
overflow_add-result c =
    let fits = height_fits c.args.groups.now c.args.slope c.sum_over-sum.result.base c.sum_over-sum.result.slope c.args.span c.from-slope.result
    c.from-slope.ensures c.requires.slopes c.sum_over-sum.ensures.value c.if-slope-sum.true c.requires.small in
    omega (arith, fits)

pub returns-clause-stays : goal.returns-clause-stays
returns-clause-stays c =
    below_none c.args.groups.now c.args.slope c.sum_over-sum.result.base c.sum_over-sum.result.slope c.args.span c.from-slope.result c.is_no_more.result
    c.from-slope.ensures c.sum_over-sum.ensures.value (omega arith) c.if-is_no_more.false c.is_no_more.ensures
