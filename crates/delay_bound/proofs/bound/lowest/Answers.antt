use Rattle.std.proofs.Common.{arith}
use Rattle.delay_bound.proofs.BoundLemmas.{lowest_step, lowest_end, bases_step, bases_end}
use Rattle.delay_bound.proofs.bound.lowest.Goals as goal

pub loop-bound-preserved : goal.loop-bound-preserved
loop-bound-preserved c =
    record {
      least = lowest_step c.args.span c.args.first c.loop-bound.lowest c.lower-lowest.result c.args.more.now c.loop-bound.bound-index _ c.loop-bound-test.true
          c.lower-lowest.ensures.least c.loop-bound.invariant.least;
      small = bases_step c.args.first c.loop-bound.lowest c.lower-lowest.result c.args.more.now c.loop-bound.bound-index _ c.loop-bound-test.true
          c.lower-lowest.ensures.small c.loop-bound.invariant.small;
    }

pub returns-clause-least : goal.returns-clause-least
returns-clause-least c =
    lowest_end c.args.span c.args.first c.loop-bound.lowest c.args.more.now c.loop-bound.bound-index (omega arith) c.loop-bound.invariant.least

pub returns-clause-small : goal.returns-clause-small
returns-clause-small c = bases_end c.args.first c.loop-bound.lowest c.args.more.now c.loop-bound.bound-index c.loop-bound.invariant.small
