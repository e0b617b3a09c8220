use Rattle.std.proofs.Common.{◌≤◌, List, ◌∷◌, get_or, arith}
use Rattle.delay_bound.specs.declared.bound.Bound.{Bound}
use Rattle.delay_bound.specs.Crossings.{IsBelowWith}
use Rattle.delay_bound.proofs.PeakLemmas.{raised_with, one_on, all_of}
use Rattle.delay_bound.proofs.heights.highest_over.Goals as goal

pub loop-steep-preserved : goal.loop-steep-preserved
loop-steep-preserved c =
    let bounds : List Bound = c.args.first.now ∷ c.args.more.now in
    let up : c.loop-steep.height ≤ c.max-height.result = omega arith in
    let other : c.highest_with.result ≤ c.max-height.result = omega arith in
    record {
      first = raised_with c.args.groups.now c.args.slope c.loop-steep.height c.max-height.result bounds c.args.first.now up c.loop-steep.invariant.first;
      each = one_on (IsBelowWith c.args.groups.now c.args.slope c.loop-steep.height bounds) (IsBelowWith c.args.groups.now c.args.slope c.max-height.result bounds)
          c.args.more.now c.loop-steep.steep-index _ c.loop-steep-test.true
          (λ b is. raised_with c.args.groups.now c.args.slope c.loop-steep.height c.max-height.result bounds b up is)
          (raised_with c.args.groups.now c.args.slope c.highest_with.result c.max-height.result bounds (get_or c.args.more.now c.loop-steep.steep-index _) other
          c.highest_with.ensures.stays)
          c.loop-steep.invariant.each;
      least = λ k is. let one = c.loop-steep.invariant.least k is in let two = c.highest_with.ensures.least k is in omega (arith, one, two);
    }

pub returns-clause-stays : goal.returns-clause-stays
returns-clause-stays c =
    all_of (IsBelowWith c.args.groups.now c.args.slope c.loop-steep.height (c.args.first.now ∷ c.args.more.now)) c.args.first.now c.args.more.now
    c.loop-steep.invariant.first (λ k d low lt. c.loop-steep.invariant.each k d low (omega (arith, lt)))
