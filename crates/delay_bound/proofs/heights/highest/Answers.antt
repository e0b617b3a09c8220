use Rattle.std.proofs.Common.{◌≤◌, List, ◌∷◌, subst, arith}
use Rattle.delay_bound.specs.declared.bound.Bound.{Bound}
use Rattle.delay_bound.specs.declared.bound.Group.{Group}
use Rattle.delay_bound.specs.Bounds.{bounds_of}
use Rattle.delay_bound.specs.Crossings.{IsBelowOver}
use Rattle.delay_bound.proofs.PeakLemmas.{raised_over, one_on, peak_of}
use Rattle.delay_bound.proofs.heights.highest.Goals as goal

pub loop-group-preserved : goal.loop-group-preserved
loop-group-preserved c =
    let item : Group = c.group-item.result in
    let up : c.loop-group.height ≤ c.max-height.result = omega arith in
    let other : c.highest_over.result ≤ c.max-height.result = omega arith in
    let here : IsBelowOver c.args.groups.now c.args.slope c.highest_over.result (bounds_of item) =
    subst (λ (m : List Bound). IsBelowOver c.args.groups.now c.args.slope c.highest_over.result (item.first ∷ m)) c.as_slice.ensures c.highest_over.ensures.stays in
    let raised : IsBelowOver c.args.groups.now c.args.slope c.max-height.result (bounds_of item) =
    raised_over c.args.groups.now c.args.slope c.highest_over.result c.max-height.result (bounds_of item) other here in
    record {
      none = (let none = c.loop-group.invariant.none in omega (arith, none, up));
      each = one_on (λ (g : Group). IsBelowOver c.args.groups.now c.args.slope c.loop-group.height (bounds_of g))
          (λ (g : Group). IsBelowOver c.args.groups.now c.args.slope c.max-height.result (bounds_of g)) c.args.groups.now c.loop-group.group-index item c.loop-group-test.true
          (λ g is. raised_over c.args.groups.now c.args.slope c.loop-group.height c.max-height.result (bounds_of g) up is)
          (subst (λ (g : Group). IsBelowOver c.args.groups.now c.args.slope c.max-height.result (bounds_of g)) c.group-item.is raised)
          c.loop-group.invariant.each;
      least = λ k is. let one = c.loop-group.invariant.least k is in let two = c.highest_over.ensures.least k is in omega (arith, one, two);
    }

pub returns : goal.returns
returns c =
    peak_of c.args.groups.now c.args.slope c.loop-group.height c.requires.slopes c.loop-group.invariant.none
    (λ k d low lt. c.loop-group.invariant.each k d low (omega (arith, lt))) c.loop-group.invariant.least
