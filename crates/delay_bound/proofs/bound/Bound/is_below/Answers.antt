use Rattle.std.proofs.lemmas.Bool.{false≢true}
use Rattle.delay_bound.proofs.BoundLemmas.{below_flat, above_flat}
use Rattle.delay_bound.proofs.bound.Bound.is_below.Goals as goal

pub returns-then-flat-self : goal.returns-then-flat-self
returns-then-flat-self c = (
  (λ is. absurd (false≢true is)),
  (λ h. absurd (above_flat c.args.self.now.base c.args.self.now.slope c.args.flat.now.base c.args.flat.now.slope c.args.span
      c.requires c.if-flat-self.true h)),
)

pub returns : goal.returns
returns c =
    let is = below_flat c.args.self.now.base c.args.self.now.slope c.args.flat.now.base c.args.flat.now.slope c.args.span c.from.result
    c.from.ensures c.requires c.if-flat-self.false in
    ((λ h. is.0 (c.is_no_more.ensures.0 h)), (λ h. c.is_no_more.ensures.1 (is.1 h)))
