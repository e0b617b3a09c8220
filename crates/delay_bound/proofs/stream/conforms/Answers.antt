use Rattle.std.proofs.Common.{refl, arith}
use Rattle.std.proofs.lemmas.Bool.{false≢true}
use Rattle.delay_bound.proofs.LevelLemmas.{conform_from, into_bucket, stops, ends}
use Rattle.delay_bound.proofs.stream.conforms.Goals as goal

pub returns-in-None : goal.returns-in-None
returns-in-None c = (
  (λ is. absurd (false≢true is)),
  (λ conform. absurd (stops c.args.limits.now (record { level = 0; at = 0 }) c.loop-frame.bucket c.args.frames.now c.loop-frame.frame-index _ c.loop-frame-test.true
      c.in-None.ensures c.loop-frame.invariant.come (into_bucket c.args.limits.now c.args.frames.now c.requires conform))),
)

pub returns : goal.returns
returns c = (
  (λ _. conform_from c.args.limits.now c.args.frames.now c.requires
      (c.loop-frame.invariant.go (ends c.args.limits.now c.loop-frame.bucket c.args.frames.now c.loop-frame.frame-index (omega arith)))),
  (λ _. refl),
)
