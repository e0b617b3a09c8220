use Rattle.std.proofs.Common.{ℕ, ◌∙◌, ap, map}
use Rattle.frame_flow.specs.{tick_at, in_force}
use Rattle.frame_flow.proofs.FateLemmas.{verdicts-more, arrivals-more}
use Rattle.frame_flow.proofs.verdicts.Verdicts.on.Goals as goal

pub loop-c-init : goal.loop-c-init
loop-c-init c = record {
  all = c.in_ok-reserve.ensures.items ∙ c.new.ensures.items;
  arrivals = c.new-2.ensures.items;
  force = c.nowhere-force.ensures c.args.rate c.args.changes.now;
}

pub loop-c-preserved : goal.loop-c-preserved
loop-c-preserved c =
    let changes = map (λ x. x.now) c.args.changes.now in
    let force = c.newest.ensures _ c.moved-force.ensures.here ∙ ap (λ (b : ℕ). in_force (tick_at c.args.rate b) changes) c.bit.ensures in
    record {
      all = verdicts-more c.args.rate changes c.args.copies.now c.loop-c.c-index _ _ _ _ _ c.loop-c-test.true c.c-item.is force c.loop-c.invariant.all c.in_ok-add.ensures.all;
      arrivals = arrivals-more c.args.rate changes c.args.copies.now c.loop-c.c-index _ _ _ _ _ c.loop-c-test.true c.c-item.is force c.loop-c.invariant.arrivals c.in_ok-add.ensures.arrivals;
      force = c.moved-force.ensures.stretch;
    }
