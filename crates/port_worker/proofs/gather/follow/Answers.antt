use Rattle.std.proofs.Common.{sym, ◌∙◌}
use Rattle.port_worker.proofs.NumberedLemmas.{all_followed}
use Rattle.port_worker.proofs.gather.follow.Goals as goal

pub loop-i-preserved : goal.loop-i-preserved
loop-i-preserved c = (c.follow_at.ensures.can, sym c.follow_at.ensures.same ∙ c.loop-i.invariant.1)

pub returns : goal.returns
returns c =
    sym (all_followed c.args.node c.args.steps.now c.args.notices.now c.loop-i.i c.loop-i.marks c.loop-i-test.false) ∙ c.loop-i.invariant.1
