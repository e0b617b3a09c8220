use Rattle.rule_words.specs.{moved}
use Rattle.rule_words.proofs.JoinedLemmas.{label-over}
use Rattle.rule_words.proofs.joined.relabel.Goals as goal

pub loop-label-preserved : goal.loop-label-preserved
loop-label-preserved c =
    label-over (moved c.args.from c.args.to) c.args.labels.now c.loop-label.labels c.loop-label.label-index c.moved.result
    c.loop-label-test.true c.loop-label.auto.labels c.loop-label.invariant c.moved.ensures
