use Rattle.toml_rules.proofs.SearchLemmas.{fall-step, fall-found, fall-over}
use Rattle.toml_rules.proofs.entries.first_fall.Goals as goal

pub loop-i-preserved : goal.loop-i-preserved
loop-i-preserved g c said keys =
    fall-step said c.args.entries.now c.loop-i.i c.loop-i.before c.key-now.result c.index-entries-i.result _ c.loop-i-test.true
    c.index-entries-i.is (keys _ _ c.key-now.ensures) c.if-now-before.false (c.loop-i.invariant said keys)

pub returns : goal.returns
returns g c said keys =
    fall-over said c.args.entries.now c.loop-i.i c.loop-i.before _ c.loop-i-test.false (c.loop-i.invariant said keys)

pub returns-then-now-before : goal.returns-then-now-before
returns-then-now-before g c said keys =
    fall-found said c.args.entries.now c.loop-i.i c.loop-i.before c.key-now.result c.index-entries-i.result _ c.loop-i-test.true
    c.index-entries-i.is (keys _ _ c.key-now.ensures) c.if-now-before.true (c.loop-i.invariant said keys)
