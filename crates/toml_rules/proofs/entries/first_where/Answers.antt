use Rattle.toml_rules.proofs.SearchLemmas.{where-step, where-found, where-over}
use Rattle.toml_rules.proofs.entries.first_where.Goals as goal

pub loop-i-preserved : goal.loop-i-preserved
loop-i-preserved g c said tests =
    where-step said c.args.entries.now c.loop-i.i c.index-entries-i.result c.test.result _ c.loop-i-test.true c.index-entries-i.is
    (tests _ _ _ c.test.ensures) c.if-test.false (c.loop-i.invariant said tests)

pub returns-clause-first : goal.returns-clause-first
returns-clause-first g c said tests =
    where-over said c.args.entries.now c.loop-i.i _ c.loop-i-test.false (c.loop-i.invariant said tests)

pub returns-then-test-clause-first : goal.returns-then-test-clause-first
returns-then-test-clause-first g c said tests =
    where-found said c.args.entries.now c.loop-i.i c.index-entries-i.result c.test.result _ c.loop-i-test.true c.index-entries-i.is
    (tests _ _ _ c.test.ensures) c.if-test.true (c.loop-i.invariant said tests)
