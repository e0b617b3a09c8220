use Rattle.toml.specs.View.{table_view}
use Rattle.rule_words.proofs.SearchLemmas.{entry-found, entry-over, entry-step}
use Rattle.rule_words.proofs.search.first_entry.Goals as goal

pub loop-i-preserved : goal.loop-i-preserved
loop-i-preserved g c said tests =
    entry-step (λ t. table_view t.now) said c.args.entries.now c.loop-i.i c.index-entries-i.result c.test.result _ c.loop-i-test.true c.index-entries-i.is
    (tests _ _ _ c.test.ensures) c.if-test.false (c.loop-i.invariant said tests)

pub returns-clause-first : goal.returns-clause-first
returns-clause-first g c said tests =
    entry-over (λ t. table_view t.now) said c.args.entries.now c.loop-i.i _ c.loop-i-test.false (c.loop-i.invariant said tests)

pub returns-then-test-clause-first : goal.returns-then-test-clause-first
returns-then-test-clause-first g c said tests =
    entry-found (λ t. table_view t.now) said c.args.entries.now c.loop-i.i c.index-entries-i.result c.test.result _ c.loop-i-test.true c.index-entries-i.is
    (tests _ _ _ c.test.ensures) c.if-test.true (c.loop-i.invariant said tests)
