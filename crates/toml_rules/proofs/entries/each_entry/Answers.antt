use Rattle.std.proofs.Common.{◌+◌}
use Rattle.toml_rules.proofs.EntryLemmas.{each-step, each-refused, each-end}
use Rattle.toml_rules.proofs.entries.each_entry.Goals as goal

pub returns-in-None : goal.returns-in-None
returns-in-None g c said calls =
    each-refused c.args.rule said c.loop-i.values.items c.loop-i.i c.args.entries.now c.index-entries-i.result c.in_ok-value.value c.fails_at.result _
    c.loop-i-test.true c.index-entries-i.is (calls (c.loop-i.i + 1) _ _ c.in_ok-value.ensures) c.in-None.is c.fails_at.ensures (c.loop-i.invariant said calls)

pub loop-i-preserved : goal.loop-i-preserved
loop-i-preserved g c said calls =
    each-step c.args.rule said c.loop-i.values.items c.push.new.self.items c.loop-i.i c.args.entries.now c.index-entries-i.result c.in_ok-value.value c.in-Some.value _
    c.loop-i-test.true c.index-entries-i.is (calls (c.loop-i.i + 1) _ _ c.in_ok-value.ensures) c.in-Some.is c.in_ok-push-in-Some.ensures.items (c.loop-i.invariant said calls)

pub returns : goal.returns
returns g c said calls =
    each-end c.args.rule said c.loop-i.values.items c.loop-i.i c.args.entries.now _ c.loop-i-test.false (c.loop-i.invariant said calls)
