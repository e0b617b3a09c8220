use Rattle.std.proofs.Common.{◌+◌, refl}
use Rattle.toml_rules.proofs.EntryLemmas.{within-step, within-refused, within-end, light-none, light-less}
use Rattle.toml_rules.proofs.entries.each_within.Goals as goal

pub returns-in_default : goal.returns-in_default
returns-in_default g c weight said weights calls =
    within-refused c.args.rule weight said c.loop-i.values.items c.loop-i.room c.loop-i.i c.args.entries.now c.index-entries-i.result c.in_ok-value.value c.fails_at.result _
    c.loop-i-test.true c.index-entries-i.is (calls (c.loop-i.i + 1) _ _ c.in_ok-value.ensures)
    (light-none c.loop-i.room weight c.in_ok-value.value c.in_default.is) c.fails_at.ensures (c.loop-i.invariant weight said weights calls)

pub returns-then-room-weight : goal.returns-then-room-weight
returns-then-room-weight g c weight said weights calls =
    within-refused c.args.rule weight said c.loop-i.values.items c.loop-i.room c.loop-i.i c.args.entries.now c.index-entries-i.result c.in_ok-value.value c.fails_at-then-room-weight.result _
    c.loop-i-test.true c.index-entries-i.is (calls (c.loop-i.i + 1) _ _ c.in_ok-value.ensures)
    (light-less c.loop-i.room c.weigh-weight.result weight c.in_ok-value.value c.in-Some.value c.in-Some.is
    (weights _ _ c.weigh-weight.ensures) c.if-room-weight.true)
    c.fails_at-then-room-weight.ensures (c.loop-i.invariant weight said weights calls)

pub loop-i-preserved : goal.loop-i-preserved
loop-i-preserved g c weight said weights calls =
    within-step c.args.rule weight said c.loop-i.values.items c.push.new.self.items c.loop-i.room c.weigh-weight.result _ c.loop-i.i c.args.entries.now
    c.index-entries-i.result c.in_ok-value.value c.in-Some.value _
    c.loop-i-test.true c.index-entries-i.is (calls (c.loop-i.i + 1) _ _ c.in_ok-value.ensures) c.in-Some.is
    (weights _ _ c.weigh-weight.ensures) c.if-room-weight.false refl c.in_ok-push.ensures.items (c.loop-i.invariant weight said weights calls)

pub returns : goal.returns
returns g c weight said weights calls =
    within-end c.args.rule weight said c.loop-i.values.items c.loop-i.room c.loop-i.i c.args.entries.now _ c.loop-i-test.false (c.loop-i.invariant weight said weights calls)
