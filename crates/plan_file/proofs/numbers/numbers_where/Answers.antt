use Rattle.plan_file.proofs.NumberLemmas.{where-over, where-step}
use Rattle.plan_file.proofs.numbers.numbers_where.Goals as goal

pub loop-i-preserved : goal.loop-i-preserved
loop-i-preserved g c said calls =
    where-step said c.args.from c.args.count c.loop-i.i c.loop-i.found.items c.put_where.new.found.items c.test-passes.result _ c.loop-i-test.true
    (calls _ _ c.test-passes.ensures) c.in_ok-put_where.ensures (c.loop-i.invariant said calls)

pub returns : goal.returns
returns g c said calls =
    where-over said c.args.from c.args.count c.loop-i.i c.loop-i.found.items _ c.loop-i-test.false (c.loop-i.invariant said calls)
