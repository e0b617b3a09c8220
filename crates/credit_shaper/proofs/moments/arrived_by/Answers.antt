-- From the first that is later on all are.
use Rattle.std.proofs.Common.{◌+◌, ◌<◌, length, arith}
use Rattle.credit_shaper.specs.{arrival_bit}
use Rattle.credit_shaper.proofs.MomentLemmas.{in_order_arrivals, all_later, blank}
use Rattle.credit_shaper.proofs.moments.arrived_by.Goals as goal

pub returns-then-arrivals-i : goal.returns-then-arrivals-i
returns-then-arrivals-i c =
    let here : c.loop-i.i < length c.args.arrivals.now = omega arith in
    record {
      within = omega arith;
      before = c.loop-i.invariant;
      later = all_later arrival_bit c.args.arrivals.now (c.args.bit + 1) c.loop-i.i blank (in_order_arrivals c.args.arrivals.now c.requires.order) here (omega (arith, c.if-arrivals-i.true));
    }
