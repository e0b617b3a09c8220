-- From the next one on all are at its bit time or later.
use Rattle.std.proofs.Common.{◌<◌, length, arith, sym, ap}
use Rattle.std.proofs.lemmas.Bool.{ltb-true}
use Rattle.credit_shaper.specs.{arrival_bit}
use Rattle.credit_shaper.proofs.MomentLemmas.{in_order_arrivals, all_later}
use Rattle.credit_shaper.proofs.moments.next_arrival.Goals as goal

pub returns-in-Some-clause-before : goal.returns-in-Some-clause-before
returns-in-Some-clause-before c =
    let seen = c.in-Some.ensures.lookup in
    let here : c.args.came < length c.args.arrivals.now = omega (arith, ltb-true c.args.came (length c.args.arrivals.now) (sym seen.0)) in
    all_later arrival_bit c.args.arrivals.now c.min.result c.args.came c.in-Some.x.now (in_order_arrivals c.args.arrivals.now c.requires) here (omega (arith, ap arrival_bit seen.1))
