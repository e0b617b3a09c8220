-- From the next one on all are at its bit time or later.
use Rattle.std.proofs.Common.{◌<◌, length, arith, sym, ap}
use Rattle.std.proofs.lemmas.Bool.{ltb-true}
use Rattle.credit_shaper.specs.{change_bit}
use Rattle.credit_shaper.proofs.MomentLemmas.{in_order_changes, all_later}
use Rattle.credit_shaper.proofs.moments.next_change.Goals as goal

pub returns-in-Some-clause-before : goal.returns-in-Some-clause-before
returns-in-Some-clause-before c =
    let seen = c.in-Some.ensures.lookup in
    let here : c.args.changed < length c.args.changes.now = omega (arith, ltb-true c.args.changed (length c.args.changes.now) (sym seen.0)) in
    all_later change_bit c.args.changes.now c.min.result c.args.changed c.in-Some.x.now (in_order_changes c.args.changes.now c.requires) here (omega (arith, ap change_bit seen.1))
