-- From the first that is later on all are.
use Rattle.std.proofs.Common.{◌+◌, ◌<◌, length, arith}
use Rattle.credit_shaper.specs.{no_slopes, change_bit}
use Rattle.credit_shaper.proofs.MomentLemmas.{in_order_changes, all_later}
use Rattle.credit_shaper.proofs.moments.changed_by.Goals as goal

pub returns-then-changes-i : goal.returns-then-changes-i
returns-then-changes-i c =
    let here : c.loop-i.i < length c.args.changes.now = omega arith in
    record {
      within = omega arith;
      before = c.loop-i.invariant;
      later = all_later change_bit c.args.changes.now (c.args.bit + 1) c.loop-i.i no_slopes (in_order_changes c.args.changes.now c.requires.order) here (omega (arith, c.if-changes-i.true));
    }
