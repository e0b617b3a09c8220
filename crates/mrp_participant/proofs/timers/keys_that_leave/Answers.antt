use Rattle.std.proofs.Common.{◌∙◌, ◌++◌, if◌then◌else◌, refl, ap, arith}
use Rattle.std.specs.declared.option.Option.TheVariants.{Some, None}
use Rattle.mrp_participant.specs.{leave_is_due}
use Rattle.mrp_participant.proofs.Places.{made_more, all_made, keys_of_leaving}
use Rattle.mrp_participant.proofs.timers.keys_that_leave.Goals as goal

pub loop-row-init : goal.loop-row-init
loop-row-init g c = record { keys = refl; len = omega arith; capacity = refl }

pub loop-row-preserved : goal.loop-row-preserved
loop-row-preserved g c =
    record {
      keys =
          made_more (λ r. if leave_is_due c.args.now.0 r then Some r.key else None)
          c.args.rows.now _ _ _ _ c.loop-row-test.true c.row-item.is c.loop-row.invariant.keys _ c.key_that_leaves.ensures _ c.push_within.ensures.items;
      len = omega (arith, c.loop-row.invariant.len, c.push_within.ensures.len);
      capacity = c.push_within.ensures.capacity ∙ c.loop-row.invariant.capacity;
    }

pub returns : goal.returns
returns g c =
    all_made (λ r. if leave_is_due c.args.now.0 r then Some r.key else None)
    c.args.rows.now _ _ _ c.loop-row-test.false c.loop-row.invariant.keys
    ∙ ap (λ l. c.args.keys.now.items ++ l) (keys_of_leaving c.args.now.0 c.args.rows.now)
