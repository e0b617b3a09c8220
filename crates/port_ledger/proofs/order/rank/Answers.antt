use Rattle.std.proofs.Common.{◌≡◌, ◌<◌, suc, ◌-◌, ◌++◌, length, take, drop, ◌∙◌, ap, arith}
use Rattle.port_ledger.specs.{importance_order}
use Rattle.port_ledger.proofs.Sinking.{rank_step}
use Rattle.port_ledger.proofs.order.rank.Goals as goal

pub loop-rest-preserved : goal.loop-rest-preserved
loop-rest-preserved c =
    let on : c.loop-rest.rest ≡ suc (c.loop-rest.rest - 1) = omega (arith, c.loop-rest-test.true) in
    let within : c.loop-rest.rest - 1 < length c.args.entries.now = omega (arith, c.loop-rest.invariant.0, c.loop-rest-test.true) in (
      omega (arith, within),
      rank_step c.args.now.0 (c.loop-rest.rest - 1) c.args.entries.now c.loop-rest.entries _ within
          (c.loop-rest.invariant.1 ∙ ap (λ k. take k c.args.entries.now ++ importance_order c.args.now.0 (drop k c.args.entries.now)) on)
          c.place_first.ensures,
    )
