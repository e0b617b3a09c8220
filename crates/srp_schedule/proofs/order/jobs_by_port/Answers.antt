use Rattle.std.proofs.Common.{◌≡◌, ◌-◌, ◌+◌, ◌<◌, ℕ, ap, ◌∙◌, arith}
use Rattle.srp_base.proofs.Lists.{pushed_length}
use Rattle.node_core.specs.State.{ports_of, job_list}
use Rattle.srp_schedule.proofs.OrderLemmas.{port_more}
use Rattle.srp_schedule.proofs.order.jobs_by_port.Goals as goal

pub loop-at-preserved : goal.loop-at-preserved
loop-at-preserved c =
    let less : c.loop-at.at + 1 - 1 ≡ c.loop-at.at = omega arith in
    let count = c.ports-at-end.ensures in
    let test = c.loop-at-test.true in
    let lt : c.loop-at.at < ports_of c.args.node.now.state = omega (arith, count, test) in (
      port_more (λ at. job_list at c.args.node.now.state) c.loop-at.at (ports_of c.args.node.now.state) c.loop-at.jobs.items _ c.in_ok-jobs.field-0 _ lt
          (c.in_ok-jobs.ensures ∙ ap (λ (k : ℕ). job_list k c.args.node.now.state) less) c.in_ok-push.ensures.items c.loop-at.invariant.0,
      pushed_length c.loop-at.jobs.items _ c.in_ok-jobs.field-0 c.loop-at.at c.in_ok-push.ensures.items c.loop-at.invariant.1,
    )
