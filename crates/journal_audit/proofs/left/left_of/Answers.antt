use Rattle.std.proofs.Common.{◌-◌, ◌+◌, ◌<◌, arith}
use Rattle.srp_base.proofs.Lists.{pushed_length}
use Rattle.node_core.specs.State.{ports_of}
use Rattle.journal_audit.specs.{left_at, left_of}
use Rattle.journal_audit.proofs.ListLemmas.{one_more}
use Rattle.journal_audit.proofs.left.left_of.Goals as goal

pub loop-at-preserved : goal.loop-at-preserved
loop-at-preserved c =
    let count = c.ports-at-end.ensures in
    let test = c.loop-at-test.true in
    let node = c.args.node.now.state in
    let lt : c.loop-at.at < ports_of node = omega (arith, count, test) in (
      one_more (left_at c.args.scenario.now c.args.t c.args.number node) c.loop-at.at (ports_of node - c.loop-at.at) (ports_of node - (c.loop-at.at + 1))
          c.loop-at.left.items c.push.new.self.items c.in_ok-left_at.field-0
          (left_of c.args.scenario.now c.args.t c.args.number node) (omega (arith, lt)) (omega (arith, lt)) c.in_ok-left_at.ensures c.in_ok-push.ensures.items c.loop-at.invariant.0,
      pushed_length c.loop-at.left.items c.push.new.self.items c.in_ok-left_at.field-0 c.loop-at.at c.in_ok-push.ensures.items c.loop-at.invariant.1,
    )
