use Rattle.std.proofs.Common.{◌≡◌, ℕ, ◌+◌, ◌-◌, subst, ◌∙◌, arith}
use Rattle.std.specs.Prelude.{Some, slice_get}
use Rattle.delay_report.proofs.ListenerLemmas.{next_delay}
use Rattle.delay_report.proofs.listeners.put_stream.Goals as goal

pub loop-i-preserved : goal.loop-i-preserved
loop-i-preserved c =
    let nodes = c.args.world.now.nodes in
    let i = c.loop-i.i in
    let s = c.node.result.now.state in
    let same : i + 1 - 1 ≡ i = omega arith in
    let at : slice_get nodes i ≡ Some s = subst (λ (k : ℕ). slice_get nodes k ≡ Some s) same c.node.ensures in
    next_delay c.args.run.now c.args.answer.now (i + 1) i c.loop-i.out.items c.put_node.new.out.items nodes s at c.in_ok-put_node.ensures
    ∙ c.loop-i.invariant
