use Rattle.std.proofs.Common.{◌<◌, ℕ, sym, subst, length}
use Rattle.tree_topology.proofs.{ListReads.read-at, ComponentSteps.leads-lower, ComponentSteps.leads-further}
use Rattle.tree_topology.proofs.components.Components.leader.Goals as goal

pub loop-next-smaller : goal.loop-next-smaller
loop-next-smaller c =
    leads-lower c.args.self.now.leaders.items c.args.self.now.ranks.items c.loop-next.at c.loop-next.next c.requires.led c.loop-next.invariant.0 c.loop-next.invariant.1 c.loop-next-test.true

pub loop-next-preserved : goal.loop-next-preserved
loop-next-preserved c =
    let leaders = c.args.self.now.leaders.items in
    let h = c.loop-next.invariant in
    let F : ℕ → Type 0 = λ t. t < length leaders in
    let within : c.loop-next.next < length leaders = subst F (sym h.1) (c.requires.led.within c.loop-next.at h.0) in (
      within,
      read-at leaders c.loop-next.next c.from-in-loop-next.result c.index-next-in-loop-next.result.now 0 c.from-in-loop-next.ensures within c.index-next-in-loop-next.ensures,
      (λ links along. leads-further links leaders c.args.node c.loop-next.at c.loop-next.next along h.0 h.1 (h.2 links along)),
    )
