use Rattle.std.proofs.Common.{◌≡◌, ◌+◌, length, ap, ◌∙◌, arith}
use Rattle.tree_topology.specs.Topology.{Topology}
use Rattle.world_core.specs.{WorldState, carried_ends}
use Rattle.world_core.proofs.LinksCarried.{one_carried}
use Rattle.world_core.proofs.carry.carry_all.Goals as goal

pub loop-n-preserved : goal.loop-n-preserved
loop-n-preserved c =
    let start = c.args.world.now in
    let count : c.links-n-end.result ≡ length start.tree.links = c.links-n-end.ensures ∙ ap (λ (t : Topology). length t.links) c.tree.ensures in
    let test = c.loop-n-test.true in
    one_carried c.loop-n.n start c.loop-n.world c.carry_link.new.world (omega (arith, count, test)) c.in_ok-carry_link.ensures
    (ap (λ (w : WorldState). w.tree) c.in_ok-carry_link.ensures ∙ c.what_is_allowed_may_happen.ensures.trees (carried_ends c.loop-n.world.tree (c.loop-n.n + 1)) c.loop-n.world)
    c.loop-n.invariant
