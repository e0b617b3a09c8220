use Rattle.std.proofs.Common.{◌≡◌, ◌⊎◌, inl, inr, ℕ, ◌+◌, ◌<◌, ◌≤◌, sym, subst}
use Rattle.std.specs.Prelude.{◌^◌}
use Rattle.srp_base.specs.declared.{mrp.App.App, numbers.EgressPort.EgressPort}
use Rattle.tree_topology.specs.Topology.{Topology, HasPort}
use Rattle.world_core.specs.Marks.{MarksState, mark_at}
use Rattle.port_worker.proofs.Lists.{up_to}
use Rattle.port_worker.proofs.gather.few_are_on_their_way.Goals as goal

-- one node more
more : (tree : Topology) (m : MarksState) (app : App) (p : EgressPort) (x : ℕ) → HasPort tree p
    → (p.node.0 ≤ x → (mark_at app p m).flying < 2 ^ 65)
    → (HasPort tree (record { node = record { 0 = x + 1 }; port = p.port }) → (mark_at app (record { node = record { 0 = x + 1 }; port = p.port }) m).flying < 2 ^ 65)
    → (p.node.0 ≤ x) ⊎ (p.node.0 ≡ x + 1) → (mark_at app p m).flying < 2 ^ 65
more tree m app p x has earlier here (inl le) = earlier le
more tree m app p x has earlier here (inr e) =
    subst (λ (k : ℕ). (mark_at app (record { node = record { 0 = k }; port = p.port }) m).flying < 2 ^ 65) (sym e)
    (here (subst (λ (k : ℕ). HasPort tree (record { node = record { 0 = k }; port = p.port })) e has))

pub loop-x-preserved : goal.loop-x-preserved
loop-x-preserved c = λ app p has le.
    more c.args.world.now.tree c.args.world.now.marks app p c.loop-x.x has (λ earlier. c.loop-x.invariant app p has earlier) (λ there. c.few_from_node.ensures app p.port there)
    (up_to p.node.0 c.loop-x.x le)
