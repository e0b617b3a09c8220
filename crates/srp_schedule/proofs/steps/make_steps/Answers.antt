use Rattle.std.proofs.Common.{◌≡◌, ◌<◌, ℕ, length, slice_set, ap, sym, subst, ◌∙◌, arith}
use Rattle.tree_topology.specs.Topology.{Topology}
use Rattle.srp_schedule.specs.{AreRests}
use Rattle.srp_schedule.proofs.{RestLemmas.one_rest, RestLemmas.rest_read, StepLemmas.next_node}
use Rattle.srp_schedule.proofs.steps.make_steps.Goals as goal

pub loop-x-preserved : goal.loop-x-preserved
loop-x-preserved c =
    let start = c.args.world.now in
    let test = c.loop-x-test.true in
    let count : c.nodes-x-end.result ≡ length start.tree.kinds = c.nodes-x-end.ensures ∙ ap (λ (t : Topology). length t.kinds) c.tree.ensures in
    let steps = c.in_ok-steps.steps.items in
    let made = c.in_ok-steps.ensures.made in (
      next_node c.loop-x.x start c.loop-x.world c.make_or_rest.new.world c.loop-x.made.items c.push_steps.new.made.items steps c.keeps.ensures (omega (arith, test, count))
          c.in_ok-push_steps.ensures made c.loop-x.invariant.0,
      subst (λ (k : ℕ). AreRests c.make_or_rest.new.world (slice_set c.loop-x.rests.items k c.make_or_rest.new.rest)) (sym c.from.ensures)
          (one_rest c.loop-x.x c.loop-x.world c.make_or_rest.new.world c.loop-x.rests.items c.make_or_rest.new.rest steps c.loop-x.invariant.1 made c.in_ok-steps.ensures.rest),
    )

pub make_or_rest-requires-clause-rest : goal.make_or_rest-requires-clause-rest
make_or_rest-requires-clause-rest c =
    let start = c.args.world.now in
    let count : c.nodes-x-end.result ≡ length start.tree.kinds = c.nodes-x-end.ensures ∙ ap (λ (t : Topology). length t.kinds) c.tree.ensures in
    let below : c.loop-x.x < length c.loop-x.rests.items =
    omega (arith, c.loop-x-test.true, count, c.loop-x.invariant.1.count, ap (λ (t : Topology). length t.kinds) c.loop-x.invariant.0.tree) in
    rest_read c.loop-x.world c.loop-x.rests.items c.loop-x.x c.from.result _ c.loop-x.invariant.1 below c.from.ensures c.index_mut.ensures.value
