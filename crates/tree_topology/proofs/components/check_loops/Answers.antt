use Rattle.std.proofs.Common.{refl, ◌+◌, length, take, arith}
use Rattle.tree_topology.specs.{joined_leaders, joined_ranks}
use Rattle.tree_topology.proofs.ComponentSteps.{HasComponents, IsLoopFreeTo, components-start, components-as, loop-found, loop_free-step}
use Rattle.tree_topology.proofs.components.check_loops.Goals as goal

pub loop-i-init : goal.loop-i-init
loop-i-init c = components-start _ _ _ _ _ refl c.in_ok-components.ensures.leaders c.in_ok-components.ensures.ranks

pub returns-then-a-b-clause-err : goal.returns-then-a-b-clause-err
returns-then-a-b-clause-err c =
    let earlier = take c.loop-i.i c.args.links.now in
    let along = c.loop-i.invariant.0.along in (
      c.requires.graph,
      loop-found _ _ _ _ _ c.loop-i.invariant.1 c.loop-i-test.true
          (c.leader-a.ensures.connected earlier along) (c.leader-b.ensures.connected earlier along) c.if-a-b.true,
    )

pub loop-i-preserved : goal.loop-i-preserved
loop-i-preserved c =
    let earlier = take c.loop-i.i c.args.links.now in
    let along = c.loop-i.invariant.0.along in
    let size = c.loop-i.components.leaders.ok.0 in
    let here : HasComponents (length c.args.nodes.now) (take (c.loop-i.i + 1) c.args.links.now)
    (joined_leaders c.loop-i.components.leaders.items c.loop-i.components.ranks.items c.leader-a.result c.leader-b.result)
    (joined_ranks c.loop-i.components.ranks.items c.leader-a.result c.leader-b.result) × IsLoopFreeTo c.args.links.now (c.loop-i.i + 1) =
    loop_free-step _ _ _ _ _ _ _ _ c.loop-i.invariant.0 c.requires.few_links c.loop-i.invariant.1 c.loop-i-test.true
    (omega (arith, size, c.leader-a.ensures.within)) (omega (arith, size, c.leader-b.ensures.within)) c.if-a-b.false c.leader-a.ensures.leader
    c.leader-b.ensures.leader (c.leader-a.ensures.connected earlier along) (c.leader-b.ensures.connected earlier along) in
    components-as _ _ _ _ _ _ _ _ here c.join.ensures.leaders c.join.ensures.ranks

pub returns-clause-ok : goal.returns-clause-ok
returns-clause-ok c = λ i d lt. c.loop-i.invariant.1 i d (omega (arith, lt, c.loop-i-test.false))
