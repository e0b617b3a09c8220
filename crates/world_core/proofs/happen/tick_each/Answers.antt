use Rattle.std.proofs.Common.{◌≡◌, length, vec_len, true, arith, rules}
use Rattle.std.specs.Prelude.{◌<◌, ◌^◌}
use Rattle.node_core.specs.{Holding.NodeHolding, State.NodeState, Step.clocked_node}
use Rattle.world_core.proofs.{Happenings.each_state, Happenings.none_ticked, Happenings.next_as_before, Happenings.ticked_more, Happenings.all_ticked, Histories.each_read}
use Rattle.world_core.proofs.happen.tick_each.Goals as goal

pub loop-i-init : goal.loop-i-init
loop-i-init c = none_ticked clocked_node c.args.nodes.now.items

pub tick-requires-clause-clock : goal.tick-requires-clause-clock
tick-requires-clause-clock c =
    let nodes = c.args.nodes.now.items in
    let count : vec_len c.args.nodes.now ≡ length nodes = search rules in
    each_state (λ (s : NodeState). s.clock.0 < 2 ^ 61) nodes c.loop-i.i c.index_mut.result.now c.requires.clock (omega (arith, c.loop-i-test.true, c.len-i-end.ensures, count))
    (next_as_before clocked_node c.loop-i.i nodes c.loop-i.nodes.items c.index_mut.result.now c.loop-i.invariant c.index_mut.ensures.value)

pub tick-requires-clause-ready : goal.tick-requires-clause-ready
tick-requires-clause-ready c =
    let nodes = c.args.nodes.now.items in
    let count : vec_len c.args.nodes.now ≡ length nodes = search rules in
    each_read (λ (n : NodeHolding). n.ready ≡ true) nodes c.loop-i.i c.index_mut.result.now c.requires.ready (omega (arith, c.loop-i-test.true, c.len-i-end.ensures, count))
    (next_as_before clocked_node c.loop-i.i nodes c.loop-i.nodes.items c.index_mut.result.now c.loop-i.invariant c.index_mut.ensures.value)

pub loop-i-preserved : goal.loop-i-preserved
loop-i-preserved c =
    ticked_more clocked_node c.loop-i.i c.args.nodes.now.items c.loop-i.nodes.items c.index_mut.result.now c.tick.new.node c.loop-i.invariant c.index_mut.ensures.value c.tick.ensures

pub returns : goal.returns
returns c =
    let nodes = c.args.nodes.now.items in
    let count : vec_len c.args.nodes.now ≡ length nodes = search rules in
    all_ticked clocked_node c.loop-i.i nodes c.loop-i.nodes.items (omega (arith, c.loop-i-test.false, c.len-i-end.ensures, count)) c.loop-i.invariant
